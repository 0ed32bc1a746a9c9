-- What a function that reads gives, step by step.
use Rattle.std.proofs.Common.{◌≡◌, ℕ, Bool, true, false, Result, Ok, Err, sym, ap, subst, ◌∙◌}
use Rattle.std.specs.Prelude.{if◌then◌else◌}
use Rattle.std.specs.Result.{IsErrAnd}
use Rattle.cq_text.specs.declared.fault.TextFault.{TextFault}
use Rattle.cq_text.specs.declared.token.Close.{Close}
use Rattle.cq_text.specs.Steps.Lexemes.{Ahead, ◌>>=◌, Gives, Fails, next_is_at, passes_at}
use Rattle.cq_text.proofs.Binds.{bind_assoc}
use Rattle.cq_text.proofs.Names.{fails_on}

module _ {X Y : Type 0} (view : X → Y) where
  -- the fault that a `?` passes on
  pub passed_on : (r : Result X TextFault) (e : TextFault) (read : Result Y TextFault) → IsErrAnd r (λ d. d ≡ e) → Fails e read → Gives view r read
  passed_on (Ok x) e read is h = absurd is
  passed_on (Err d) e read is h = subst (λ (f : TextFault). Fails f read) (sym is) h

  -- the first step fails
  pub stops : {A : Type 0} (r : Result X TextFault) (e : TextFault) (first : Result A TextFault) (f : A → Result Y TextFault) → IsErrAnd r (λ d. d ≡ e) → Fails e first → Gives view r (first >>= f)
  stops r e first f is h = passed_on r e (first >>= f) is (fails_on e first f h)

  -- the first step gives a value, and what follows reads on
  pub goes_on : {A : Type 0} (r : Result X TextFault) (first : Result A TextFault) (x : A) (f : A → Result Y TextFault) → first ≡ Ok x → Gives view r (f x) → Gives view r (first >>= f)
  goes_on {A} r first x f is h = subst (λ (z : Result A TextFault). Gives view r (z >>= f)) (sym is) h

-- ---- what closes a list

passes_by : (close : Close) (a : Ahead) → passes_at close a ≡ (next_is_at close a >>= λ x. Ok (x.0, if x.0 then x.2 else a))
unfolding passes_at next_is_at
passes_by close a = sym (simp bind_assoc)

module _ (close : Close) (a now start : Ahead) (same : now ≡ a) (again : start ≡ now) where
  passes_again : passes_at close a ≡ (next_is_at close start >>= λ x. Ok (x.0, if x.0 then x.2 else now))
  passes_again = subst (λ (s : Ahead). passes_at close a ≡ (next_is_at close s >>= λ x. Ok (x.0, if x.0 then x.2 else now))) (sym again)
      (subst (λ (s : Ahead). passes_at close a ≡ (next_is_at close s >>= λ x. Ok (x.0, if x.0 then x.2 else s))) (sym same) (passes_by close a))

  passes_all : (is : Bool) (at : ℕ) (b : Ahead) → next_is_at close start ≡ Ok (is, at, b) → passes_at close a ≡ Ok (is, if is then b else now)
  passes_all is at b h = passes_again ∙ ap (λ (r : Result (Bool × ℕ × Ahead) TextFault). r >>= λ x. Ok (x.0, if x.0 then x.2 else now)) h

  pub passes_fails : (e : TextFault) → Fails e (next_is_at close start) → Fails e (passes_at close a)
  passes_fails e h = subst (Fails e) (sym passes_again) (fails_on e (next_is_at close start) (λ x. Ok (x.0, if x.0 then x.2 else now)) h)

  pub passes_true : (is : Bool) (at : ℕ) (b : Ahead) → next_is_at close start ≡ Ok (is, at, b) → is ≡ true → passes_at close a ≡ Ok (true, b)
  passes_true is at b h t = passes_all is at b h ∙ ap (λ (i : Bool). Ok (i, if i then b else now)) t

  pub passes_false : (is : Bool) (at : ℕ) (b : Ahead) → next_is_at close start ≡ Ok (is, at, b) → is ≡ false → passes_at close a ≡ Ok (false, now)
  passes_false is at b h f = passes_all is at b h ∙ ap (λ (i : Bool). Ok (i, if i then b else now)) f
