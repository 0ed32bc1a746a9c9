-- Looking for the first unbound variable, as a loop does.
use Rattle.std.proofs.Common.{◌≡◌, ℕ, ◌<◌, Bool, true, false, cond, List, [], ◌∷◌, length, Option, Some, None, Result, Ok, Err, refl, ap, ◌∙◌, arith}
use Rattle.cq_atom.specs.Atom.{AtomRecord}
use Rattle.cq_text.specs.declared.fault.Kind.{Kind}
use Rattle.cq_text.specs.declared.fault.Kind.TheVariants.{Shape}
use Rattle.cq_text.specs.declared.fault.TextFault.{TextFault}
use Rattle.cq_text.specs.declared.fault.TextFault.TheVariants.{At, NoMemory}
use Rattle.cq_text.specs.declared.token.Token.TheVariants.{Mark, Word, Literal, Bad, Finish}
use Rattle.cq_text.specs.Token.{TokenContent, LexemeContent, flaw}
use Rattle.cq_text.specs.Fault.{is_unbound}
use Rattle.cq_text.specs.Steps.Lexemes.{Ahead, Fails, fault, unless_flawed, ◌>>=◌, next_of, next_at, is_finish}
use Rattle.cq_text.specs.Steps.Lists.{unbound_at, first_unbound_of, first_unbound_from}
use Rattle.cq_text.proofs.Binds.{bind_ok, ok_is, never_ok}

good_token : (t : TokenContent) → flaw t ≡ None → is_finish t ≡ false
good_token (Mark s) e = refl
good_token (Word w) e = refl
good_token (Literal v) e = refl
good_token (Bad kind) e = absurd cc
good_token Finish e = absurd cc

abbrev walked : List AtomRecord → LexemeContent × Ahead → Result ℕ TextFault
walked body l = cond (is_unbound body l.0.token) (Ok l.0.at) (cond (is_finish l.0.token) (fault Shape l.0.at) (first_unbound_from body l.1))

step : (body : List AtomRecord) (a : Ahead) → first_unbound_from body a ≡ (next_at a >>= walked body)
unfolding first_unbound_from next_at
step body a = over a.lexemes a.end
  where
    token_step : (m : LexemeContent) (ms : List LexemeContent) (end : ℕ) (f : Option Kind) → flaw m.token ≡ f
        → (unless_flawed f m.at m >>= λ k. cond (is_unbound body m.token) (Ok m.at) (first_unbound_of body ms end))
        ≡ (unless_flawed f m.at (m, record { lexemes = ms; end = end }) >>= walked body)
    token_step m ms end None e = rw (good_token m.token e) refl
    token_step m ms end (Some kind) e = refl

    over : (ls : List LexemeContent) (end : ℕ) → first_unbound_of body ls end ≡ (next_of ls end >>= walked body)
    over [] end = refl
    over (m ∷ ms) end = token_step m ms end (flaw m.token) refl

abbrev found : Bool → Bool → LexemeContent → Ahead → Result (Option ℕ × Ahead) TextFault
found u f l b = cond u (Ok (Some l.at, b)) (cond f (fault Shape l.at) (Ok (None, b)))

found_some : (u f : Bool) (l : LexemeContent) (b c : Ahead) (at : ℕ) → found u f l b ≡ Ok (Some at, c) → (u ≡ true) × (l.at ≡ at)
found_some true f l b c at e = (refl, same (ap (λ (p : Option ℕ × Ahead). p.0) (ok_is (Some l.at, b) (Some at, c) e)))
  where
    same : Some l.at ≡ Some at → l.at ≡ at
    same h = cc
found_some false true l b c at e = absurd (never_ok Shape l.at (Some at, c) e)
found_some false false l b c at e = absurd (apart (ap (λ (p : Option ℕ × Ahead). p.0) (ok_is (None, b) (Some at, c) e)))
  where
    apart : ◌≡◌ {A = Option ℕ} None (Some at) → ⊥
    apart h = cc

found_none : (u f : Bool) (l : LexemeContent) (b c : Ahead) → found u f l b ≡ Ok (None, c) → (u ≡ false) × (f ≡ false) × (b ≡ c)
found_none true f l b c e = absurd (apart (ap (λ (p : Option ℕ × Ahead). p.0) (ok_is (Some l.at, b) (None, c) e)))
  where
    apart : Some l.at ≡ None → ⊥
    apart h = cc
found_none false true l b c e = absurd (never_ok Shape l.at (None, c) e)
found_none false false l b c e = (refl, refl, ap (λ (p : Option ℕ × Ahead). p.1) (ok_is (None, b) (None, c) e))

pub walk_found : (body : List AtomRecord) (a b : Ahead) (at : ℕ) → unbound_at body a ≡ Ok (Some at, b) → first_unbound_from body a ≡ Ok at
unfolding unbound_at
walk_found body a b at e =
    let p = bind_ok (next_at a) _ (Some at, b) e in
    let f = found_some (is_unbound body p.0.0.token) (is_finish p.0.0.token) p.0.0 p.0.1 b at p.2 in
    step body a ∙ rw (p.1, f.0) (ap (λ (n : ℕ). Ok n) f.1)

pub walk_on : (body : List AtomRecord) (a b : Ahead) → unbound_at body a ≡ Ok (None, b) → first_unbound_from body a ≡ first_unbound_from body b
unfolding unbound_at
walk_on body a b e =
    let p = bind_ok (next_at a) _ (None, b) e in
    let f = found_none (is_unbound body p.0.0.token) (is_finish p.0.0.token) p.0.0 p.0.1 b p.2 in
    step body a ∙ rw (p.1, f.0, f.1) (ap (first_unbound_from body) f.2)

fault_is : {X : Type 0} (k j : Kind) (m n : ℕ) → ◌≡◌ {A = Result X TextFault} (fault k m) (fault j n) → (k ≡ j) × (m ≡ n)
fault_is k j m n e = (cc, cc)

found_fails : (body : List AtomRecord) (u f : Bool) (l : LexemeContent) (b : Ahead) (kind : Kind) (offset : ℕ) → found u f l b ≡ fault kind offset → cond u (Ok l.at) (cond f (fault Shape l.at) (first_unbound_from body b)) ≡ fault kind offset
found_fails body true f l b kind offset e = absurd cc
found_fails body false true l b kind offset e = let s = fault_is Shape kind l.at offset e in ap (λ (k : Kind). fault k l.at) s.0 ∙ ap (λ (n : ℕ). fault kind n) s.1
found_fails body false false l b kind offset e = absurd cc

pub walk_fails : (body : List AtomRecord) (a : Ahead) (e : TextFault) → Fails e (unbound_at body a) → Fails e (first_unbound_from body a)
unfolding unbound_at
walk_fails body a NoMemory h = tt
walk_fails body a (At kind offset) h = step body a ∙ over (next_at a) h
  where
    err_is : (e d : TextFault) → ◌≡◌ {A = Result (Option ℕ × Ahead) TextFault} (Err e) (Err d) → ◌≡◌ {A = Result ℕ TextFault} (Err e) (Err d)
    err_is e d k = ap (λ (x : TextFault). Err x) cc

    over : (r : Result (LexemeContent × Ahead) TextFault) → (r >>= λ l. found (is_unbound body l.0.token) (is_finish l.0.token) l.0 l.1) ≡ fault kind offset → (r >>= walked body) ≡ fault kind offset
    over (Ok l) k = found_fails body (is_unbound body l.0.token) (is_finish l.0.token) l.0 l.1 kind offset k
    over (Err e) k = err_is e (At kind offset) k

-- a good token is one lexeme less
next_shorter : (a b : Ahead) (l : LexemeContent) → next_at a ≡ Ok (l, b) → is_finish l.token ≡ false → length b.lexemes < length a.lexemes
unfolding next_at
next_shorter a b l e f = over a.lexemes a.end e
  where
    pair_is : (m : LexemeContent) (c : Ahead) → ◌≡◌ {A = Result (LexemeContent × Ahead) TextFault} (Ok (m, c)) (Ok (l, b)) → (m ≡ l) × (c ≡ b)
    pair_is m c h = let p = ok_is (m, c) (l, b) h in (ap (λ (q : LexemeContent × Ahead). q.0) p, ap (λ (q : LexemeContent × Ahead). q.1) p)

    true_false : true ≡ false → ⊥
    true_false h = cc

    token_step : (m : LexemeContent) (ms : List LexemeContent) (end : ℕ) (g : Option Kind) → unless_flawed {A = LexemeContent × Ahead} g m.at (m, record { lexemes = ms; end = end }) ≡ Ok (l, b) → length b.lexemes < length (m ∷ ms)
    token_step m ms end None h = let p = pair_is m (record { lexemes = ms; end = end }) h in let k = ap (λ (c : Ahead). length c.lexemes) p.1 in omega arith
    token_step m ms end (Some kind) h = absurd cc

    over : (ls : List LexemeContent) (end : ℕ) → next_of ls end ≡ Ok (l, b) → length b.lexemes < length ls
    over [] end h = let p = pair_is (record { at = end; token = Finish }) (record { lexemes = []; end = end }) h in absurd (true_false (ap (λ (m : LexemeContent). is_finish m.token) p.0 ∙ f))
    over (m ∷ ms) end h = token_step m ms end (flaw m.token) h

pub walk_shorter : (body : List AtomRecord) (a b : Ahead) → unbound_at body a ≡ Ok (None, b) → length b.lexemes < length a.lexemes
unfolding unbound_at
walk_shorter body a b e =
    let p = bind_ok (next_at a) _ (None, b) e in
    let f = found_none (is_unbound body p.0.0.token) (is_finish p.0.0.token) p.0.0 p.0.1 b p.2 in
    let lt = next_shorter a p.0.1 p.0.0 p.1 f.1 in
    let n = ap (λ (c : Ahead). length c.lexemes) f.2 in
    omega arith
