-- A pass over the lexemes that stops at the first fault, and why this fault is the first one.
use Rattle.std.proofs.Common.{◌≡◌, ℕ, Bool, true, false, List, [], ◌∷◌, ◌++◌, Option, Some, None, Result, Ok, Err, refl, sym, ap, subst, ◌∙◌, append_assoc, inl, inr, cond, ◌⊎◌}
use Rattle.std.proofs.lemmas.List.{append-nil}
use Rattle.std.proofs.lemmas.List.Sums.{fold-append}
use Rattle.cq_text.specs.declared.fault.Kind.{Kind}
use Rattle.cq_text.specs.declared.fault.Kind.TheVariants.{Shape, Limit}
use Rattle.cq_text.specs.declared.fault.TextFault.{TextFault}
use Rattle.cq_text.specs.declared.fault.TextFault.TheVariants.{At, NoMemory}
use Rattle.cq_text.specs.declared.token.Token.TheVariants.{Mark, Word, Literal, Bad, Finish}
use Rattle.cq_text.specs.Token.{TokenContent, LexemeContent, flaw}
use Rattle.cq_text.specs.Fault.{IsViable, Place, opening, behind_token, place_behind, is_over, IsFault, FirstTokenFault}
use Rattle.cq_text.specs.Steps.Lexemes.{fault}
use Rattle.cq_text.proofs.Machine.{Symbol, mark, name, upper, number, value, values_end, term, terms_end, atom, posts_end, heads_end, posts, command, take_token, Expects, first, body_end, body, is_nullable, Holds, Ordered, Ordered-step}
use Rattle.cq_text.proofs.Derive.{take_token-from_expects, expects_from_take_token, completion, Is-nothing, Leaves-from_is, nothing_after}
use Rattle.cq_text.specs.declared.form.Form.{Form}

abbrev pub Checked : Type 0
Checked = Result (Unit {0}) TextFault

-- a token, by the symbols that it leaves and whether it is over a limit
abbrev pub on_token : Option (List Symbol) → Bool → ℕ → (List Symbol → Checked) → Checked
on_token None over at k = fault Shape at
on_token (Some ss) true at k = fault Limit at
on_token (Some ss) false at k = k ss

abbrev pub at_end : List Symbol → ℕ → Checked
at_end [] end = Ok tt
at_end (x ∷ ss) end = cond (is_nullable x) (at_end ss end) (fault Shape end)

abbrev pub after_flaw : Option Kind → ℕ → Checked → Checked
after_flaw (Some kind) at k = fault kind at
after_flaw None at k = k

unfoldable pub scan : (form : Form) → List Symbol → Place → List LexemeContent → ℕ → Checked
scan form ss p [] end = at_end ss end
scan form ss p (l ∷ ls) end = after_flaw (flaw l.token) l.at (on_token (take_token ss l.token) (is_over form p l.token) l.at (λ rs. scan form rs (behind_token form p l.token) ls end))

-- ---- the tokens before leave these symbols

pub record Leave (Whole : List TokenContent → Type 0) (before : List TokenContent) (ss : List Symbol) : Type 0 where
  pub from : (more : List TokenContent) → Expects ss more → Whole (before ++ more)
  pub to : (more : List TokenContent) → Whole (before ++ more) → Expects ss more
  pub ordered : Ordered ss

Leave-step : (Whole : List TokenContent → Type 0) (before : List TokenContent) (ss rs : List Symbol) (t : TokenContent) → flaw t ≡ None → Leave Whole before ss → take_token ss t ≡ Some rs → Leave Whole (before ++ (t ∷ [])) rs
Leave-step Whole before ss rs t f leave e = record {
  from = λ more q. subst Whole (sym (append_assoc before (t ∷ []) more)) (leave.from (t ∷ more) (expects_from_take_token ss t more rs f e q));
  to = λ more s.
      let p = take_token-from_expects ss t more leave.ordered (leave.to (t ∷ more) (subst Whole (append_assoc before (t ∷ []) more) s)) in
      let same : p.0 ≡ rs = same_some p.0 rs (sym p.1 ∙ e) in
      subst (λ (w : List Symbol). Expects w more) same p.2;
  ordered = in_order ss leave.ordered e;
}
  where
    in_order : (w : List Symbol) → Ordered w → take_token w t ≡ Some rs → Ordered rs
    in_order [] o h = absurd cc
    in_order (x ∷ w) o h = Ordered-step x w t rs o h

    same_some : (a b : List Symbol) → Some a ≡ Some b → a ≡ b
    same_some a b h = cc

viable : (Whole : List TokenContent → Type 0) (before : List TokenContent) (ss : List Symbol) → Leave Whole before ss → IsViable Whole before
viable Whole before ss leave = let c = completion ss in (c.0, leave.from c.0 c.1)

not_viable : (Whole : List TokenContent → Type 0) (before : List TokenContent) (ss : List Symbol) (t : TokenContent) → Leave Whole before ss → take_token ss t ≡ None → IsViable Whole (before ++ (t ∷ [])) → ⊥
not_viable Whole before ss t leave e (more, s) =
    let p = take_token-from_expects ss t more leave.ordered (leave.to (t ∷ more) (subst Whole (append_assoc before (t ∷ []) more) s)) in
    some_none p.0 (sym p.1 ∙ e)
  where
    some_none : (a : List Symbol) → Some a ≡ None → ⊥
    some_none a h = cc

place-more : (form : Form) → (before : List TokenContent) (t : TokenContent) → place_behind form (before ++ (t ∷ [])) ≡ behind_token form (place_behind form before) t
unfolding place_behind
place-more form before t = fold-append (behind_token form) opening before (t ∷ [])

-- ---- a fault of the scan is the first fault

abbrev kind_of : Checked → Kind
kind_of (Ok x) = Shape
kind_of (Err (At kind offset)) = kind
kind_of (Err NoMemory) = Shape

abbrev offset_of : Checked → ℕ
offset_of (Ok x) = 0
offset_of (Err (At kind offset)) = offset
offset_of (Err NoMemory) = 0

same_fault : (a b : Kind) (m n : ℕ) → fault {A = Unit {0}} a m ≡ fault b n → (b ≡ a) × (n ≡ m)
same_fault a b m n h = (sym (ap kind_of h), sym (ap offset_of h))

-- what expects nothing more, ends
ends : (ss : List Symbol) (end : ℕ) → Expects ss [] → at_end ss end ≡ Ok tt
ends [] end q = refl
ends (x ∷ ss) end ([], r, d, i, q) = closes (is_nullable x) (Is-nothing x i) (ends ss end (subst (λ (w : List TokenContent). Expects ss w) (sym d) q))
  where
    closes : (b : Bool) → Holds b → at_end ss end ≡ Ok tt → cond b (at_end ss end) (fault Shape end) ≡ Ok tt
    closes true h later = later
    closes false h later = absurd h
ends (x ∷ ss) end (t ∷ f, r, d, i, q) = absurd cc

expects_end : (ss : List Symbol) (end : ℕ) → at_end ss end ≡ Ok tt → Expects ss []
expects_end [] end e = refl
expects_end (x ∷ ss) end e = by_case x e (λ h. expects_end ss end h)
  where
    by_case : (y : Symbol) → cond (is_nullable y) (at_end ss end) (fault Shape end) ≡ Ok tt → (at_end ss end ≡ Ok tt → Expects ss []) → Expects (y ∷ ss) []
    by_case body_end h later = ([], [], refl, inl refl, later h)
    by_case body h later = ([], [], refl, ([], refl), later h)
    by_case y h later = absurd cc

end_checked : (ss : List Symbol) (end : ℕ) → (at_end ss end ≡ Ok tt) ⊎ (at_end ss end ≡ fault Shape end)
end_checked [] end = inl refl
end_checked (x ∷ ss) end = by_case (is_nullable x) (end_checked ss end)
  where
    by_case : (b : Bool) → (at_end ss end ≡ Ok tt) ⊎ (at_end ss end ≡ fault Shape end) → (cond b (at_end ss end) (fault Shape end) ≡ Ok tt) ⊎ (cond b (at_end ss end) (fault Shape end) ≡ fault Shape end)
    by_case true h = h
    by_case false h = inr refl

never_fault : (r : Checked) (kind : Kind) (offset : ℕ) → r ≡ Ok tt → r ≡ fault kind offset → ⊥
never_fault r kind offset e f = let same : ◌≡◌ {A = Checked} (Ok tt) (fault kind offset) = sym e ∙ f in cc

ends_empty : (ss : List Symbol) (end : ℕ) (kind : Kind) (offset : ℕ) → at_end ss end ≡ fault kind offset → (Expects ss [] → ⊥) × (kind ≡ Shape) × (offset ≡ end)
ends_empty ss end kind offset e = elim (end_checked ss end) [
  | inl h ↦ absurd (never_fault (at_end ss end) kind offset h e)
  | inr h ↦
      let s = same_fault Shape kind end offset (sym h ∙ e) in
      (λ q. never_fault (at_end ss end) kind offset (ends ss end q) e, s.0, s.1)
]

no_whole : (Whole : List TokenContent → Type 0) (before : List TokenContent) (ss : List Symbol) → Leave Whole before ss → (Expects ss [] → ⊥) → Whole before → ⊥
no_whole Whole before ss leave none s = none (leave.to [] (subst Whole (sym (append-nil before)) s))

abbrev GoesOn : (form : Form) → (List TokenContent → Type 0) → List TokenContent → List Symbol → LexemeContent → List LexemeContent → ℕ → Kind → ℕ → Type 0
GoesOn form Whole before ss l ls end kind offset = (rs : List Symbol) → flaw l.token ≡ None → take_token ss l.token ≡ Some rs → scan form rs (behind_token form (place_behind form before) l.token) ls end ≡ fault kind offset → FirstTokenFault form Whole (before ++ (l.token ∷ [])) ls end kind offset

false_true : (b : Bool) → b ≡ false → b ≡ true → ⊥
false_true true e h = cc
false_true false e h = cc

first_step : (form : Form) → (Whole : List TokenContent → Type 0) (before : List TokenContent) (ss : List Symbol) (l : LexemeContent) (ls : List LexemeContent) (end : ℕ) (kind : Kind) (offset : ℕ) (f : Option Kind) (o : Option (List Symbol)) (over : Bool)
    → flaw l.token ≡ f → take_token ss l.token ≡ o → is_over form (place_behind form before) l.token ≡ over → Leave Whole before ss → GoesOn form Whole before ss l ls end kind offset
    → after_flaw f l.at (on_token o over l.at (λ rs. scan form rs (behind_token form (place_behind form before) l.token) ls end)) ≡ fault kind offset
    → FirstTokenFault form Whole before (l ∷ ls) end kind offset
first_step form Whole before ss l ls end kind offset (Some k) o over p q r leave more e =
    let s = same_fault k kind l.at offset e in
    inl (subst (λ (g : Option Kind). IsFault form Whole before l.token g kind) (sym p) s.0, s.1)
first_step form Whole before ss l ls end kind offset None None over p q r leave more e =
    let s = same_fault Shape kind l.at offset e in
    inl (subst (λ (g : Option Kind). IsFault form Whole before l.token g kind) (sym p) (inl (s.0, not_viable Whole before ss l.token leave q)), s.1)
first_step form Whole before ss l ls end kind offset None (Some rs) true p q r leave more e =
    let s = same_fault Limit kind l.at offset e in
    inl (subst (λ (g : Option Kind). IsFault form Whole before l.token g kind) (sym p) (inr (s.0, viable Whole (before ++ (l.token ∷ [])) rs (Leave-step Whole before ss rs l.token p leave q), r)), s.1)
first_step form Whole before ss l ls end kind offset None (Some rs) false p q r leave more e =
    inr (viable Whole (before ++ (l.token ∷ [])) rs (Leave-step Whole before ss rs l.token p leave q), false_true _ r, more rs p q e)

pub first_from_scan : (form : Form) → (Whole : List TokenContent → Type 0) (before : List TokenContent) (ss : List Symbol) (ls : List LexemeContent) (end : ℕ) (kind : Kind) (offset : ℕ) → Leave Whole before ss → scan form ss (place_behind form before) ls end ≡ fault kind offset → FirstTokenFault form Whole before ls end kind offset
unfolding scan
first_from_scan form Whole before ss [] end kind offset leave e = let n = ends_empty ss end kind offset e in (no_whole Whole before ss leave n.0, n.1, n.2)
first_from_scan form Whole before ss (l ∷ ls) end kind offset leave e =
    first_step form Whole before ss l ls end kind offset (flaw l.token) (take_token ss l.token) (is_over form (place_behind form before) l.token) refl refl refl leave
    (λ rs f q h. first_from_scan form Whole (before ++ (l.token ∷ [])) rs ls end kind offset (Leave-step Whole before ss rs l.token f leave q) (ap (λ (p : Place). scan form rs p ls end) (place-more form before l.token) ∙ h))
    e

-- ---- and the other way

nothing_expected : (ss : List Symbol) (end : ℕ) → (Expects ss [] → ⊥) → at_end ss end ≡ fault Shape end
nothing_expected ss end none = elim (end_checked ss end) [ inl h ↦ absurd (none (expects_end ss end h)) | inr h ↦ h ]

none_whole : (Whole : List TokenContent → Type 0) (before : List TokenContent) (ss : List Symbol) → Leave Whole before ss → (Whole before → ⊥) → Expects ss [] → ⊥
none_whole Whole before ss leave none q = none (subst Whole (append-nil before) (leave.from [] q))

pub finish_first : (x : Symbol) → first x Finish ≡ None
finish_first (mark s) = refl
finish_first name = refl
finish_first upper = refl
finish_first number = refl
finish_first value = refl
finish_first values_end = refl
finish_first term = refl
finish_first terms_end = refl
finish_first atom = refl
finish_first posts_end = refl
finish_first heads_end = refl
finish_first body_end = refl
finish_first body = refl
finish_first posts = refl
finish_first command = refl

-- no symbol begins with a flawed token
flawed_first : (x : Symbol) (t : TokenContent) (k : Kind) → flaw t ≡ Some k → first x t ≡ None
flawed_first x (Bad kind) k e = bad_first x kind
  where
    bad_first : (x : Symbol) (j : Kind) → first x (Bad j) ≡ None
    bad_first (mark s) j = refl
    bad_first name j = refl
    bad_first upper j = refl
    bad_first number j = refl
    bad_first value j = refl
    bad_first values_end j = refl
    bad_first term j = refl
    bad_first terms_end j = refl
    bad_first atom j = refl
    bad_first posts_end j = refl
    bad_first heads_end j = refl
    bad_first body_end j = refl
    bad_first body j = refl
    bad_first posts j = refl
    bad_first command j = refl
flawed_first x Finish k e = finish_first x
flawed_first x (Mark s) k e = absurd cc
flawed_first x (Word w) k e = absurd cc
flawed_first x (Literal v) k e = absurd cc

-- what is expected has no flaw
expects_good : (ss : List Symbol) (t : TokenContent) (ts : List TokenContent) → Ordered ss → Expects ss (t ∷ ts) → flaw t ≡ None
expects_good [] t ts o e = absurd cc
expects_good (x ∷ ss) t ts o ([], rest, e, i, q) = absurd (nothing (subst (λ (s : List Symbol). Expects s rest) (nothing_after x ss (Is-nothing x i) o.0) q))
  where
    nothing : rest ≡ [] → ⊥
    nothing h = cc
expects_good (x ∷ ss) t ts o (u ∷ front, rest, e, i, q) =
    let same : t ≡ u = cc in
    let l = Leaves-from_is x u front i in
    by_case (flaw u) refl (ap flaw same) l.0 l.1
  where
    by_case : (f : Option Kind) → flaw u ≡ f → flaw t ≡ flaw u → (r : List Symbol) → first x u ≡ Some r → flaw t ≡ None
    by_case None h k r m = k ∙ h
    by_case (Some kind) h k r m = let n : first x u ≡ None = flawed_first x u kind h in absurd cc

step_shape : (Whole : List TokenContent → Type 0) (before : List TokenContent) (ss : List Symbol) (t : TokenContent) (o : Option (List Symbol)) → flaw t ≡ None → take_token ss t ≡ o → Leave Whole before ss → (IsViable Whole (before ++ (t ∷ [])) → ⊥) → o ≡ None
step_shape Whole before ss t None f e leave n = refl
step_shape Whole before ss t (Some rs) f e leave n = absurd (n (viable Whole (before ++ (t ∷ [])) rs (Leave-step Whole before ss rs t f leave e)))

step_viable : (Whole : List TokenContent → Type 0) (before : List TokenContent) (ss : List Symbol) (t : TokenContent) (o : Option (List Symbol)) → take_token ss t ≡ o → Leave Whole before ss → IsViable Whole (before ++ (t ∷ [])) → (rs : List Symbol) × (o ≡ Some rs)
step_viable Whole before ss t None e leave v = absurd (not_viable Whole before ss t leave e v)
step_viable Whole before ss t (Some rs) e leave v = (rs, refl)

viable_good : (Whole : List TokenContent → Type 0) (before : List TokenContent) (ss : List Symbol) (t : TokenContent) → Leave Whole before ss → IsViable Whole (before ++ (t ∷ [])) → flaw t ≡ None
viable_good Whole before ss t leave (more, s) = expects_good ss t more leave.ordered (leave.to (t ∷ more) (subst Whole (append_assoc before (t ∷ []) more) s))

not_true : (b : Bool) → (b ≡ true → ⊥) → b ≡ false
not_true true n = absurd (n refl)
not_true false n = refl

pub scan_from_first : (form : Form) → (Whole : List TokenContent → Type 0) (before : List TokenContent) (ss : List Symbol) (ls : List LexemeContent) (end : ℕ) (kind : Kind) (offset : ℕ) → Leave Whole before ss → FirstTokenFault form Whole before ls end kind offset → scan form ss (place_behind form before) ls end ≡ fault kind offset
unfolding scan
scan_from_first form Whole before ss [] end kind offset leave (none, k, o) = nothing_expected ss end (none_whole Whole before ss leave none) ∙ ap (λ (j : Kind). fault j end) (sym k) ∙ ap (λ (n : ℕ). fault kind n) (sym o)
scan_from_first form Whole before ss (l ∷ ls) end kind offset leave (inl (h, o)) = at_fault (flaw l.token) refl h ∙ ap (λ (n : ℕ). fault kind n) (sym o)
  where
    at_fault : (f : Option Kind) → flaw l.token ≡ f → IsFault form Whole before l.token f kind
        → after_flaw f l.at (on_token (take_token ss l.token) (is_over form (place_behind form before) l.token) l.at (λ rs. scan form rs (behind_token form (place_behind form before) l.token) ls end)) ≡ fault kind l.at
    at_fault (Some j) p e = ap (λ (i : Kind). fault i l.at) (sym e)
    at_fault None p (inl (k, n)) = rw (step_shape Whole before ss l.token (take_token ss l.token) p refl leave n) (ap (λ (i : Kind). fault i l.at) (sym k))
    at_fault None p (inr (k, v, w)) = let s = step_viable Whole before ss l.token (take_token ss l.token) refl leave v in rw (s.1, w) (ap (λ (i : Kind). fault i l.at) (sym k))
scan_from_first form Whole before ss (l ∷ ls) end kind offset leave (inr (v, n, more)) =
    let f = viable_good Whole before ss l.token leave v in
    let s = step_viable Whole before ss l.token (take_token ss l.token) refl leave v in
    let w = not_true (is_over form (place_behind form before) l.token) n in
    let i = scan_from_first form Whole (before ++ (l.token ∷ [])) s.0 ls end kind offset (Leave-step Whole before ss s.0 l.token f leave s.1) more in
    let same = ap (λ (p : Place). scan form s.0 p ls end) (sym (place-more form before l.token)) ∙ i in
    rw (f, s.1, w) same
