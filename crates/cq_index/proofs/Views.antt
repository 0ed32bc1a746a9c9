-- What is kept, as the finite map from places to atoms that contracts see.
use Rattle.std.proofs.Common.{◌≡◌, ℕ, true, cond, nat_eq, List, [], ◌∷◌, Some, None, is_some, refl, sym, ap, ◌∙◌}
use Rattle.std.specs.Ordering.{nat_cmp, eq_by_cmp, is_eq}
use Rattle.std.specs.declared.cmp.Ordering.{Ordering}
use Rattle.std.specs.declared.cmp.Ordering.TheVariants.{Less, Equal, Greater}
use Rattle.std.proofs.lemmas.Cmp.{nat_cmp_total, eq_by_cmp_equiv}
use Rattle.std.proofs.lemmas.Bool.Decides.{Decides-eqb}
use Rattle.std.specs.FinMap.{FinMap, from_entries, find, get, insert, remove, same_map, get-from_entries, get-insert, get-remove, nat_cmp-IsAntisymmetric}
use Rattle.cq_atom.specs.Atom.{AtomRecord}
use Rattle.cq_index.specs.Steps.Kept.{atom_at, Sets}
use Rattle.cq_index.specs.Steps.Same.{by_bool, both_true}

equal : (r : Ordering) → is_eq r ≡ true → r ≡ Equal
equal Less h = absurd cc
equal Equal h = refl
equal Greater h = absurd cc

-- numbers tie where they are equal
pub nat_tie : (p q : ℕ) → eq_by_cmp nat_cmp p q ≡ nat_eq p q
nat_tie p q = both_true (eq_by_cmp nat_cmp p q) (nat_eq p q)
    (λ t. (Decides-eqb p q).1 (nat_cmp-IsAntisymmetric p q (equal (nat_cmp p q) t)))
    (λ t. ap (λ r. eq_by_cmp nat_cmp p r) (sym ((Decides-eqb p q).0 t)) ∙ (eq_by_cmp_equiv nat_cmp_total).refl p)

pub nat_turned : (p q : ℕ) → eq_by_cmp nat_cmp p q ≡ nat_eq q p
nat_turned p q = (eq_by_cmp_equiv nat_cmp_total).symm p q ∙ nat_tie q p

pub find-kept : (es : List (ℕ × AtomRecord)) (p : ℕ) → find nat_cmp p es ≡ atom_at es p
find-kept [] p = refl
find-kept (e ∷ es) p = rw (nat_tie p e.0) (by_bool (nat_eq p e.0) _
    (λ t. rw t refl)
    (λ f. rw f (find-kept es p)))

pub get-view : (es : List (ℕ × AtomRecord)) (p : ℕ) → get (from_entries {R = nat_cmp} es) p ≡ atom_at es p
get-view es p = get-from_entries nat_cmp_total es p ∙ find-kept es p

pub view_inserted : (old new : List (ℕ × AtomRecord)) (m : FinMap nat_cmp AtomRecord) (place : ℕ) (a : AtomRecord) → from_entries old ≡ m → Sets old place (Some a) new → from_entries new ≡ insert m place a
view_inserted old new m place a is sets = same_map nat_cmp_total nat_cmp-IsAntisymmetric _ _ (λ p.
    get-view new p ∙ sets p ∙ ap (λ o. cond (nat_eq place p) (Some a) o) (sym (get-view old p) ∙ ap (λ n. get n p) is)
    ∙ sym (get-insert nat_cmp_total m place a p ∙ ap (λ b. cond b (Some a) (get m p)) (nat_turned p place)))

pub view_removed : (old new : List (ℕ × AtomRecord)) (m : FinMap nat_cmp AtomRecord) (place : ℕ) → from_entries old ≡ m → Sets old place None new → from_entries new ≡ remove m place
view_removed old new m place is sets = same_map nat_cmp_total nat_cmp-IsAntisymmetric _ _ (λ p.
    get-view new p ∙ sets p ∙ ap (λ o. cond (nat_eq place p) None o) (sym (get-view old p) ∙ ap (λ n. get n p) is)
    ∙ sym (get-remove nat_cmp_total m place p ∙ ap (λ b. cond b None (get m p)) (nat_turned p place)))

module _ (es : List (ℕ × AtomRecord)) (m : FinMap nat_cmp AtomRecord) (p : ℕ) (is : from_entries es ≡ m) where
  seen_at : atom_at es p ≡ get m p
  seen_at = sym (get-view es p) ∙ ap (λ n. get n p) is

  pub absent_at : get m p ≡ None → atom_at es p ≡ None
  absent_at none = seen_at ∙ none

  pub present_at : (a : AtomRecord) → get m p ≡ Some a → is_some (atom_at es p) ≡ true
  present_at a some = ap is_some (seen_at ∙ some)

  pub present_here : is_some (get m p) ≡ true → is_some (atom_at es p) ≡ true
  present_here some = ap is_some seen_at ∙ some
