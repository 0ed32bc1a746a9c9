-- A query's parts fit, and its variables are bound.
use Rattle.std.proofs.Common.{◌≡◌, ℕ, suc, ◌+◌, ◌≤◌, Bool, true, false, cond, List, [], ◌∷◌, length, refl, arith, Option, Some, None, if◌then◌else◌}
use Rattle.std.specs.Prelude.{IsTrue, not, nat_le, nat_lt}
use Rattle.std.specs.List.{AllByRecursion, position, position_or_len}
use Rattle.std.proofs.lemmas.Bool.Decides.{nat_tests}
use Rattle.cq_atom.specs.Limits.{max_atoms}
use Rattle.cq_atom.specs.declared.fault.Part.{Part}
use Rattle.cq_atom.specs.declared.fault.Part.TheVariants.{Posts, Heads, Body}
use Rattle.cq_atom.specs.declared.fault.Bad.{Bad}
use Rattle.cq_atom.specs.declared.fault.Bad.TheVariants.{TooMany}
use Rattle.cq_atom.specs.Atom.{TermContent, AtomRecord}
use Rattle.cq_atom.specs.Query.{QueryRecord, query_fault, or_else, too_many, no_head, is_bound, unbound_term, first_unbound}
use Rattle.cq_text.specs.Grammar.{AreBound, IsRestricted}

none_passes : {X : Type 0} (p : X → Bool) (xs : List X) → length xs ≤ position_or_len p xs → AllByRecursion (λ x. p x ≡ false) xs
none_passes p [] h = tt
none_passes p (x ∷ xs) h = by_case (p x) refl h (none_passes p xs)
  where
    by_case : (t : Bool) → p x ≡ t → suc (length xs) ≤ cond (not (p x)) (1 + position_or_len p xs) 0 → (length xs ≤ position_or_len p xs → AllByRecursion (λ y. p y ≡ false) xs) → AllByRecursion (λ y. p y ≡ false) (x ∷ xs)
    by_case true e le ih = absurd (let k = rw e at le in omega arith)
    by_case false e le ih = (e, ih (let k = rw e at le in omega arith))

no_position : {X : Type 0} (p : X → Bool) (xs : List X) → position p xs ≡ None → AllByRecursion (λ x. p x ≡ false) xs
no_position p xs e = none_passes p xs (by_case (nat_lt (position_or_len p xs) (length xs)) refl e)
  where
    by_case : (t : Bool) → nat_lt (position_or_len p xs) (length xs) ≡ t → cond (nat_lt (position_or_len p xs) (length xs)) (Some (position_or_len p xs)) None ≡ None → length xs ≤ position_or_len p xs
    by_case true f none = absurd (let k = rw f at none in cc)
    by_case false f none = grind (arith, nat_tests)

not_false : (b : Bool) → not b ≡ false → IsTrue b
not_false true e = refl
not_false false e = absurd (let never : true ≡ false = e in cc)

bound_all : (body : List AtomRecord) (terms : List TermContent) → AllByRecursion (λ t. not (is_bound body t) ≡ false) terms → AllByRecursion (λ t. IsTrue (is_bound body t)) terms
bound_all body [] h = tt
bound_all body (t ∷ terms) h = (not_false (is_bound body t) h.0, bound_all body terms h.1)

bound : (part : Part) (body : List AtomRecord) (i : ℕ) (atoms : List AtomRecord) → first_unbound part body i atoms ≡ None → AreBound body atoms
bound part body i [] e = tt
bound part body i (a ∷ atoms) e = by_case (unbound_term body a) refl e (bound part body (i + 1) atoms)
  where
    by_case : (o : Option ℕ) → unbound_term body a ≡ o → first_unbound part body i (a ∷ atoms) ≡ None → (first_unbound part body (i + 1) atoms ≡ None → AreBound body atoms) → AreBound body (a ∷ atoms)
    by_case None f none ih = (bound_all body a.terms (no_position (λ t. not (is_bound body t)) a.terms f), ih (rw (f, first_unbound) at none))
    by_case (Some t) f none ih = absurd (let k = rw (f, first_unbound) at none in cc)

neither : (a b : Option Bad) → or_else a b ≡ None → (a ≡ None) × (b ≡ None)
neither None b e = (refl, e)
neither (Some x) b e = absurd (let never : Some x ≡ None = e in cc)

few : (part : Part) (atoms : List AtomRecord) → too_many part atoms ≡ None → length atoms ≤ max_atoms
few part atoms e = by_case (nat_le (length atoms) max_atoms) refl e
  where
    by_case : (t : Bool) → nat_le (length atoms) max_atoms ≡ t → (if nat_le (length atoms) max_atoms then None else Some (TooMany part)) ≡ None → length atoms ≤ max_atoms
    by_case true f none = grind (arith, nat_tests)
    by_case false f none = absurd (let k = rw f at none in cc)

some : (heads : List AtomRecord) → no_head heads ≡ None → 1 ≤ length heads
some [] e = absurd cc
some (a ∷ heads) e = omega arith

pub record Fits (q : QueryRecord) : Type 0 where
  pub posts : length q.posts ≤ max_atoms
  pub heads : length q.heads ≤ max_atoms
  pub body : length q.body ≤ max_atoms
  pub offered : 1 ≤ length q.heads
  pub restricted : IsRestricted q

pub fits : (q : QueryRecord) → query_fault q.posts q.heads q.body ≡ None → Fits q
fits q e =
    let a = neither (too_many Posts q.posts) _ e in
    let b = neither (too_many Heads q.heads) _ a.1 in
    let c = neither (too_many Body q.body) _ b.1 in
    let d = neither (no_head q.heads) _ c.1 in
    let f = neither (first_unbound Posts q.body 0 q.posts) (first_unbound Heads q.body 0 q.heads) d.1 in
    record {
      posts = few Posts q.posts a.0;
      heads = few Heads q.heads b.0;
      body = few Body q.body c.0;
      offered = some q.heads d.0;
      restricted = (bound Posts q.body 0 q.posts f.0, bound Heads q.body 0 q.heads f.1);
    }
