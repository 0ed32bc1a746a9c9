-- What the buckets give are the candidates.
use Rattle.std.proofs.Common.{◌≡◌, ◌↔◌, ℕ, true, false, ◌||◌, nat_eq, List, Option, Some, None, Result, Ok, Err, IfOk, is_some, Contains, refl, sym, ap, ◌∙◌}
use Rattle.std.specs.List.{list_any, IsDistinct}
use Rattle.std.specs.List.Sorted.{IsStrictlyIncreasing, IsSorted, IsPermutation}
use Rattle.std.specs.Option.{option_map_or}
use Rattle.std.specs.Ordering.{nat_cmp}
use Rattle.std.specs.Cmp.{nat_eq_equiv}
use Rattle.std.specs.FinMap.{FinMap, from_entries, get}
use Rattle.std.proofs.lemmas.Bool.Decides.{Decides-eqb}
use Rattle.std.proofs.lemmas.List.Sorted.{list_any-IsPermutation}
use Rattle.std.proofs.lemmas.Map.Keys.{IsDistinct-IsPermutation, IsStrictlyIncreasing-from_sorted}
use Rattle.std.proofs.lemmas.Map.Views.{list_any-from_Contains, Contains-from_any}
use Rattle.cq_atom.specs.Atom.{AtomRecord}
use Rattle.cq_index.specs.declared.buckets.Bucket.{Bucket}
use Rattle.cq_index.specs.Index.{first_constant, is_candidate, is_candidate_at, candidates_of, IsCandidate, IsCandidateAt}
use Rattle.cq_index.specs.Steps.Keys.{KeyContent, key_of, open_of, group_of}
use Rattle.cq_index.specs.Steps.Buckets.{holds, Joins}
use Rattle.cq_index.specs.Steps.Kept.{atom_at, AreIndexed}
use Rattle.cq_index.proofs.Views.{get-view}
use Rattle.cq_index.proofs.Candidates.{constant_members, constant_apart, variable_members, candidate_of, of_candidate}
use Rattle.cq_index.proofs.Listed.{listed, candidates_rising, candidates_members}

pub if_ok : {T E : Type 0} {P Q : T → Type 0} (r : Result T E) → ((x : T) → P x → Q x) → IfOk r P → IfOk r Q
if_ok (Ok x) f h = f x h
if_ok (Err e) f h = tt

module _ {A : Type 0} (kept : List (ℕ × AtomRecord)) (buckets : List (KeyContent × Bucket A)) (m : FinMap nat_cmp AtomRecord) (is : from_entries kept ≡ m) (indexed : AreIndexed kept buckets) (given : AtomRecord) where
  asked : (p : ℕ) → option_map_or (is_candidate given) (atom_at kept p) false ≡ is_candidate_at m given p
  asked p = ap (λ o. option_map_or (is_candidate given) o false) (sym (get-view kept p) ∙ ap (λ n. get n p) is)

  pub constant_gathered : is_some (first_constant given) ≡ true → (places : List ℕ) → Joins places (holds buckets (key_of given)) (holds buckets (open_of given)) → (p : ℕ) → list_any (nat_eq p) places ≡ is_candidate_at m given p
  constant_gathered some places joins p = joins.members p ∙ (λ i. indexed (key_of given) p i || indexed (open_of given) p i)
      ∙ constant_members (atom_at kept p) given some ∙ asked p

  pub constant_distinct : is_some (first_constant given) ≡ true → (places : List ℕ) → Joins places (holds buckets (key_of given)) (holds buckets (open_of given)) → IsDistinct nat_eq places
  constant_distinct some places joins = joins.distinct (λ p a b. constant_apart (atom_at kept p) given some
      (sym (indexed (key_of given) p) ∙ a) (sym (indexed (open_of given) p) ∙ b))

  pub variable_gathered : is_some (first_constant given) ≡ false → (places : List ℕ) → ((p : ℕ) → list_any (nat_eq p) places ≡ holds buckets (group_of given) p) → (p : ℕ) → list_any (nat_eq p) places ≡ is_candidate_at m given p
  variable_gathered none places members p = members p ∙ indexed (group_of given) p
      ∙ variable_members (atom_at kept p) given none ∙ asked p

module _ (m : FinMap nat_cmp AtomRecord) (given : AtomRecord) where
  pub listed_sorted : (xs ys : List ℕ) → ((p : ℕ) → list_any (nat_eq p) xs ≡ is_candidate_at m given p) → IsDistinct nat_eq xs → IsPermutation xs ys → IsSorted nat_cmp ys → ys ≡ candidates_of m given
  listed_sorted xs ys members distinct moved sorted =
      listed m given ys (λ p. sym (list_any-IsPermutation (nat_eq p) xs ys moved) ∙ members p) (IsDistinct-IsPermutation nat_eq nat_eq_equiv.symm xs ys moved distinct) sorted

  found : (o : Option AtomRecord) → option_map_or (is_candidate given) o false ≡ true → (a : AtomRecord) × (o ≡ Some a) × IsCandidate given a
  found None h = absurd cc
  found (Some a) h = (a, refl, candidate_of given a h)

  -- the list of candidates has exactly the places that the definition says, and rises
  pub candidates_exact : (p : ℕ) → Contains (candidates_of m given) p ↔ IsCandidateAt m given p
  candidates_exact p = (
    (λ h. let f = found (get m p) (sym (candidates_members m given p) ∙ list_any-from_Contains nat_eq_equiv p (candidates_of m given) h) in f),
    (λ h. Contains-from_any (λ x y. (Decides-eqb x y).0) p (candidates_of m given)
        (candidates_members m given p ∙ ap (λ o. option_map_or (is_candidate given) o false) h.1 ∙ of_candidate given h.0 h.2)),
  )

  pub candidates_increase : IsStrictlyIncreasing (candidates_of m given)
  candidates_increase = IsStrictlyIncreasing-from_sorted (candidates_of m given) (candidates_rising m given)
