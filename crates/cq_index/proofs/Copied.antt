-- A copy that is made place by place.
use Rattle.std.proofs.Common.{◌≡◌, ℕ, false, nat_eq, List, [], ◌∷◌, ◌++◌, None, append-nil, refl, sym, ap, subst, ◌∙◌}
use Rattle.std.specs.List.{AllByRecursion, IsDistinct}
use Rattle.std.specs.Map.{keys_of}
use Rattle.std.specs.Ordering.{nat_cmp}
use Rattle.std.specs.Cmp.{nat_eq_equiv}
use Rattle.std.proofs.lemmas.Cmp.{nat_cmp_total}
use Rattle.std.specs.FinMap.{FinMap, from_entries, find, get, insert, from_entries_push, nat_cmp-IsAntisymmetric}
use Rattle.cq_atom.specs.Atom.{AtomRecord}
use Rattle.cq_index.specs.Steps.Kept.{atom_at}
use Rattle.cq_index.proofs.Views.{get-view, find-kept}

module _ where
  before_apart : (P : ℕ → Type 0) (done : List (ℕ × AtomRecord)) (e : ℕ × AtomRecord) (rest : List (ℕ × AtomRecord)) → AllByRecursion P (keys_of (done ++ e ∷ rest)) → P e.0
  before_apart P [] e rest all = all.0
  before_apart P (d ∷ done) e rest all = before_apart P done e rest all.1

  -- a key that comes later is not among those before it
  pub new_place : (done : List (ℕ × AtomRecord)) (e : ℕ × AtomRecord) (rest : List (ℕ × AtomRecord)) → IsDistinct nat_eq (keys_of (done ++ e ∷ rest)) → atom_at done e.0 ≡ None
  unfolding IsDistinct
  new_place [] e rest distinct = refl
  new_place (d ∷ done) e rest distinct =
      let apart : nat_eq e.0 d.0 ≡ false = nat_eq_equiv.symm e.0 d.0 ∙ before_apart (λ k. nat_eq d.0 k ≡ false) done e rest distinct.0 in
      rw apart (new_place done e rest distinct.1)

  pub copied_absent : (m : FinMap nat_cmp AtomRecord) (done : List (ℕ × AtomRecord)) (e : ℕ × AtomRecord) (rest all : List (ℕ × AtomRecord)) → m ≡ from_entries done → all ≡ done ++ e ∷ rest → IsDistinct nat_eq (keys_of all) → get m e.0 ≡ None
  copied_absent m done e rest all made split distinct =
      ap (λ n. get n e.0) made ∙ get-view done e.0 ∙ (new_place done e rest (subst (λ l. IsDistinct nat_eq (keys_of l)) split distinct))

  pub copied_more : (m n : FinMap nat_cmp AtomRecord) (done : List (ℕ × AtomRecord)) (e : ℕ × AtomRecord) (rest all : List (ℕ × AtomRecord)) → m ≡ from_entries done → all ≡ done ++ e ∷ rest → IsDistinct nat_eq (keys_of all)
      → n ≡ insert m e.0 e.1 → n ≡ from_entries (done ++ e ∷ [])
  copied_more m n done e rest all made split distinct added =
      let gone : find nat_cmp e.0 done ≡ None = find-kept done e.0 ∙ (new_place done e rest (subst (λ l. IsDistinct nat_eq (keys_of l)) split distinct)) in
      added ∙ ap (λ o. insert o e.0 e.1) made ∙ sym (from_entries_push nat_cmp_total nat_cmp-IsAntisymmetric done e.0 e.1 gone)

  -- nothing is left
  pub copied_all : (m n : FinMap nat_cmp AtomRecord) (done rest all kept : List (ℕ × AtomRecord)) → m ≡ from_entries done → all ≡ done ++ rest → rest ≡ [] → all ≡ kept → from_entries kept ≡ n → m ≡ n
  copied_all m n done rest all kept made split none whole view =
      made ∙ ap from_entries (sym (append-nil done) ∙ ap (λ l. done ++ l) (sym none) ∙ sym split ∙ whole) ∙ view
