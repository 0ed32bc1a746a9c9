-- Copies whose pending steps are handed over, or kept.
use Rattle.std.proofs.Common.{◌≡◌, ℕ, zero, suc, ◌<◌, List, [], ◌∷◌, ◌++◌, length, Option, None, refl, ap, sym, ◌∙◌, subst, arith}
use Rattle.std.proofs.lemmas.Grind.{fold-append}
use mathlib.Core.List.{IsPrefix}
use Rattle.cq_room.specs.declared.mark.Mark.{Mark}
use Rattle.cq_room.specs.Marks.{Leaves, entries_in, fresh_in}
use Rattle.cq_room.specs.Seen.{ShownRecord}
use Rattle.cq_room.specs.Pair.{opening_or}
use Rattle.cq_room.specs.Steps.Pair.{IsPaired, last_of, ends_at}
use Rattle.cq_room.proofs.Fronts.{prefix_self}
use Rattle.cq_room.proofs.Pairs.{paired_on}

-- ---- numbers and lists

pub none-left : {A : Type 0} (xs : List A) → length xs ≡ 0 → xs ≡ []
none-left [] none = refl
none-left (x ∷ xs) none = absurd (omega (arith, none))

pub some-left : (n m : ℕ) → n ≡ m → (n ≡ 0 → ⊥) → 0 < m
some-left n zero is more = absurd (more is)
some-left n (suc m) is more = omega arith

-- ---- where the steps end

pub ends-appended : {M : Type 0} (m : M) (steps new : List M) (s : M) (kept : Option M) → kept ≡ None → new ≡ steps ++ s ∷ [] → ends_at m new kept ≡ s
ends-appended m steps new s kept none more = ap (ends_at m new) none ∙ ap (last_of m) more ∙ fold-append (λ _ step. step) m steps (s ∷ [])

module _ {E C : Type 0} (s n : ShownRecord E C) (steps less : List (List (Mark E))) (waiting kept : Option (List (Mark E))) (front : List (Mark E)) where
  pub ends-settled : n ≡ s → kept ≡ None → last_of n.marks less ≡ ends_at s.marks steps waiting → ends_at s.marks steps waiting ≡ front → ends_at n.marks less kept ≡ front
  ends-settled same none settled ends = ap (ends_at n.marks less) none ∙ settled ∙ ends

  pub ends-unsettled : n ≡ s → less ≡ steps → kept ≡ waiting → ends_at s.marks steps waiting ≡ front → ends_at n.marks less kept ≡ front
  ends-unsettled same were still ends = ap (λ z. ends_at z.marks less kept) same ∙ ap (λ l. ends_at s.marks l kept) were ∙ ap (ends_at s.marks steps) still ∙ ends

-- ---- pairs

module _ {E C : Type 0} (os : List C) (s n : ShownRecord E C) (steps less : List (List (Mark E))) (waiting kept : Option (List (Mark E))) (front : List (Mark E)) where
  pub paired-ended : (next : List (Mark E)) (rest : List (Mark E)) → IsPaired os s.content s.marks steps waiting front → n ≡ s → front ++ rest ≡ next → ends_at n.marks less kept ≡ next → IsPaired os n.content n.marks less kept next
  paired-ended next rest p same more ends =
      paired_on os s.content n.content s.marks n.marks steps less waiting kept front next p (ap (λ z. z.content) same) (ap (λ z. z.marks) same) (rest, more)
      (ap (λ z. ends_at z.marks less kept) (sym same) ∙ ends)

  pub paired-settled : IsPaired os s.content s.marks steps waiting front → n ≡ s → kept ≡ None → last_of n.marks less ≡ ends_at s.marks steps waiting → IsPaired os n.content n.marks less kept front
  paired-settled p same none settled = let self = prefix_self front in paired-ended front self.0 p same self.1 (ends-settled s n steps less waiting kept front same none settled p.ends)

  pub paired-unsettled : IsPaired os s.content s.marks steps waiting front → n ≡ s → less ≡ steps → kept ≡ waiting → IsPaired os n.content n.marks less kept front
  paired-unsettled p same were still = let self = prefix_self front in paired-ended front self.0 p same self.1 (ends-unsettled s n steps less waiting kept front same were still p.ends)

-- ---- pairs that begin

pub leaves-none : {E C : Type 0} (after : C → E → C) (os : List C) (ms : List (Mark E)) (c : C) → ms ≡ [] → os ≡ c ∷ [] → Leaves after os (entries_in ms) c
leaves-none {E} {C} after os ms c none is = subst (λ (xs : List (Mark E)). Leaves after os (entries_in xs) c) (sym none) (λ o named. let same : c ∷ [] ≡ o ∷ [] = sym is ∙ named in cc same)

pub paired-new : {E C : Type 0} (os : List C) (c : C) (s f : ShownRecord E C) (steps : List (List (Mark E))) (made t : List (Mark E)) → os ≡ c ∷ [] → s ≡ f → f.marks ≡ made → made ≡ t → t ≡ [] → steps ≡ [] → IsPaired os s.content s.marks steps None t
paired-new os c s f steps made t named is marked copied none gone =
    let marks : s.marks ≡ t = ap (λ z. z.marks) is ∙ marked ∙ copied in
    record {
      opened = named ∙ ap (λ z. z ∷ []) (sym (ap (opening_or s.content) named));
      begins = subst (λ xs. IsPrefix xs t) (sym marks) (prefix_self t);
      whole = ap fresh_in (marks ∙ none);
      ends = ap (last_of s.marks) gone ∙ marks;
    }
