-- What a failed test refuses is not so: lists of unequal length, terms and atoms that never meet.
use Rattle.std.proofs.Common.{◌≡◌, ◌∙◌, ℕ, Bool, true, false, List, length, ap, sym, bytes_eq}
use Rattle.std.proofs.lemmas.List.{length-map}
use Rattle.std.proofs.lemmas.Slice.Eq.{bytes_eq-Decides}
use Rattle.cq_atom.specs.Atom.{TermContent, AtomRecord}
use Rattle.cq_atom.specs.Unify.{Unify}
use Rattle.cq_atom.specs.Steps.Meets.{CanMeet, value_of}

false_never : false ≡ true → ⊥
false_never e = cc

pub never : (Q : Type 0) → (Q → false ≡ true) → (false ≡ true → Q) × (Q → false ≡ true)
never Q refuses = (λ e. absurd (false_never e), refuses)

-- terms that meet are as many
pub meet-even : (xs ys : List TermContent) → CanMeet xs ys → length xs ≡ length ys
meet-even xs ys m = sym (length-map xs (value_of m.left)) ∙ ap length m.same ∙ length-map ys (value_of m.right)

-- atoms that unify have one relation
pub unify-never : (a b : AtomRecord) (r : Bool) (s t : List ℕ) → s ≡ a.relation → t ≡ b.relation → r ≡ bytes_eq s t → r ≡ false → (r ≡ true → Unify a b) × (Unify a b → r ≡ true)
unify-never a b r s t sa tb e failed =
    (λ told. absurd (false_never (sym failed ∙ told)), λ u. e ∙ (bytes_eq-Decides s t).1 (sa ∙ ap (λ x. x.relation) u.from_left ∙ sym (ap (λ x. x.relation) u.from_right) ∙ sym tb))
