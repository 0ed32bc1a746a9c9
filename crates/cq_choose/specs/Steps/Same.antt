-- Goods that pass the test of equality are one.
use Rattle.std.proofs.Common.{◌≡◌, Bool, true, false, ◌&&◌, List, [], ◌∷◌, refl, sym, ap, ◌∙◌, bytes_eq}
use Rattle.std.specs.Cmp.{IsEquivalence}
use Rattle.std.proofs.lemmas.Bool.Decides.{Decides-int_eq}
use Rattle.std.proofs.lemmas.Slice.Eq.{bytes_eq-Decides}
use Rattle.cq_atom.specs.declared.value.Content.TheVariants.{Number, Text}
use Rattle.cq_atom.specs.declared.term.TermKind.TheVariants.{Constant, Variable}
use Rattle.cq_atom.specs.Value.{ValueContent}
use Rattle.cq_atom.specs.Atom.{TermContent, AtomRecord}
use Rattle.cq_choose.specs.declared.keys.Good.TheVariants.{Query, Atom}
use Rattle.cq_choose.specs.Steps.Goods.{GoodContent, same_value, same_term, same_terms, same_atom, same_good}

and_left : (a b : Bool) → a && b ≡ true → a ≡ true
and_left true b h = refl
and_left false b h = h

and_right : (a b : Bool) → a && b ≡ true → b ≡ true
and_right true b h = h
and_right false b h = absurd cc

both : (a b : Bool) → a ≡ true → b ≡ true → a && b ≡ true
both a b h k = rw (h, k) refl

same_value-is : (v w : ValueContent) → same_value v w ≡ true → v ≡ w
same_value-is (Number m) (Number n) h = ap Number ((Decides-int_eq m n).0 h)
same_value-is (Number m) (Text t) h = absurd cc
same_value-is (Text s) (Number n) h = absurd cc
same_value-is (Text s) (Text t) h = ap Text ((bytes_eq-Decides s t).0 h)

same_value-refl : (v : ValueContent) → same_value v v ≡ true
same_value-refl (Number m) = (Decides-int_eq m m).1 refl
same_value-refl (Text s) = (bytes_eq-Decides s s).1 refl

same_term-is : (s t : TermContent) → same_term s t ≡ true → s ≡ t
same_term-is (Constant c) (Constant d) h = ap Constant (same_value-is c d h)
same_term-is (Constant c) (Variable y) h = absurd cc
same_term-is (Variable x) (Constant d) h = absurd cc
same_term-is (Variable x) (Variable y) h = ap Variable ((bytes_eq-Decides x y).0 h)

same_term-refl : (t : TermContent) → same_term t t ≡ true
same_term-refl (Constant c) = same_value-refl c
same_term-refl (Variable x) = (bytes_eq-Decides x x).1 refl

same_terms-is : (ss ts : List TermContent) → same_terms ss ts ≡ true → ss ≡ ts
same_terms-is [] [] h = refl
same_terms-is [] (t ∷ ts) h = absurd cc
same_terms-is (s ∷ ss) [] h = absurd cc
same_terms-is (s ∷ ss) (t ∷ ts) h =
    ap (λ (u : TermContent). u ∷ ss) (same_term-is s t (and_left (same_term s t) (same_terms ss ts) h)) ∙ ap (λ (us : List TermContent). t ∷ us) (same_terms-is ss ts (and_right (same_term s t) (same_terms ss ts) h))

same_terms-refl : (ts : List TermContent) → same_terms ts ts ≡ true
same_terms-refl [] = refl
same_terms-refl (t ∷ ts) = both (same_term t t) (same_terms ts ts) (same_term-refl t) (same_terms-refl ts)

same_atom-is : (a b : AtomRecord) → same_atom a b ≡ true → a ≡ b
same_atom-is a b h =
    let relation = (bytes_eq-Decides a.relation b.relation).0 (and_left (bytes_eq a.relation b.relation) (same_terms a.terms b.terms) h) in
    let terms = same_terms-is a.terms b.terms (and_right (bytes_eq a.relation b.relation) (same_terms a.terms b.terms) h) in
    λ i. record { relation = relation i; terms = terms i }

same_atom-refl : (a : AtomRecord) → same_atom a a ≡ true
same_atom-refl a = both (bytes_eq a.relation a.relation) (same_terms a.terms a.terms) ((bytes_eq-Decides a.relation a.relation).1 refl) (same_terms-refl a.terms)

pub same_good-is : (g h : GoodContent) → same_good g h ≡ true → g ≡ h
same_good-is (Query m) (Query n) e = ap Query ((bytes_eq-Decides m n).0 e)
same_good-is (Query m) (Atom b) e = absurd cc
same_good-is (Atom a) (Query n) e = absurd cc
same_good-is (Atom a) (Atom b) e = ap Atom (same_atom-is a b e)

pub same_good-refl : (g : GoodContent) → same_good g g ≡ true
same_good-refl (Query n) = (bytes_eq-Decides n n).1 refl
same_good-refl (Atom a) = same_atom-refl a

both_true : (a b : Bool) → (a ≡ true → b ≡ true) → (b ≡ true → a ≡ true) → a ≡ b
both_true true b f g = sym (f refl)
both_true false true f g = g refl
both_true false false f g = refl

pub same_good_equiv : IsEquivalence same_good
same_good_equiv = record {
  refl = same_good-refl;
  symm = λ g h. both_true (same_good g h) (same_good h g)
      (λ t. ap (λ (k : GoodContent). same_good h k) (same_good-is g h t) ∙ same_good-refl h)
      (λ t. ap (λ (k : GoodContent). same_good g k) (same_good-is h g t) ∙ same_good-refl g);
  congr = λ g h k t. ap (λ (x : GoodContent). same_good x k) (same_good-is g h t);
}
