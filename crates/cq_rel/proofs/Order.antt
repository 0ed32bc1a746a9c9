-- The order of values is total, and ties only what is one.
use Rattle.std.proofs.Common.{◌≡◌, ℕ, List, [], ◌∷◌, Ordering, refl, ap}
use Rattle.std.specs.declared.cmp.Ordering.TheVariants.{Less, Equal, Greater}
use Rattle.std.specs.Cmp.{IsTotalOrder}
use Rattle.std.specs.Cmp.Lexicographic.{slice_cmp}
use Rattle.std.specs.Ordering.{is_lt, nat_cmp, int_cmp, ordering_then, ordering_reverse}
use Rattle.std.proofs.lemmas.Cmp.{int_cmp_total, nat_list_cmp_total, lists_total, tied_itself, int_ranked, ranked}
use Rattle.cq_atom.specs.Value.{ValueContent, is_before}
use Rattle.cq_atom.specs.declared.value.Content.TheVariants.{Number, Text}
use Rattle.cq_rel.specs.Tables.{value_order, values_order}

-- `is_before` is the strict part of the order of values
pub before-is : (x y : ValueContent) → is_before x y ≡ is_lt (value_order x y)
before-is (Number m) (Number n) = refl
before-is (Number m) (Text t) = refl
before-is (Text s) (Number n) = refl
before-is (Text s) (Text t) = refl

value-flip : (x y : ValueContent) → value_order x y ≡ ordering_reverse (value_order y x)
value-flip (Number m) (Number n) = int_cmp_total.antisymm m n
value-flip (Number m) (Text t) = refl
value-flip (Text s) (Number n) = refl
value-flip (Text s) (Text t) = nat_list_cmp_total.antisymm s t

value-chain : (x y z : ValueContent) → value_order x y ≡ Less → value_order y z ≡ Less → value_order x z ≡ Less
value-chain (Number m) (Number n) (Number k) p q = int_cmp_total.trans m n k p q
value-chain (Number m) (Number n) (Text u) p q = refl
value-chain (Number m) (Text t) (Number k) p q = absurd cc
value-chain (Number m) (Text t) (Text u) p q = refl
value-chain (Text s) (Number n) z p q = absurd cc
value-chain (Text s) (Text t) (Number k) p q = absurd cc
value-chain (Text s) (Text t) (Text u) p q = nat_list_cmp_total.trans s t u p q

value-alike : (x y z : ValueContent) → value_order x y ≡ Equal → value_order x z ≡ value_order y z
value-alike (Number m) (Number n) (Number k) p = int_cmp_total.congr m n k p
value-alike (Number m) (Number n) (Text u) p = refl
value-alike (Number m) (Text t) z p = absurd cc
value-alike (Text s) (Number n) z p = absurd cc
value-alike (Text s) (Text t) (Number k) p = refl
value-alike (Text s) (Text t) (Text u) p = nat_list_cmp_total.congr s t u p

pub value_total : IsTotalOrder value_order
value_total = record { antisymm = value-flip; trans = value-chain; congr = value-alike }

pub values_total : IsTotalOrder values_order
values_total = lists_total value_total

pub then-tied : (a b : Ordering) → ordering_then a b ≡ Equal → (a ≡ Equal) × (b ≡ Equal)
then-tied Less b e = absurd cc
then-tied Equal b e = (refl, e)
then-tied Greater b e = absurd cc

lists-tied : {X : Type 0} (R : X → X → Ordering) → ((x y : X) → R x y ≡ Equal → x ≡ y) → (xs ys : List X) → slice_cmp R xs ys ≡ Equal → xs ≡ ys
lists-tied R one [] [] e = refl
lists-tied R one [] (y ∷ ys) e = absurd cc
lists-tied R one (x ∷ xs) [] e = absurd cc
lists-tied R one (x ∷ xs) (y ∷ ys) e =
    let both = then-tied (R x y) (slice_cmp R xs ys) e in
    let head : x ≡ y = one x y both.0 in
    let tail : xs ≡ ys = lists-tied R one xs ys both.1 in
    cc

pub nats-tied : (m n : ℕ) → nat_cmp m n ≡ Equal → m ≡ n
nats-tied m n e = rw e at (ranked m n (nat_cmp m n) refl)

pub value-tied : (x y : ValueContent) → value_order x y ≡ Equal → x ≡ y
value-tied (Number m) (Number n) e = ap Number (rw e at (int_ranked m n (int_cmp m n) refl))
value-tied (Number m) (Text t) e = absurd cc
value-tied (Text s) (Number n) e = absurd cc
value-tied (Text s) (Text t) e = ap Text (lists-tied nat_cmp nats-tied s t e)

-- values that tie are one
pub values-tied : (v w : List ValueContent) → values_order v w ≡ Equal → v ≡ w
values-tied v w e = lists-tied value_order value-tied v w e

pub values-itself : (v : List ValueContent) → values_order v v ≡ Equal
values-itself v = tied_itself values_total v
