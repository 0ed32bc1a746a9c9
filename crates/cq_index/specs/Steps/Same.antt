-- Keys that pass the test of equality are one.
use Rattle.std.proofs.Common.{◌≡◌, Bool, true, false, ◌&&◌, nat_eq, refl, sym, ap, ◌∙◌, bytes_eq}
use Rattle.std.specs.Cmp.{IsEquivalence}
use Rattle.std.proofs.lemmas.Bool.Decides.{Decides-eqb, Decides-int_eq}
use Rattle.std.proofs.lemmas.Slice.Eq.{bytes_eq-Decides}
use Rattle.cq_atom.specs.declared.value.Content.TheVariants.{Number, Text}
use Rattle.cq_atom.specs.Value.{ValueContent}
use Rattle.cq_index.specs.declared.key.First.{First}
use Rattle.cq_index.specs.declared.key.First.TheVariants.{Any, Variable, Constant}
use Rattle.cq_index.specs.Steps.Keys.{KeyContent, asked_key, same_asked}
use Rattle.cq_index.specs.Index.{same_value}
use Rattle.cq_index.specs.Steps.Keys.{same_first, same_key}

pub and_left : (a b : Bool) → a && b ≡ true → a ≡ true
and_left true b h = refl
and_left false b h = h

pub and_right : (a b : Bool) → a && b ≡ true → b ≡ true
and_right true b h = h
and_right false b h = absurd cc

pub by_bool : (b : Bool) (P : Type 0) → (b ≡ true → P) → (b ≡ false → P) → P
by_bool true P f g = f refl
by_bool false P f g = g refl

pub same_value-is : (v w : ValueContent) → same_value v w ≡ true → v ≡ w
same_value-is (Number m) (Number n) h = ap Number ((Decides-int_eq m n).0 h)
same_value-is (Number m) (Text t) h = absurd cc
same_value-is (Text s) (Number n) h = absurd cc
same_value-is (Text s) (Text t) h = ap Text ((bytes_eq-Decides s t).0 h)

pub same_value-refl : (v : ValueContent) → same_value v v ≡ true
same_value-refl (Number m) = (Decides-int_eq m m).1 refl
same_value-refl (Text s) = (bytes_eq-Decides s s).1 refl

same_first-is : (f g : First ValueContent) → same_first f g ≡ true → f ≡ g
same_first-is Any Any h = refl
same_first-is Any Variable h = absurd cc
same_first-is Any (Constant w) h = absurd cc
same_first-is Variable Any h = absurd cc
same_first-is Variable Variable h = refl
same_first-is Variable (Constant w) h = absurd cc
same_first-is (Constant v) Any h = absurd cc
same_first-is (Constant v) Variable h = absurd cc
same_first-is (Constant v) (Constant w) h = ap Constant (same_value-is v w h)

same_first-refl : (f : First ValueContent) → same_first f f ≡ true
same_first-refl Any = refl
same_first-refl Variable = refl
same_first-refl (Constant v) = same_value-refl v

pub same_key-is : (k l : KeyContent) → same_key k l ≡ true → k ≡ l
same_key-is k l h =
    let rest = and_right (bytes_eq k.relation l.relation) _ h in
    let relation = (bytes_eq-Decides k.relation l.relation).0 (and_left _ _ h) in
    let arity = (Decides-eqb k.arity l.arity).0 (and_left _ _ rest) in
    let first = same_first-is k.first l.first (and_right (nat_eq k.arity l.arity) _ rest) in
    λ i. record { relation = relation i; arity = arity i; first = first i }

pub same_key-refl : (k : KeyContent) → same_key k k ≡ true
same_key-refl k = rw ((bytes_eq-Decides k.relation k.relation).1 refl, (Decides-eqb k.arity k.arity).1 refl, same_first-refl k.first) refl

pub both_true : (a b : Bool) → (a ≡ true → b ≡ true) → (b ≡ true → a ≡ true) → a ≡ b
both_true true b f g = sym (f refl)
both_true false true f g = g refl
both_true false false f g = refl

pub same_key_equiv : IsEquivalence same_key
same_key_equiv = record {
  refl = same_key-refl;
  symm = λ k l. both_true (same_key k l) (same_key l k)
      (λ t. ap (λ (m : KeyContent). same_key l m) (same_key-is k l t) ∙ same_key-refl l)
      (λ t. ap (λ (m : KeyContent). same_key k m) (same_key-is l k t) ∙ same_key-refl k);
  congr = λ k l m t. ap (λ (x : KeyContent). same_key x m) (same_key-is k l t);
}

pub same_asked_equiv : {A : Type 0} → IsEquivalence (same_asked {A = A})
same_asked_equiv {A} = record {
  refl = λ q. same_key-refl (asked_key q);
  symm = λ q r. same_key_equiv.symm (asked_key q) (asked_key r);
  congr = λ q r s. same_key_equiv.congr (asked_key q) (asked_key r) (asked_key s);
}
