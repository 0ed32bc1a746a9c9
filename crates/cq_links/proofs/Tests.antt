-- Tests of numbers, and finite maps over numbers.
use Rattle.std.proofs.Common.{◌≡◌, ℕ, Bool, true, false, cond, nat_eq, Some, None, refl, sym, ap, ◌∙◌}
use Rattle.std.specs.Ordering.{nat_cmp, eq_by_cmp, is_eq}
use Rattle.std.specs.declared.cmp.Ordering.{Ordering}
use Rattle.std.specs.declared.cmp.Ordering.TheVariants.{Less, Equal, Greater}
use Rattle.std.proofs.lemmas.Cmp.{nat_cmp_total, eq_by_cmp_equiv}
use Rattle.std.proofs.lemmas.Bool.Decides.{Decides-eqb}
use Rattle.std.specs.FinMap.{FinMap, get, insert, remove, get-insert, get-remove, nat_cmp-IsAntisymmetric}

pub by_bool : (b : Bool) (P : Type 0) → (b ≡ true → P) → (b ≡ false → P) → P
by_bool true P f g = f refl
by_bool false P f g = g refl

pub both_true : (a b : Bool) → (a ≡ true → b ≡ true) → (b ≡ true → a ≡ true) → a ≡ b
both_true true b f g = sym (f refl)
both_true false true f g = g refl
both_true false false f g = refl

pub same_number : (p q : ℕ) → nat_eq p q ≡ true → p ≡ q
same_number p q t = (Decides-eqb p q).0 t

pub other_number : (p q : ℕ) → nat_eq p q ≡ false → p ≡ q → ⊥
other_number p q f e = let t : nat_eq p q ≡ true = (Decides-eqb p q).1 e in let no : true ≡ false = sym t ∙ f in cc

equal : (r : Ordering) → is_eq r ≡ true → r ≡ Equal
equal Less h = absurd cc
equal Equal h = refl
equal Greater h = absurd cc

-- numbers tie where they are equal
pub nat_tie : (p q : ℕ) → eq_by_cmp nat_cmp p q ≡ nat_eq p q
nat_tie p q = both_true (eq_by_cmp nat_cmp p q) (nat_eq p q)
    (λ t. (Decides-eqb p q).1 (nat_cmp-IsAntisymmetric p q (equal (nat_cmp p q) t)))
    (λ t. ap (λ r. eq_by_cmp nat_cmp p r) (sym ((Decides-eqb p q).0 t)) ∙ (eq_by_cmp_equiv nat_cmp_total).refl p)

module _ {X : Type 0} (m : FinMap nat_cmp X) (k : ℕ) where
  pub inserted : (v : X) (q : ℕ) → get (insert m k v) q ≡ cond (nat_eq q k) (Some v) (get m q)
  inserted v q = get-insert nat_cmp_total m k v q ∙ ap (λ b. cond b (Some v) (get m q)) (nat_tie q k)

  pub removed : (q : ℕ) → get (remove m k) q ≡ cond (nat_eq q k) None (get m q)
  removed q = get-remove nat_cmp_total m k q ∙ ap (λ b. cond b None (get m q)) (nat_tie q k)
