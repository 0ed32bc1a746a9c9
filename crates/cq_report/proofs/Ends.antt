-- The first place of a byte, as the search of bytes and as the position in a list.
use Rattle.std.proofs.Common.{◌≡◌, ℕ, zero, suc, ◌<◌, Bool, true, false, cond, not, nat_lt, List, [], ◌∷◌, length, position, Option, None, Some, refl, sym, ap, ◌∙◌, arith}
use Rattle.std.specs.List.{prefix_len}
use Rattle.std.proofs.lemmas.Bool.{ltb-true, lt-ltb}
use Rattle.memchr.specs.Find.{Passes, IsFirstByte}

by_bool : (b : Bool) (P : Type 0) → (b ≡ true → P) → (b ≡ false → P) → P
by_bool true P f g = f refl
by_bool false P f g = g refl

module _ (test : ℕ → Bool) where
  abbrev place : List ℕ → ℕ
  place hay = prefix_len (λ x. not (test x)) hay

  nowhere : (hay : List ℕ) → ((k : ℕ) → k < length hay → Passes test hay k → ⊥) → place hay ≡ length hay
  nowhere [] none = refl
  nowhere (x ∷ hay) none = by_bool (test x) (place (x ∷ hay) ≡ length (x ∷ hay))
      (λ t. absurd (none 0 (omega arith) t))
      (λ f. rw f (let e = nowhere hay (λ k l p. none (suc k) (omega (arith, l)) p) in omega (arith, e)))

  at : (hay : List ℕ) (k : ℕ) → k < length hay → Passes test hay k → ((m : ℕ) → m < k → Passes test hay m → ⊥) → place hay ≡ k
  at [] k l p none = absurd (omega (arith, l))
  at (x ∷ hay) zero l p none = rw p refl
  at (x ∷ hay) (suc k) l p none = by_bool (test x) (place (x ∷ hay) ≡ suc k)
      (λ t. absurd (none 0 (omega arith) t))
      (λ f. rw f (let e = at hay k (let m : suc k < suc (length hay) = l in omega (arith, m)) p (λ m b q. none (suc m) (omega (arith, b)) q) in omega (arith, e)))

  not-within : (n : ℕ) → nat_lt n n ≡ false
  not-within n = by_bool (nat_lt n n) (nat_lt n n ≡ false) (λ t. absurd (let l = ltb-true n n t in omega (arith, l))) (λ f. f)

  pub first-place : (hay : List ℕ) (r : Option ℕ) → IsFirstByte test hay r → r ≡ position test hay
  first-place hay None none = sym (ap (λ n. cond (nat_lt n (length hay)) (Some n) None) (nowhere hay (λ k l p. none k (omega arith) l p)) ∙ ap (λ b. cond b (Some (length hay)) None) (not-within (length hay)))
  first-place hay (Some k) found =
      sym (ap (λ n. cond (nat_lt n (length hay)) (Some n) None) (at hay k found.0.high found.1 (λ m b p. found.0.before m (omega arith) b p)) ∙ ap (λ b. cond b (Some k) None) (lt-ltb k (length hay) found.0.high))
