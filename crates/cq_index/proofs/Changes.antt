-- What a change of one bucket changes.
use Rattle.std.proofs.Common.{◌≡◌, ℕ, Bool, true, false, cond, ◌&&◌, ◌||◌, not, nat_eq, List, Option, None, Result, Ok, Err, OnOk, OnErr, refl, sym, ap, ◌∙◌}
use Rattle.std.specs.Map.{lookup}
use Rattle.cq_index.specs.declared.buckets.Bucket.{Bucket}
use Rattle.cq_index.specs.Steps.Keys.{KeyContent, same_key}
use Rattle.std.proofs.lemmas.Bool.Decides.{Decides-eqb}
use Rattle.cq_index.specs.Steps.Buckets.{has_place, holds, IsBut, Puts, Takes, Keeps, IsNowhere, PutsBoth, TakesBoth}
use Rattle.cq_index.specs.Steps.Same.{by_bool, same_key-is}

-- the bucket under one key has become w, and every other is as it was
pub ChangesTo : {A : Type 0} → List (KeyContent × Bucket A) → KeyContent → Option (Bucket A) → List (KeyContent × Bucket A) → Type 0
ChangesTo {A} old key w new = (k : KeyContent) → lookup (same_key k) new ≡ cond (same_key key k) w (lookup (same_key k) old)

module _ {A : Type 0} (old new : List (KeyContent × Bucket A)) (key : KeyContent) (place : ℕ) (w : Option (Bucket A)) (changes : (k : KeyContent) → lookup (same_key k) new ≡ cond (same_key key k) w (lookup (same_key k) old)) where
  here : (k : KeyContent) → same_key key k ≡ true → lookup (same_key k) new ≡ w
  here k t = changes k ∙ rw t refl

  there : (k : KeyContent) → same_key key k ≡ false → lookup (same_key k) new ≡ lookup (same_key k) old
  there k f = changes k ∙ rw f refl

  was_here : (k : KeyContent) → same_key key k ≡ true → lookup (same_key k) old ≡ lookup (same_key key) old
  was_here k t = ap (λ (l : KeyContent). lookup (same_key l) old) (sym (same_key-is key k t))

  pub put_in : ((p : ℕ) → has_place w p ≡ (nat_eq place p || has_place (lookup (same_key key) old) p)) → Puts old key place new
  put_in inside k p = by_bool (same_key key k) _
      (λ t. ap (λ o. has_place o p) (here k t) ∙ inside p ∙ rw (t, was_here k t) refl)
      (λ f. ap (λ o. has_place o p) (there k f) ∙ rw f refl)

  pub taken_out : ((p : ℕ) → has_place w p ≡ (not (nat_eq place p) && has_place (lookup (same_key key) old) p)) → Takes old key place new
  taken_out inside k p = by_bool (same_key key k) _
      (λ t. ap (λ o. has_place o p) (here k t) ∙ inside p ∙ rw (t, was_here k t) refl)
      (λ f. ap (λ o. has_place o p) (there k f) ∙ rw f refl)

  pub kept_in : ((p : ℕ) → has_place w p ≡ has_place (lookup (same_key key) old) p) → Keeps old new
  kept_in inside k p = by_bool (same_key key k) _
      (λ t. ap (λ o. has_place o p) (here k t) ∙ inside p ∙ rw (was_here k t) refl)
      (λ f. ap (λ o. has_place o p) (there k f))

module _ {A : Type 0} (old between new : List (KeyContent × Bucket A)) (key : KeyContent) (place : ℕ) where
  -- a bucket that has no other place is dropped
  pub taken_away : IsBut old key between → ((k : KeyContent) → lookup (same_key k) new ≡ cond (same_key key k) None (lookup (same_key k) between))
      → ((p : ℕ) → (not (nat_eq place p) && holds old key p) ≡ false) → Takes old key place new
  taken_away rest changes none k p = by_bool (same_key key k) _
      (λ t.
      let gone : lookup (same_key k) new ≡ None = changes k ∙ rw t refl in
      ap (λ o. has_place o p) gone ∙ rw t (sym (ap (λ (l : KeyContent). not (nat_eq place p) && holds old l p) (sym (same_key-is key k t)) ∙ none p)))
      (λ f.
      let same : lookup (same_key k) new ≡ lookup (same_key k) old = changes k ∙ rw f (rest k f) in
      ap (λ o. has_place o p) same ∙ rw f refl)

-- what a look-up under the key as it is asked changes
pub changes_at : {A : Type 0} (asked key : KeyContent) → asked ≡ key → (old new : List (KeyContent × Bucket A)) (w : Option (Bucket A)) → ((k : KeyContent) → lookup (same_key k) new ≡ cond (same_key asked k) w (lookup (same_key k) old))
    → (k : KeyContent) → lookup (same_key k) new ≡ cond (same_key key k) w (lookup (same_key k) old)
changes_at asked key is old new w changes k = changes k ∙ ap (λ (l : KeyContent). cond (same_key l k) w (lookup (same_key k) old)) is

pub on_ok : {T E P Q : Type 0} (r : Result T E) → (P → Q) → OnOk r P → OnOk r Q
on_ok (Ok x) f h = f h
on_ok (Err e) f h = tt

pub on_err_of : {T E P Q : Type 0} (r : Result T E) → (P → Q) → OnErr r P → OnErr r Q
on_err_of (Ok x) f h = tt
on_err_of (Err e) f h = f h

pub on_err : {T E : Type 0} (r : Result T E) {P : Type 0} → P → OnErr r P
on_err (Ok x) p = tt
on_err (Err e) p = p

or_false : (b : Bool) → (b || false) ≡ b
or_false true = refl
or_false false = refl

-- ---- two keys

puts_joined : (own group at had : Bool) → (group && at || (own && at || had)) ≡ ((own || group) && at || had)
puts_joined true true true had = refl
puts_joined true true false had = refl
puts_joined true false true had = refl
puts_joined true false false had = refl
puts_joined false group at had = refl

takes_joined : (own group at had : Bool) → (not (group && at) && (not (own && at) && had)) ≡ (not ((own || group) && at) && had)
takes_joined true true true had = refl
takes_joined true true false had = refl
takes_joined true false true had = refl
takes_joined true false false had = refl
takes_joined false group at had = refl

undone : (own at had : Bool) → (at ≡ true → had ≡ false) → (not (own && at) && (own && at || had)) ≡ had
undone true true had none = sym (none refl)
undone true false had none = refl
undone false at had none = refl

module _ {A : Type 0} (b0 b1 b2 : List (KeyContent × Bucket A)) (own group : KeyContent) (place : ℕ) where
  pub puts_both : Puts b0 own place b1 → Puts b1 group place b2 → PutsBoth b0 own group place b2
  puts_both first second k p = second k p ∙ ap (λ b. same_key group k && nat_eq place p || b) (first k p) ∙ puts_joined (same_key own k) (same_key group k) (nat_eq place p) _

  pub takes_both : Takes b0 own place b1 → Takes b1 group place b2 → TakesBoth b0 own group place b2
  takes_both first second k p = second k p ∙ ap (λ b. not (same_key group k && nat_eq place p) && b) (first k p) ∙ takes_joined (same_key own k) (same_key group k) (nat_eq place p) _

module _ {A : Type 0} (b0 b1 b2 b3 : List (KeyContent × Bucket A)) (own : KeyContent) (place : ℕ) where
  pub put_undone : IsNowhere b0 place → Puts b0 own place b1 → Keeps b1 b2 → Takes b2 own place b3 → Keeps b0 b3
  put_undone nowhere first same back k p = back k p ∙ ap (λ b. not (same_key own k && nat_eq place p) && b) (same k p ∙ first k p)
      ∙ undone (same_key own k) (nat_eq place p) _ (λ t. ap (λ q. holds b0 k q) (sym ((Decides-eqb place p).0 t)) ∙ nowhere k)

pub began : (p place : ℕ) (had : Bool) → nat_eq p place ≡ nat_eq place p → had ≡ false → nat_eq p place ≡ (nat_eq place p || had)
began p place had turned none = turned ∙ rw none (sym (or_false (nat_eq place p)))
