-- One step after another, where each may fail.
use Rattle.std.proofs.Common.{◌≡◌, ℕ, Bool, true, false, cond, Result, Ok, Err, refl, inl, inr, ◌⊎◌}
use Rattle.cq_text.specs.declared.fault.Kind.{Kind}
use Rattle.cq_text.specs.declared.fault.TextFault.{TextFault}
use Rattle.cq_text.specs.Steps.Lexemes.{fault, ◌>>=◌}

pub bind_assoc : {A B C : Type 0} (r : Result A TextFault) (f : A → Result B TextFault) (g : B → Result C TextFault) → ((r >>= f) >>= g) ≡ (r >>= λ x. f x >>= g)
bind_assoc (Ok x) f g = refl
bind_assoc (Err e) f g = refl

pub bind_same : {A B : Type 0} (r : Result A TextFault) (f g : A → Result B TextFault) → ((x : A) → f x ≡ g x) → (r >>= f) ≡ (r >>= g)
bind_same (Ok x) f g h = h x
bind_same (Err e) f g h = refl

pub bind_ok_same : {A B : Type 0} (r : Result A TextFault) (f g : A → Result B TextFault) → ((x : A) → r ≡ Ok x → f x ≡ g x) → (r >>= f) ≡ (r >>= g)
bind_ok_same (Ok x) f g h = h x refl
bind_ok_same (Err e) f g h = refl

pub bind_cond : {A B : Type 0} (b : Bool) (x y : Result A TextFault) (f : A → Result B TextFault) → (cond b x y >>= f) ≡ cond b (x >>= f) (y >>= f)
bind_cond true x y f = refl
bind_cond false x y f = refl

-- steps after one that fails are the same
pub bind_never : {A B : Type 0} (r : Result A TextFault) (f g : A → Result B TextFault) → ((x : A) → r ≡ Ok x → ⊥) → (r >>= f) ≡ (r >>= g)
bind_never (Ok x) f g n = absurd (n x refl)
bind_never (Err e) f g n = refl

pub bind_ok : {A B : Type 0} (r : Result A TextFault) (f : A → Result B TextFault) (y : B) → (r >>= f) ≡ Ok y → (x : A) × (r ≡ Ok x) × (f x ≡ Ok y)
bind_ok (Ok x) f y e = (x, refl, e)
bind_ok (Err d) f y e = absurd cc

pub guard_ok : {A : Type 0} (b : Bool) (k : Kind) (at : ℕ) (x y : A) → cond b (Ok x) (fault k at) ≡ Ok y → (b ≡ true) × (x ≡ y)
guard_ok true k at x y e = (refl, cc)
guard_ok false k at x y e = absurd cc

pub guard_not : {A : Type 0} (b : Bool) (k : Kind) (at : ℕ) (x y : A) → cond b (fault k at) (Ok x) ≡ Ok y → (b ≡ false) × (x ≡ y)
guard_not false k at x y e = (refl, cc)
guard_not true k at x y e = absurd cc

pub chosen : {A : Type 0} (b : Bool) (x y : Result A TextFault) (z : A) → cond b x y ≡ Ok z → ((b ≡ true) × (x ≡ Ok z)) ⊎ ((b ≡ false) × (y ≡ Ok z))
chosen true x y z e = inl (refl, e)
chosen false x y z e = inr (refl, e)

abbrev Given : {A : Type 0} → A → Result A TextFault
Given x = Ok x

pub ok_is : {A : Type 0} (x y : A) → Given x ≡ Given y → x ≡ y
ok_is x y e = cc

pub never_ok : {A : Type 0} (k : Kind) (at : ℕ) (x : A) → fault k at ≡ Ok x → ⊥
never_ok k at x e = cc
