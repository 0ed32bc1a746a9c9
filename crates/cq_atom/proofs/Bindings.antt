-- What a valuation gives after one pair of its list is changed, or a pair is put at the end.
use Rattle.std.proofs.Common.{◌≡◌, ℕ, zero, suc, ◌<◌, Bool, true, false, cond, List, [], ◌∷◌, ◌++◌, length, get_or, set, Option, Some, None, refl, sym, ap, ◌∙◌, arith, if◌then◌else◌, bytes_eq}
use Rattle.std.specs.Prelude.{position, nat_lt, pos, ◌≤◌}
use Rattle.std.specs.List.{position_or_len}
use Rattle.std.proofs.lemmas.List.Sums.{fails_before_first}
use Rattle.std.proofs.lemmas.Bool.Decides.{nat_tests}
use Rattle.cq_atom.specs.declared.value.Content.TheVariants.{Number}
use Rattle.std.proofs.lemmas.List.Quantifiers.{position-Some}
use Rattle.std.proofs.lemmas.Slice.Eq.{bytes_eq-Decides}
use Rattle.cq_atom.specs.Value.{ValueContent}
use Rattle.cq_atom.specs.Valuation.{Bindings, value_at}

abbrev Binding : Type 0
Binding = List ℕ × ValueContent

-- the pair of x stands at i, and no earlier one is of x
pub record FirstAt (x : List ℕ) (v : Bindings) (i : ℕ) (d : Binding) : Type 0 where
  pub inside : i < length v
  pub here : bytes_eq x (get_or v i d).0 ≡ true
  pub before : (k : ℕ) → k < i → bytes_eq x (get_or v k d).0 ≡ false

FirstAt-tail : (x : List ℕ) (b : Binding) (v : Bindings) (i : ℕ) (d : Binding) → FirstAt x (b ∷ v) (suc i) d → FirstAt x v i d
FirstAt-tail x b v i d f = record {
  inside = let h : suc i < suc (length v) = f.inside in omega arith;
  here = f.here;
  before = λ k h. f.before (suc k) (omega arith);
}

pub value_at-first : (x : List ℕ) (v : Bindings) (i : ℕ) (d : Binding) → FirstAt x v i d → value_at v x ≡ Some (get_or v i d).1
value_at-first x [] i d f = absurd (let h : i < 0 = f.inside in omega arith)
value_at-first x (b ∷ v) zero d f = rw f.here refl
value_at-first x (b ∷ v) (suc i) d f = let e : bytes_eq x b.0 ≡ false = f.before 0 (omega arith) in rw e (value_at-first x v i d (FirstAt-tail x b v i d f))

abbrev changed : List ℕ → ValueContent → Bindings → List ℕ → Option ValueContent
changed x c v y = if bytes_eq y x then Some c else value_at v y

by_bool : (b : Bool) (P : Type 0) → (b ≡ true → P) → (b ≡ false → P) → P
by_bool true P f g = f refl
by_bool false P f g = g refl

same : (x y : List ℕ) → bytes_eq x y ≡ true → x ≡ y
same x y e = (bytes_eq-Decides x y).0 e

-- a pair of another variable before changes nothing
changed-behind : (x : List ℕ) (c : ValueContent) (b : Binding) (v : Bindings) (y : List ℕ) (o : Option ValueContent) → bytes_eq x b.0 ≡ false → o ≡ changed x c v y → cond (bytes_eq y b.0) (Some b.1) o ≡ changed x c (b ∷ v) y
changed-behind x c b v y o n e =
    by_bool (bytes_eq y b.0) (cond (bytes_eq y b.0) (Some b.1) o ≡ changed x c (b ∷ v) y)
    (λ t. by_bool (bytes_eq y x) (cond (bytes_eq y b.0) (Some b.1) o ≡ changed x c (b ∷ v) y)
    (λ s. let yx = same y x s in let never : true ≡ false = sym t ∙ ap (λ (z : List ℕ). bytes_eq z b.0) yx ∙ n in absurd cc)
    (λ s. rw (t, s) refl))
    (λ t. rw t e)

pub value_at-set : (x : List ℕ) (c : ValueContent) (v : Bindings) (i : ℕ) (d : Binding) → FirstAt x v i d → (y : List ℕ) → value_at (set v i ((get_or v i d).0, c)) y ≡ changed x c v y
value_at-set x c [] i d f y = absurd (let h : i < 0 = f.inside in omega arith)
value_at-set x c (b ∷ v) zero d f y =
    let e : x ≡ b.0 = same x b.0 f.here in
    by_bool (bytes_eq y b.0) (cond (bytes_eq y b.0) (Some c) (value_at v y) ≡ changed x c (b ∷ v) y)
    (λ t. let s : bytes_eq y x ≡ true = ap (bytes_eq y) e ∙ t in rw (t, s) refl)
    (λ t. let s : bytes_eq y x ≡ false = ap (bytes_eq y) e ∙ t in rw (t, s) refl)
value_at-set x c (b ∷ v) (suc i) d f y =
    changed-behind x c b v y _ (f.before 0 (omega arith)) (value_at-set x c v i d (FirstAt-tail x b v i d f) y)

pub value_at-push : (x : List ℕ) (c : ValueContent) (v : Bindings) → value_at v x ≡ None → (y : List ℕ) → value_at (v ++ ((x, c) ∷ [])) y ≡ changed x c v y
value_at-push x c [] n y = refl
value_at-push x c (b ∷ v) n y =
    by_bool (bytes_eq x b.0) (value_at ((b ∷ v) ++ ((x, c) ∷ [])) y ≡ changed x c (b ∷ v) y)
    (λ t. let never : Some b.1 ≡ None = sym (ap (λ (k : Bool). cond k (Some b.1) (value_at v x)) t) ∙ n in absurd cc)
    (λ t. changed-behind x c b v y _ t (value_at-push x c v (sym (ap (λ (k : Bool). cond k (Some b.1) (value_at v x)) t) ∙ n) y))

-- ---- what the search for a pair tells

pub FirstAt-position : (x : List ℕ) (v : Bindings) (i : ℕ) (d : Binding) → position (λ b. bytes_eq x b.0) v ≡ Some i → FirstAt x v i d
FirstAt-position x v i d e = let p = position-Some (λ b. bytes_eq x b.0) v i d e in record { inside = p.0; here = p.1; before = p.2 }

-- a search that finds nothing has looked at all
past_all : (a n : ℕ) → cond (nat_lt a n) (Some a) None ≡ None → n ≤ a
past_all a n e = by_bool (nat_lt a n) (n ≤ a) (λ t. let never : Some a ≡ None = sym (ap (λ (k : Bool). cond k (Some a) None) t) ∙ e in absurd cc) (λ f. grind (arith, nat_tests))

all_others : (x : List ℕ) (v : Bindings) (d : Binding) → ((k : ℕ) → k < length v → bytes_eq x (get_or v k d).0 ≡ false) → value_at v x ≡ None
all_others x [] d h = refl
all_others x (b ∷ v) d h = let e : bytes_eq x b.0 ≡ false = h 0 (omega arith) in rw e (all_others x v d (λ k l. h (suc k) (omega arith)))

pub value_at-none : (x : List ℕ) (v : Bindings) → position (λ b. bytes_eq x b.0) v ≡ None → value_at v x ≡ None
value_at-none x v e =
    let n = past_all (position_or_len (λ (b : Binding). bytes_eq x b.0) v) (length v) e in
    all_others x v ([], Number (pos 0)) (λ k h. fails_before_first (λ (b : Binding). bytes_eq x b.0) v k ([], Number (pos 0)) (omega arith))

-- ---- the list of pairs after `bind`

pub value_at-bound : (x : List ℕ) (c c' : ValueContent) (items v : Bindings) (i : ℕ) (d : Binding) → items ≡ v → d ≡ get_or items i d → c' ≡ c → FirstAt x v i d → (y : List ℕ) → value_at (set items i (d.0, c')) y ≡ changed x c v y
value_at-bound x c c' items v i d p q r f y =
    let q' : d ≡ get_or v i d = q ∙ ap (λ (l : Bindings). get_or l i d) p in
    ap (λ (l : Bindings). value_at (set l i (d.0, c')) y) p
    ∙ ap (λ (b : Binding). value_at (set v i (b.0, c')) y) q'
    ∙ value_at-set x c' v i d f y
    ∙ ap (λ (z : ValueContent). changed x z v y) r

pub value_at-pushed : (x n : List ℕ) (c : ValueContent) (items now v : Bindings) → items ≡ v → now ≡ items ++ ((n, c) ∷ []) → n ≡ x → value_at v x ≡ None → (y : List ℕ) → value_at now y ≡ changed x c v y
value_at-pushed x n c items now v p q r none y =
    ap (λ (l : Bindings). value_at l y) q
    ∙ ap (λ (l : Bindings). value_at (l ++ ((n, c) ∷ [])) y) p
    ∙ ap (λ (k : List ℕ). value_at (v ++ ((k, c) ∷ [])) y) r
    ∙ value_at-push x c v none y
