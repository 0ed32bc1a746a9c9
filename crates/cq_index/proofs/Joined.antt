-- Two lists of places joined.
use Rattle.std.proofs.Common.{◌≡◌, ℕ, Bool, true, false, ◌||◌, nat_eq, List, [], ◌∷◌, ◌++◌, append-nil, refl, sym, ap, ◌∙◌}
use Rattle.std.specs.List.{list_any, AllByRecursion, IsDistinct}
use Rattle.std.proofs.lemmas.Bool.Decides.{Decides-eqb}
use Rattle.std.proofs.lemmas.List.Folds.{list_any-append}
use Rattle.cq_index.specs.Steps.Buckets.{Adds, Joins}
use Rattle.cq_index.specs.Steps.Same.{by_bool}

left_true : (a b : Bool) → a ≡ true → (a || b) ≡ true
left_true true b t = refl
left_true false b t = absurd cc

right_true : (a b : Bool) → b ≡ true → (a || b) ≡ true
right_true true b t = refl
right_true false b t = t

all_apart : (x : ℕ) (ys : List ℕ) → list_any (nat_eq x) ys ≡ false → AllByRecursion (λ y. nat_eq x y ≡ false) ys
all_apart x [] h = tt
all_apart x (y ∷ ys) h = by_bool (nat_eq x y) _
    (λ t. absurd (let no : true ≡ false = sym (left_true _ (list_any (nat_eq x) ys) t) ∙ h in cc))
    (λ f. (f, all_apart x ys (rw f at h)))

all_joined : (P : ℕ → Type 0) (xs ys : List ℕ) → AllByRecursion P xs → AllByRecursion P ys → AllByRecursion P (xs ++ ys)
all_joined P [] ys a b = b
all_joined P (x ∷ xs) ys a b = (a.0, all_joined P xs ys a.1 b)

distinct_joined : (xs ys : List ℕ) → IsDistinct nat_eq xs → IsDistinct nat_eq ys → ((p : ℕ) → list_any (nat_eq p) xs ≡ true → list_any (nat_eq p) ys ≡ true → ⊥) → IsDistinct nat_eq (xs ++ ys)
unfolding IsDistinct
distinct_joined [] ys a b apart = b
distinct_joined (x ∷ xs) ys a b apart =
    let here : list_any (nat_eq x) (x ∷ xs) ≡ true = left_true (nat_eq x x) _ ((Decides-eqb x x).1 refl) in
    let away : list_any (nat_eq x) ys ≡ false = by_bool (list_any (nat_eq x) ys) _ (λ t. absurd (apart x here t)) (λ f. f) in (
      all_joined (λ y. nat_eq x y ≡ false) xs ys a.0 (all_apart x ys away),
      distinct_joined xs ys a.1 b (λ p i j. apart p (right_true (nat_eq p x) _ i) j),
    )

or_false : (b : Bool) → (b || false) ≡ b
or_false true = refl
or_false false = refl

pub joins : (places between : List ℕ) (left right : ℕ → Bool) → Adds [] left between → Adds between right places → Joins places left right
joins places between left right one other =
    let is : places ≡ one.added ++ other.added = other.is ∙ ap (λ l. l ++ other.added) one.is in record {
      members = λ p. ap (list_any (nat_eq p)) is ∙ list_any-append (nat_eq p) one.added other.added ∙ (λ i. one.members p i || other.members p i);
      distinct = λ apart. rw is (distinct_joined one.added other.added one.distinct other.distinct (λ p i j. apart p (sym (one.members p) ∙ i) (sym (other.members p) ∙ j)));
    }

pub adds_one : (old new : List ℕ) (place : ℕ) (test : ℕ → Bool) → new ≡ old ++ place ∷ [] → ((p : ℕ) → nat_eq p place ≡ test p) → Adds old test new
unfolding IsDistinct
adds_one old new place test is same = record { added = place ∷ []; is = is; members = λ p. or_false (nat_eq p place) ∙ same p; distinct = (tt, tt) }

pub adds_none : (old : List ℕ) (test : ℕ → Bool) → ((p : ℕ) → false ≡ test p) → Adds old test old
unfolding IsDistinct
adds_none old test none = record { added = []; is = sym (append-nil old); members = none; distinct = tt }
