-- Two lists of terms can meet exactly where the constants under each label agree.
use Rattle.std.proofs.Common.{◌≡◌, ℕ, zero, suc, ◌<◌, ◌≤◌, ◌==◌, ◌⊎◌, inl, inr, below_more, Bool, true, false, List, [], ◌∷◌, map, length, refl, sym, ap, ◌∙◌, subst, arith, if◌then◌else◌, Option, Some, None, unwrap_or, get_or, bytes_eq}
use Rattle.std.proofs.lemmas.List.{get_or-map, ext_get_or}
use Rattle.std.proofs.lemmas.Bool.{eqb-true, eq-eqb}
use Rattle.std.proofs.lemmas.Slice.Eq.{bytes_eq-Decides}
use Rattle.std.proofs.Math.ListN.{length-map}
use Rattle.cq_atom.specs.Value.{ValueContent}
use Rattle.cq_atom.specs.Atom.{TermContent}
use Rattle.cq_atom.specs.declared.term.TermKind.TheVariants.{Constant, Variable}
use Rattle.cq_atom.specs.Steps.Labels.{label_at, term_at, zero_value, Respects, RespectsTies, Tied, Agree, AreValid}
use Rattle.std.proofs.Common.{rules}
use Rattle.cq_atom.specs.Value.{IsValue}
use Rattle.cq_atom.specs.Steps.Meets.{Values, value_of, CanMeet, MayMeet}

by_term : (t : TermContent) (P : Type 0) → ((c : ValueContent) → t ≡ Constant c → P) → ((x : List ℕ) → t ≡ Variable x → P) → P
by_term (Constant c) P f g = f c refl
by_term (Variable x) P f g = g x refl

by_option : {X : Type 0} (o : Option X) (P : Type 0) → (o ≡ None → P) → ((v : X) → o ≡ Some v → P) → P
by_option None P f g = f refl
by_option (Some v) P f g = g v refl

by_bool : (b : Bool) (P : Type 0) → (b ≡ true → P) → (b ≡ false → P) → P
by_bool true P f g = f refl
by_bool false P f g = g refl

abbrev or_else : {X : Type 0} → Option X → Option X → Option X
or_else None q = q
or_else (Some v) q = Some v

-- the first answer below n
abbrev first_below : {X : Type 0} → (ℕ → Option X) → ℕ → Option X
first_below f zero = None
first_below f (suc n) = or_else (first_below f n) (f n)

-- a first answer is given at some place below n
record Found {X : Type 0} (f : ℕ → Option X) (n : ℕ) (v : X) : Type 0 where
  first : first_below f n ≡ Some v
  at : ℕ
  below : at < n
  gives : f at ≡ Some v

record Missing {X : Type 0} (f : ℕ → Option X) (n : ℕ) : Type 0 where
  first : first_below f n ≡ None
  none : (k : ℕ) → k < n → f k ≡ None

module _ {X : Type 0} (f : ℕ → Option X) where
  searched : (n : ℕ) → ((v : X) × Found f n v) ⊎ Missing f n
  searched zero = inr (record { first = refl; none = λ k h. absurd (omega arith) })
  searched (suc n) =
      elim (searched n) [
        | inl p ↦ inl (p.0, record { first = ap (λ o. or_else o (f n)) p.1.first; at = p.1.at; below = let h : p.1.at < n = p.1.below in omega arith; gives = p.1.gives })
        | inr q ↦ by_option (f n) (((v : X) × Found f (suc n) v) ⊎ Missing f (suc n))
            (λ e. inr (record { first = ap (λ o. or_else o (f n)) q.first ∙ e; none = λ k h. below_more (λ m. f m ≡ None) n q.none e k (omega arith) }))
            (λ v e. inl (v, record { first = ap (λ o. or_else o (f n)) q.first ∙ e; at = n; below = omega arith; gives = e }))
      ]

  -- where an answer is given below n, there is a first
  found : (n k : ℕ) (v : X) → k < n → f k ≡ Some v → (w : X) × Found f n w
  found n k v h e = elim (searched n) [ inl p ↦ p | inr q ↦ let none : f k ≡ None = q.none k h in cc ]

abbrev const_of : TermContent → Option ValueContent
const_of (Constant c) = Some c
const_of (Variable x) = None

abbrev const_in : List ℕ → ℕ → List TermContent → ℕ → Option ValueContent
const_in ls l ts k = if label_at ls k == l then const_of (term_at ts k) else None

abbrev label_if : TermContent → List ℕ → ℕ → Option ℕ
label_if (Constant c) x l = None
label_if (Variable y) x l = if bytes_eq y x then Some l else None

abbrev var_in : List ℕ → List TermContent → List ℕ → ℕ → Option ℕ
var_in ls ts x k = label_if (term_at ts k) x (label_at ls k)

const_of_gives : (t : TermContent) (c : ValueContent) → const_of t ≡ Some c → t ≡ Constant c
const_of_gives (Constant d) c e = cc
const_of_gives (Variable x) c e = cc

const_in_gives : (ls : List ℕ) (l : ℕ) (ts : List TermContent) (k : ℕ) (c : ValueContent) → const_in ls l ts k ≡ Some c → (label_at ls k ≡ l) × (term_at ts k ≡ Constant c)
const_in_gives ls l ts k c e =
    by_bool (label_at ls k == l) ((label_at ls k ≡ l) × (term_at ts k ≡ Constant c))
    (λ t. (eqb-true (label_at ls k) l t, const_of_gives (term_at ts k) c (sym (ap (λ b. if b then const_of (term_at ts k) else None) t) ∙ e)))
    (λ f. let none : None ≡ Some c = sym (ap (λ b. if b then const_of (term_at ts k) else None) f) ∙ e in cc)

const_in_has : (ls : List ℕ) (l : ℕ) (ts : List TermContent) (k : ℕ) (c : ValueContent) → label_at ls k ≡ l → term_at ts k ≡ Constant c → const_in ls l ts k ≡ Some c
const_in_has ls l ts k c e t = ap (λ b. if b then const_of (term_at ts k) else None) (eq-eqb (label_at ls k) l e) ∙ ap const_of t

label_if_gives : (t : TermContent) (x : List ℕ) (l m : ℕ) → label_if t x l ≡ Some m → (t ≡ Variable x) × (l ≡ m)
label_if_gives (Constant c) x l m e = cc
label_if_gives (Variable y) x l m e =
    by_bool (bytes_eq y x) ((Variable y ≡ Variable x) × (l ≡ m))
    (λ t. (ap Variable ((bytes_eq-Decides y x).0 t), let some : Some l ≡ Some m = sym (ap (λ b. if b then Some l else None) t) ∙ e in cc))
    (λ f. let none : None ≡ Some m = sym (ap (λ b. if b then Some l else None) f) ∙ e in cc)

label_if_has : (x : List ℕ) (l : ℕ) → label_if (Variable x) x l ≡ Some l
label_if_has x l = ap (λ b. if b then Some l else None) ((bytes_eq-Decides x x).1 refl)

-- labels under which all ties of both lists are made, and no more than need be
pub record IsClosed (ls : List ℕ) (xs ys : List TermContent) : Type 0 where
  pub long : length xs ≡ length ys
  pub fits : length xs ≤ length ls
  pub ties_left : (i j : ℕ) → Tied xs i j → label_at ls i ≡ label_at ls j
  pub ties_right : (i j : ℕ) → Tied ys i j → label_at ls i ≡ label_at ls j
  pub least : (z : ℕ → ValueContent) → RespectsTies xs z → RespectsTies ys z → Respects ls z

module _ (ls : List ℕ) (xs ys : List TermContent) (closed : IsClosed ls xs ys) where
  abbrev d : TermContent
  d = Constant zero_value

  value_at-map : (v : Values) (ts : List TermContent) (i : ℕ) → i < length ts → get_or (map (value_of v) ts) i zero_value ≡ value_of v (term_at ts i)
  value_at-map v ts i h = get_or-map (value_of v) ts i d zero_value h

  -- the values of a meeting are equal where the labels are
  module _ (m : CanMeet xs ys) where
    abbrev z : ℕ → ValueContent
    z i = value_of m.left (term_at xs i)

    crossed : (i : ℕ) → i < length xs → z i ≡ value_of m.right (term_at ys i)
    crossed i h =
        sym (value_at-map m.left xs i h) ∙ ap (λ l. get_or l i zero_value) m.same
        ∙ value_at-map m.right ys i (subst (λ n. i < n) closed.long h)

    left_tied : RespectsTies xs z
    left_tied i j t = ap (value_of m.left) (t.variable.first ∙ sym t.variable.second)

    right_tied : RespectsTies ys z
    right_tied i j t =
        crossed i (subst (λ n. i < n) (sym closed.long) t.first_in)
        ∙ ap (value_of m.right) (t.variable.first ∙ sym t.variable.second)
        ∙ sym (crossed j (subst (λ n. j < n) (sym closed.long) t.second_in))

    z_is : Respects ls z
    z_is = closed.least z left_tied right_tied

    same : (i j : ℕ) → i < length xs → j < length xs → label_at ls i ≡ label_at ls j → z i ≡ z j
    same i j h k e = let f : length xs ≤ length ls = closed.fits in z_is i j (omega arith) (omega arith) e

    at_right : (j : ℕ) → j < length ys → j < length xs
    at_right j h = subst (λ n. j < n) (sym closed.long) h

    pub meets_agree_left : Agree ls xs xs
    meets_agree_left i j h k e c c' s t = sym (ap (value_of m.left) s) ∙ same i j h k e ∙ ap (value_of m.left) t

    pub meets_agree_across : Agree ls xs ys
    meets_agree_across i j h k e c c' s t =
        sym (ap (value_of m.left) s) ∙ same i j h (at_right j k) e ∙ crossed j (at_right j k) ∙ ap (value_of m.right) t

    pub meets_agree_right : Agree ls ys ys
    meets_agree_right i j h k e c c' s t =
        sym (ap (value_of m.right) s) ∙ sym (crossed i (at_right i h)) ∙ same i j (at_right i h) (at_right j k) e ∙ crossed j (at_right j k) ∙ ap (value_of m.right) t

  -- the value of a label: its constant, where it has one
  abbrev class_value : ℕ → ValueContent
  class_value l = unwrap_or (first_below (const_in ls l xs) (length xs)) (unwrap_or (first_below (const_in ls l ys) (length xs)) zero_value)

  abbrev by_class : List TermContent → Values
  by_class ts x = class_value (unwrap_or (first_below (var_in ls ts x) (length xs)) 0)

  module _ (ll : Agree ls xs xs) (lr : Agree ls xs ys) (rr : Agree ls ys ys) where
    long_right : (j : ℕ) → j < length xs → j < length ys
    long_right j h = subst (λ n. j < n) closed.long h

    left_constant : (i : ℕ) → i < length xs → (c : ValueContent) → term_at xs i ≡ Constant c → class_value (label_at ls i) ≡ c
    left_constant i h c t =
        let p = found (const_in ls (label_at ls i) xs) (length xs) i c h (const_in_has ls (label_at ls i) xs i c refl t) in
        let g = const_in_gives ls (label_at ls i) xs p.1.at p.0 p.1.gives in
        ap (λ o. unwrap_or o (unwrap_or (first_below (const_in ls (label_at ls i) ys) (length xs)) zero_value)) p.1.first
        ∙ ll p.1.at i p.1.below h g.0 p.0 c g.1 t

    right_constant : (i : ℕ) → i < length xs → (c : ValueContent) → term_at ys i ≡ Constant c → class_value (label_at ls i) ≡ c
    right_constant i h c t =
        elim (searched (const_in ls (label_at ls i) xs) (length xs)) [
          | inl p ↦
              let g = const_in_gives ls (label_at ls i) xs p.1.at p.0 p.1.gives in
              ap (λ o. unwrap_or o (unwrap_or (first_below (const_in ls (label_at ls i) ys) (length xs)) zero_value)) p.1.first
              ∙ lr p.1.at i p.1.below (long_right i h) g.0 p.0 c g.1 t
          | inr q ↦
              let p = found (const_in ls (label_at ls i) ys) (length xs) i c h (const_in_has ls (label_at ls i) ys i c refl t) in
              let g = const_in_gives ls (label_at ls i) ys p.1.at p.0 p.1.gives in
              ap (λ o. unwrap_or o (unwrap_or (first_below (const_in ls (label_at ls i) ys) (length xs)) zero_value)) q.first
              ∙ ap (λ o. unwrap_or o zero_value) p.1.first
              ∙ rr p.1.at i (long_right p.1.at p.1.below) (long_right i h) g.0 p.0 c g.1 t
        ]

    -- a variable has the value of its places' label
    variable_value : (ts : List TermContent) (long : length xs ≡ length ts) (ties : (i j : ℕ) → Tied ts i j → label_at ls i ≡ label_at ls j) (i : ℕ) → i < length xs → (x : List ℕ) → term_at ts i ≡ Variable x → by_class ts x ≡ class_value (label_at ls i)
    variable_value ts long ties i h x t =
        let p = found (var_in ls ts x) (length xs) i (label_at ls i) h (ap (λ s. label_if s x (label_at ls i)) t ∙ label_if_has x (label_at ls i)) in
        let g = label_if_gives (term_at ts p.1.at) x (label_at ls p.1.at) p.0 p.1.gives in
        ap (λ o. class_value (unwrap_or o 0)) p.1.first
        ∙ ap class_value (sym g.1 ∙ ties p.1.at i (record { first_in = subst (λ n. p.1.at < n) long p.1.below; second_in = subst (λ n. i < n) long h; variable = record { name = x; first = g.0; second = t } }))

    value_left : (i : ℕ) → i < length xs → value_of (by_class xs) (term_at xs i) ≡ class_value (label_at ls i)
    value_left i h =
        by_term (term_at xs i) (value_of (by_class xs) (term_at xs i) ≡ class_value (label_at ls i))
        (λ c t. ap (value_of (by_class xs)) t ∙ sym (left_constant i h c t))
        (λ x t. ap (value_of (by_class xs)) t ∙ variable_value xs refl closed.ties_left i h x t)

    value_right : (i : ℕ) → i < length xs → value_of (by_class ys) (term_at ys i) ≡ class_value (label_at ls i)
    value_right i h =
        by_term (term_at ys i) (value_of (by_class ys) (term_at ys i) ≡ class_value (label_at ls i))
        (λ c t. ap (value_of (by_class ys)) t ∙ sym (right_constant i h c t))
        (λ x t. ap (value_of (by_class ys)) t ∙ variable_value ys closed.long closed.ties_right i h x t)

    zero_valid : IsValue zero_value
    zero_valid = search rules

    class_valid : AreValid xs → AreValid ys → (l : ℕ) → IsValue (class_value l)
    class_valid vx vy l =
        elim (searched (const_in ls l xs) (length xs)) [
          | inl p ↦
              let g = const_in_gives ls l xs p.1.at p.0 p.1.gives in
              subst IsValue (sym (ap (λ o. unwrap_or o (unwrap_or (first_below (const_in ls l ys) (length xs)) zero_value)) p.1.first)) (vx p.1.at p.1.below p.0 g.1)
          | inr q ↦ elim (searched (const_in ls l ys) (length xs)) [
            | inl p ↦
                let g = const_in_gives ls l ys p.1.at p.0 p.1.gives in
                subst IsValue
                (sym (ap (λ o. unwrap_or o (unwrap_or (first_below (const_in ls l ys) (length xs)) zero_value)) q.first ∙ ap (λ o. unwrap_or o zero_value) p.1.first))
                (vy p.1.at (long_right p.1.at p.1.below) p.0 g.1)
            | inr r ↦ subst IsValue
                (sym (ap (λ o. unwrap_or o (unwrap_or (first_below (const_in ls l ys) (length xs)) zero_value)) q.first ∙ ap (λ o. unwrap_or o zero_value) r.first))
                zero_valid
          ]
        ]

    sizes : length (map (value_of (by_class xs)) xs) ≡ length (map (value_of (by_class ys)) ys)
    sizes = simp length-map closed.long

    pub agree_meets : AreValid xs → AreValid ys → CanMeet xs ys
    agree_meets vx vy = record {
      left = by_class xs;
      right = by_class ys;
      left_valid = λ x. class_valid vx vy _;
      right_valid = λ x. class_valid vx vy _;
      same = ext_get_or zero_value (map (value_of (by_class xs)) xs) (map (value_of (by_class ys)) ys) sizes (λ i h.
          let h' : i < length xs = simp length-map at h in
          value_at-map (by_class xs) xs i h' ∙ value_left i h' ∙ sym (value_right i h') ∙ sym (value_at-map (by_class ys) ys i (long_right i h')));
    }

-- ---- before any label is given

one_place : (l r : Values) (x y : TermContent) → value_of l x ≡ value_of r y → MayMeet x y
one_place l r (Constant c) (Constant d) e = e
one_place l r (Constant c) (Variable y) e = tt
one_place l r (Variable x) (Constant d) e = tt
one_place l r (Variable x) (Variable y) e = tt

each_place : (l r : Values) (xs ys : List TermContent) (i : ℕ) (x y : TermContent) → map (value_of l) xs ≡ map (value_of r) ys → i < length xs → x ≡ get_or xs i x → y ≡ get_or ys i y → MayMeet x y
each_place l r [] ys i x y e h p q = absurd (omega (arith, h))
each_place l r (s ∷ xs) [] i x y e h p q = absurd cc
each_place l r (s ∷ xs) (t ∷ ys) zero x y e h p q = one_place l r x y (ap (value_of l) p ∙ (cc e) ∙ sym (ap (value_of r) q))
each_place l r (s ∷ xs) (t ∷ ys) (suc i) x y e h p q = each_place l r xs ys i x y (cc e) (let h' : suc i < suc (length xs) = h in omega arith) p q

-- terms that can meet have no two different constants at a place
pub meet_at : (xs ys : List TermContent) (i : ℕ) (x y : TermContent) → i < length xs → x ≡ get_or xs i x → y ≡ get_or ys i y → CanMeet xs ys → MayMeet x y
meet_at xs ys i x y h p q m = each_place m.left m.right xs ys i x y m.same h p q
