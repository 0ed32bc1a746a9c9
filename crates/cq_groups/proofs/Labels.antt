-- Labels by one edge more.
use Rattle.std.proofs.Common.{◌≡◌, ℕ, zero, suc, ◌<◌, ◌≤◌, Bool, true, false, List, [], ◌∷◌, ◌++◌, length, map, refl, sym, ap, ◌∙◌, subst, arith, inl, inr}
use Rattle.std.specs.Prelude.{◌==◌, ◌⊎◌, slice_index, nat_lt}
use Rattle.std.specs.List.{Contains}
use Rattle.std.proofs.lemmas.Bool.{eqb-true, eq-eqb}
use Rattle.std.proofs.lemmas.Bool.Decides.{nat_tests}
use Rattle.cq_groups.specs.Groups.{HangTogether, AreLabels}
use Rattle.cq_groups.specs.Steps.Labels.{renamed, joined_labels}
use Rattle.cq_groups.specs.Groups.HangTogether.{Same, Joined, Back, Over}

-- an edge of some is one of more
in_front : {X : Type 0} (xs : List X) (y x : X) → Contains xs x → Contains (xs ++ y ∷ []) x
in_front [] y x at = let low = at.1 in absurd (omega (arith, low))
in_front (z ∷ xs) y x (zero, low, is) = (zero, omega arith, is)
in_front (z ∷ xs) y x (suc k, low, is) = let more = in_front xs y x (k, omega (arith, low), is) in (suc more.0, (let h = more.1 in omega (arith, h)), more.2)

-- an edge of more is one of some, or the last
either : {X : Type 0} (xs : List X) (y x : X) → Contains (xs ++ y ∷ []) x → Contains xs x ⊎ (y ≡ x)
either [] y x (zero, low, is) = inr is
either [] y x (suc k, low, is) = absurd (omega (arith, low))
either (z ∷ xs) y x (zero, low, is) = inl (zero, omega arith, is)
either (z ∷ xs) y x (suc k, low, is) = elim (either xs y x (k, omega (arith, low), is)) [
  | inl at ↦ inl (suc at.0, (let h = at.1 in omega (arith, h)), at.2)
  | inr e ↦ inr e
]

last_in : {X : Type 0} (xs : List X) (y : X) → Contains (xs ++ y ∷ []) y
last_in [] y = (zero, omega arith, refl)
last_in (z ∷ xs) y = let at = last_in xs y in (suc at.0, (let h = at.1 in omega (arith, h)), at.2)

-- who hang together by some edges do so by more
more_edges : (es : List (ℕ × ℕ)) (e : ℕ × ℕ) (a b : ℕ) → HangTogether es a b → HangTogether (es ++ e ∷ []) a b
more_edges es e a b (Same a') = Same a'
more_edges es e a b (Joined a' b' at) = Joined a' b' (in_front es e (a', b') at)
more_edges es e a b (Back a' b' h) = Back a' b' (more_edges es e a' b' h)
more_edges es e a b (Over a' b' c' h k) = Over a' b' c' (more_edges es e a' b' h) (more_edges es e b' c' k)

by_bool : {P : Type 0} (t : Bool) → (t ≡ true → P) → (t ≡ false → P) → P
by_bool true f g = f refl
by_bool false f g = g refl

renamed_at : (from to l : ℕ) → (l == from) ≡ true → renamed from to l ≡ to
renamed_at from to l e = rw e refl

renamed_else : (from to l : ℕ) → (l == from) ≡ false → renamed from to l ≡ l
renamed_else from to l e = rw e refl

to_stays : (from to : ℕ) → renamed from to to ≡ to
to_stays from to = by_bool (to == from) (renamed_at from to to) (renamed_else from to to)

from_goes : (from to l : ℕ) → l ≡ from → renamed from to l ≡ to
from_goes from to l e = renamed_at from to l (eq-eqb l from e)

-- The labels from and to are those of the ends of the edge.
abbrev AreOfEnds : (ℕ → ℕ) → ℕ × ℕ → ℕ → ℕ → Type 0
AreOfEnds f e from to = ((from ≡ f e.1) × (to ≡ f e.0)) ⊎ ((from ≡ f e.0) × (to ≡ f e.1))

module _ (es : List (ℕ × ℕ)) (e : ℕ × ℕ) (f : ℕ → ℕ) (from to : ℕ) (ends : AreOfEnds f e from to) where
  abbrev new : ℕ → ℕ
  new a = renamed from to (f a)

  -- the ends have one label
  ends_meet : new e.0 ≡ new e.1
  ends_meet = elim ends [
    | inl p ↦ ap (renamed from to) (sym p.1) ∙ to_stays from to ∙ sym (from_goes from to (f e.1) (sym p.0))
    | inr p ↦ from_goes from to (f e.0) (sym p.0) ∙ sym (to_stays from to) ∙ ap (renamed from to) p.1
  ]

  -- who hang together have one label
  one_label : ((a b : ℕ) → Contains es (a, b) → f a ≡ f b) → (a b : ℕ) → HangTogether (es ++ e ∷ []) a b → new a ≡ new b
  one_label old a b (Same a') = refl
  one_label old a b (Joined a' b' at) = elim (either es e (a', b') at) [
    | inl before ↦ ap (renamed from to) (old a' b' before)
    | inr is ↦ ap (λ (p : ℕ × ℕ). new p.0) (sym is) ∙ ends_meet ∙ ap (λ (p : ℕ × ℕ). new p.1) is
  ]
  one_label old a b (Back a' b' h) = sym (one_label old a' b' h)
  one_label old a b (Over a' b' c' h k) = one_label old a' b' h ∙ one_label old b' c' k

  module _ (count : ℕ) (hang : (a b : ℕ) → a < count → b < count → f a ≡ f b → HangTogether es a b) (one : e.0 < count) (other : e.1 < count) where
    old_hang : (a b : ℕ) → a < count → b < count → f a ≡ f b → HangTogether (es ++ e ∷ []) a b
    old_hang a b p q is = more_edges es e a b (hang a b p q is)

    -- the one label and the other are of nodes that the edge joins
    across : (a b : ℕ) → a < count → b < count → f a ≡ from → f b ≡ to → HangTogether (es ++ e ∷ []) a b
    across a b p q is has = elim ends [
      | inl r ↦ Over a e.1 b (old_hang a e.1 p other (is ∙ r.0)) (Over e.1 e.0 b (Back e.0 e.1 (Joined e.0 e.1 (last_in es e))) (old_hang e.0 b one q (sym (has ∙ r.1))))
      | inr r ↦ Over a e.0 b (old_hang a e.0 p one (is ∙ r.0)) (Over e.0 e.1 b (Joined e.0 e.1 (last_in es e)) (old_hang e.1 b other q (sym (has ∙ r.1))))
    ]

    -- who have one label hang together
    new_hang : (a b : ℕ) → a < count → b < count → new a ≡ new b → HangTogether (es ++ e ∷ []) a b
    new_hang a b p q is =
        by_bool (f a == from)
        (λ t. let fa : f a ≡ from = eqb-true (f a) from t in
        by_bool (f b == from)
        (λ u. old_hang a b p q (fa ∙ sym (eqb-true (f b) from u)))
        (λ u. across a b p q fa (sym (renamed_else from to (f b) u) ∙ sym is ∙ renamed_at from to (f a) t)))
        (λ t. by_bool (f b == from)
        (λ u. Back b a (across b a q p (eqb-true (f b) from u) (sym (renamed_else from to (f a) t) ∙ is ∙ renamed_at from to (f b) u)))
        (λ u. old_hang a b p q (sym (renamed_else from to (f a) t) ∙ is ∙ renamed_else from to (f b) u)))

slice_index_map : (g : ℕ → ℕ) (ls : List ℕ) (a : ℕ) → a < length ls → slice_index (map g ls) a ≡ g (slice_index ls a)
slice_index_map g [] a low = absurd (omega (arith, low))
slice_index_map g (l ∷ ls) zero low = refl
slice_index_map g (l ∷ ls) (suc a) low = slice_index_map g ls a (omega arith)

length_map : (g : ℕ → ℕ) (ls : List ℕ) → length (map g ls) ≡ length ls
length_map g [] = refl
length_map g (l ∷ ls) = ap suc (length_map g ls)

renamed_low : (from to l : ℕ) → to ≤ from → renamed from to l ≤ l
renamed_low from to l low = by_bool (l == from) (λ t. let is = renamed_at from to l t in let at : l ≡ from = eqb-true l from t in omega (arith, low, is, at)) (λ t. let is = renamed_else from to l t in omega (arith, is))

module _ (es : List (ℕ × ℕ)) (e : ℕ × ℕ) (count : ℕ) (ls : List ℕ) (labels : AreLabels es count ls) (inside : (a b : ℕ) → Contains es (a, b) → (a < count) × (b < count)) (one : e.0 < count) (other : e.1 < count) where
  abbrev f : ℕ → ℕ
  f = slice_index ls

  low_of : (a : ℕ) → a < count → a < length ls
  low_of a p = let h = labels.each in omega (arith, p, h)

  module _ (from to : ℕ) (ends : AreOfEnds f e from to) (low : to ≤ from) (stays : f to ≡ to) where
    abbrev ls' : List ℕ
    ls' = map (renamed from to) ls

    at : (a : ℕ) → a < count → slice_index ls' a ≡ renamed from to (f a)
    at a p = slice_index_map (renamed from to) ls a (low_of a p)

    member' : (a : ℕ) → a < count → slice_index ls' (slice_index ls' a) ≡ slice_index ls' a
    member' a p =
        let fa = labels.lowest a p in
        let down = renamed_low from to (f a) low in
        let inside' : renamed from to (f a) < count = omega (arith, p, fa, down) in
        ap (slice_index ls') (at a p) ∙ at (renamed from to (f a)) inside' ∙ again ∙ sym (at a p)
      where
        again : renamed from to (f (renamed from to (f a))) ≡ renamed from to (f a)
        again =
            by_bool (f a == from)
            (λ t. let is = renamed_at from to (f a) t in ap (λ (n : ℕ). renamed from to (f n)) is ∙ ap (renamed from to) stays ∙ to_stays from to ∙ sym is)
            (λ t. let is = renamed_else from to (f a) t in ap (λ (n : ℕ). renamed from to (f n)) is ∙ ap (renamed from to) (labels.member a p))

    relabelled : AreLabels (es ++ e ∷ []) count ls'
    relabelled = record {
      each = length_map (renamed from to) ls ∙ labels.each;
      groups = λ a b p q. (
        λ is. new_hang es e f from to ends count (λ c d r s alike. (labels.groups c d r s).0 alike) one other a b p q (sym (at a p) ∙ is ∙ at b q),
        λ hang. at a p ∙ one_label es e f from to ends (λ c d has. let r = inside c d has in (labels.groups c d r.0 r.1).1 (Joined c d has)) a b hang ∙ sym (at b q),
      );
      lowest = λ a p. let is = at a p in let fa = labels.lowest a p in let down = renamed_low from to (f a) low in omega (arith, is, fa, down);
      member = member';
    }

  pub more_labels : AreLabels (es ++ e ∷ []) count (joined_labels e ls)
  more_labels =
      by_bool (nat_lt (f e.0) (f e.1))
      (λ t. rw t (relabelled (f e.1) (f e.0) (inl (refl, refl)) (below (f e.0) (f e.1) t) (labels.member e.0 one)))
      (λ t. rw t (relabelled (f e.0) (f e.1) (inr (refl, refl)) (above (f e.0) (f e.1) t) (labels.member e.1 other)))
    where
      below : (m n : ℕ) → nat_lt m n ≡ true → m ≤ n
      below m n t = grind (arith, nat_tests)

      above : (m n : ℕ) → nat_lt m n ≡ false → n ≤ m
      above m n t = grind (arith, nat_tests)

-- no edges
pub no_edges : (count : ℕ) (ls : List ℕ) → length ls ≡ count → ((a : ℕ) → a < count → slice_index ls a ≡ a) → AreLabels [] count ls
no_edges count ls each own = record {
  each = each;
  groups = λ a b p q. (λ is. subst (λ (c : ℕ). HangTogether [] a c) (sym (own a p) ∙ is ∙ own b q) (Same a), λ hang. ap (slice_index ls) (alone a b hang));
  lowest = λ a p. let is = own a p in omega (arith, is);
  member = λ a p. ap (slice_index ls) (own a p);
}
  where
    alone : (a b : ℕ) → HangTogether [] a b → a ≡ b
    alone a b (Same a') = refl
    alone a b (Joined a' b' at) = let low = at.1 in absurd (omega (arith, low))
    alone a b (Back a' b' h) = sym (alone a' b' h)
    alone a b (Over a' b' c' h k) = alone a' b' h ∙ alone b' c' k
