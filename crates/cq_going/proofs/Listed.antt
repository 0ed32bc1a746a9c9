-- Lists that are gone through from the front.
use Rattle.std.proofs.Common.{◌≡◌, ◌&&◌, ℕ, zero, suc, ◌+◌, ◌<◌, Bool, true, false, List, [], ◌∷◌, ◌++◌, length, map, take, drop, get_or, refl, sym, ap, subst, ◌∙◌, arith, Some}
use Rattle.std.specs.Prelude.{filter, slice_get}
use Rattle.std.specs.List.{All, enumerate_from, flat_map}
use Rattle.std.proofs.lemmas.List.{map-append, take_more}
use Rattle.cq_atom.specs.declared.edge.Edge.{Edge}
use Rattle.cq_render.specs.Explain.{ArePieces}
use Rattle.cq_render.proofs.CallerLemmas.{pieces_step}
use Rattle.cq_going.specs.Grouping.{is_flagged, links_between}

-- one element more that was made
pub map_more : {X Y : Type 0} (f : X → Y) (ys : List Y) (y : Y) (xs : List X) (i : ℕ) (x : X) → i < length xs → x ≡ get_or xs i x → ys ≡ map f (take i xs) → y ≡ f x → ys ++ y ∷ [] ≡ map f (take (i + 1) xs)
map_more {X} {Y} f ys y xs i x low is so_far same =
    ap (λ (l : List Y). l ++ y ∷ []) so_far ∙ ap (λ (z : Y). map f (take i xs) ++ z ∷ []) same
    ∙ sym (ap (map f) (take_more xs i x low ∙ ap (λ (z : X). take i xs ++ z ∷ []) (sym is)) ∙ map-append f (take i xs) (x ∷ []))

ahead_suc : {X : Type 0} (xs : List X) (i : ℕ) (x : X) → slice_get xs i ≡ Some x → drop i xs ≡ x ∷ drop (suc i) xs
ahead_suc [] i x got = cc
ahead_suc (y ∷ xs) zero x got = let same : y ≡ x = cc in ap (λ z. z ∷ xs) same
ahead_suc (y ∷ xs) (suc i) x got = ahead_suc xs i x got

-- what is left begins with the element at the place
pub ahead : {X : Type 0} (xs : List X) (i : ℕ) (x : X) → slice_get xs i ≡ Some x → drop i xs ≡ x ∷ drop (i + 1) xs
ahead xs i x got = let one : suc i ≡ i + 1 = omega arith in ahead_suc xs i x got ∙ ap (λ (n : ℕ). x ∷ drop n xs) one

-- the same of numbered elements
pub numbered_at : {X Y : Type 0} (f : ℕ × X → List Y) (xs : List X) (i : ℕ) (x : X) → slice_get xs i ≡ Some x
    → flat_map f (enumerate_from i (drop i xs)) ≡ f (i, x) ++ flat_map f (enumerate_from (i + 1) (drop (i + 1) xs))
numbered_at f xs i x got = ap (λ ys. flat_map f (enumerate_from i ys)) (ahead xs i x got)

-- elements that pass a test, one more or not
pub kept_at : {X Y : Type 0} (f : X → Y) (p : X → Bool) (xs : List X) (i : ℕ) (x : X) → slice_get xs i ≡ Some x → p x ≡ true
    → map f (filter p (drop i xs)) ≡ f x ∷ map f (filter p (drop (i + 1) xs))
kept_at f p xs i x got t = ap (λ ys. map f (filter p ys)) (ahead xs i x got) ∙ rw t refl

pub left_at : {X Y : Type 0} (f : X → Y) (p : X → Bool) (xs : List X) (i : ℕ) (x : X) → slice_get xs i ≡ Some x → p x ≡ false
    → map f (filter p (drop i xs)) ≡ map f (filter p (drop (i + 1) xs))
left_at f p xs i x got t = ap (λ ys. map f (filter p ys)) (ahead xs i x got) ∙ rw t refl

pub get_enumerated : {X : Type 0} (n : ℕ) (xs : List X) (i : ℕ) (d : X) → i < length xs → get_or (enumerate_from n xs) i (n + i, d) ≡ (n + i, get_or xs i d)
get_enumerated n [] i d low = absurd (omega arith)
get_enumerated n (x ∷ xs) zero d low = let at : n ≡ n + 0 = omega arith in ap (λ (m : ℕ). (m, x)) at
get_enumerated {X} n (x ∷ xs) (suc i) d low =
    let at : n + 1 + i ≡ n + suc i = omega arith in
    ap (λ (m : ℕ). get_or (enumerate_from (n + 1) xs) i (m, d)) (sym at) ∙ get_enumerated (n + 1) xs i d (omega arith) ∙ ap (λ (m : ℕ). (m, get_or xs i d)) at

pub length_enumerated : {X : Type 0} (n : ℕ) (xs : List X) → length (enumerate_from n xs) ≡ length xs
length_enumerated n [] = refl
length_enumerated n (x ∷ xs) = ap suc (length_enumerated (n + 1) xs)

-- a list that was read
pub read_mapped : {X Y : Type 0} (f : X → Y) (xs : List X) (i : ℕ) (x : X) → slice_get xs i ≡ Some x → slice_get (map f xs) i ≡ Some (f x)
read_mapped f [] i x got = cc
read_mapped f (y ∷ xs) zero x got = let same : y ≡ x = cc in ap (λ z. Some (f z)) same
read_mapped f (y ∷ xs) (suc i) x got = read_mapped f xs i x got

-- one more number, and what is told of it
pub numbers_step : {X Y : Type 0} (T : ℕ → List Y → Type 0) (xs : List X) (i : ℕ) (text next piece : List Y) → i < length xs
    → ArePieces (λ p. T p.0) (take i (enumerate_from 0 xs)) text → T i piece → next ≡ text ++ piece → ArePieces (λ p. T p.0) (take (i + 1) (enumerate_from 0 xs)) next
numbers_step T [] i text next piece low so_far one is = absurd (omega arith)
numbers_step {X} {Y} T (x ∷ xs) i text next piece low so_far one is =
    let long = length_enumerated 0 (x ∷ xs) in
    pieces_step (λ (p : ℕ × X). T p.0) (enumerate_from 0 (x ∷ xs)) i (0 + i, x) text next piece (omega (arith, long, low)) so_far
    (subst (λ (p : ℕ × X). T p.0 piece) (sym (get_enumerated 0 (x ∷ xs) i x low)) (let at : i ≡ 0 + i = omega arith in subst (λ (n : ℕ). T n piece) at one)) is

-- what is told of numbers is told of those of another list that is as long
pub numbers_alike : {X Y Z : Type 0} (T : ℕ → List Z → Type 0) (n : ℕ) (xs : List X) (ys : List Y) (text : List Z) → length xs ≡ length ys
    → ArePieces (λ p. T p.0) (enumerate_from n xs) text → ArePieces (λ p. T p.0) (enumerate_from n ys) text
numbers_alike T n [] [] text same told = told
numbers_alike T n [] (y ∷ ys) text same told = cc
numbers_alike T n (x ∷ xs) [] text same told = cc
numbers_alike T n (x ∷ xs) (y ∷ ys) text same told = (told.0, told.1, told.2, numbers_alike T (n + 1) xs ys told.1 (omega (arith, same)) told.3, told.4)

-- texts that are made of numbers are those of another list that is as long
pub texts_alike : {X Y Z : Type 0} (f : ℕ → List Z) (n : ℕ) (xs : List X) (ys : List Y) → length xs ≡ length ys → flat_map (λ (p : ℕ × X). f p.0) (enumerate_from n xs) ≡ flat_map (λ (p : ℕ × Y). f p.0) (enumerate_from n ys)
texts_alike f n [] [] same = refl
texts_alike f n [] (y ∷ ys) same = cc
texts_alike f n (x ∷ xs) [] same = cc
texts_alike f n (x ∷ xs) (y ∷ ys) same = ap (λ rest. f n ++ rest) (texts_alike f (n + 1) xs ys (omega (arith, same)))

pub map_mapped : {X Y Z : Type 0} (f : Y → Z) (h : X → Y) (xs : List X) → map (λ x. f (h x)) xs ≡ map f (map h xs)
map_mapped f h [] = refl
map_mapped {X} {Y} {Z} f h (x ∷ xs) = ap (λ (zs : List Z). f (h x) ∷ zs) (map_mapped f h xs)

by_bool : (b : Bool) (P : Type 0) → (b ≡ true → P) → (b ≡ false → P) → P
by_bool true P f g = f refl
by_bool false P f g = g refl

in_front : {Y : Type 0} (Q : Y → Type 0) (y : Y) (ys : List Y) → Q y → All Q ys → All Q (y ∷ ys)
in_front Q y ys q all zero d low = q
in_front Q y ys q all (suc k) d low = all k d (omega (arith, low))

-- what is kept has what the test says
kept_all : {X Y : Type 0} (f : X → Y) (p : X → Bool) (Q : Y → Type 0) → ((x : X) → p x ≡ true → Q (f x)) → (xs : List X) → All Q (map f (filter p xs))
kept_all f p Q h [] = λ k d low. absurd (omega (arith, low))
kept_all {X} {Y} f p Q h (x ∷ xs) =
    by_bool (p x) (All Q (map f (filter p (x ∷ xs))))
    (λ t. let is : map f (filter p (x ∷ xs)) ≡ f x ∷ map f (filter p xs) = rw t refl in subst (All Q) (sym is) (in_front Q (f x) (map f (filter p xs)) (h x t) (kept_all f p Q h xs)))
    (λ t. let is : map f (filter p (x ∷ xs)) ≡ map f (filter p xs) = rw t refl in subst (All Q) (sym is) (kept_all f p Q h xs))

flag_low : (flags : List Bool) (place : ℕ) → is_flagged flags place ≡ true → place < length flags
flag_low [] place h = cc
flag_low (flag ∷ flags) zero h = omega arith
flag_low (flag ∷ flags) (suc place) h = let more = flag_low flags place h in omega (arith, more)

and_left : (a b : Bool) → a && b ≡ true → a ≡ true
and_left true b h = refl
and_left false b h = h

and_right : (a b : Bool) → a && b ≡ true → b ≡ true
and_right true b h = h
and_right false b h = absurd cc

-- the ends of links are flagged places
pub links_low-one : (flags : List Bool) (edges : List Edge) → All (λ link. link.0 < length flags) (links_between flags edges)
links_low-one flags edges =
    kept_all (λ (edge : Edge). (edge.provider, edge.waiter)) (λ edge. is_flagged flags edge.provider && is_flagged flags edge.waiter) (λ link. link.0 < length flags)
    (λ edge t. flag_low flags edge.provider (and_left (is_flagged flags edge.provider) (is_flagged flags edge.waiter) t)) edges

pub links_low-other : (flags : List Bool) (edges : List Edge) → All (λ link. link.1 < length flags) (links_between flags edges)
links_low-other flags edges =
    kept_all (λ (edge : Edge). (edge.provider, edge.waiter)) (λ edge. is_flagged flags edge.provider && is_flagged flags edge.waiter) (λ link. link.1 < length flags)
    (λ edge t. flag_low flags edge.waiter (and_right (is_flagged flags edge.provider) (is_flagged flags edge.waiter) t)) edges
