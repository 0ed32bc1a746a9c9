-- The tokens of arrays, item by item.
use Rattle.std.proofs.Common.{◌≡◌, ℕ, ◌+◌, ◌<◌, List, [], ◌∷◌, ◌++◌, map, drop, sym, ap, ◌∙◌, append_assoc, length, get_or, arith, Some}
use Rattle.std.specs.Prelude.{Result, Ok, Err, OnOk}
use Rattle.std.specs.List.{enumerate_from, slice_get}
use Rattle.json.specs.Json.{Json}
use Rattle.json.specs.Token.{Token, begin_array, end_array}
use Rattle.json.specs.Tree.{json_tokens, items_tokens}
use Rattle.cq_render.specs.Json.{items}
use Rattle.cq_render.proofs.Pieces.{ahead, got_at}

-- The tokens of these items, with the closing bracket.
abbrev pub listed : {X : Type 0} → (X → Json) → List X → List Token
listed f xs = items_tokens (items (map f xs))

pub listed_at : {X : Type 0} (f : X → Json) (xs : List X) (i : ℕ) (x : X) → slice_get xs i ≡ Some x → listed f (drop i xs) ≡ json_tokens (f x) ++ listed f (drop (i + 1) xs)
listed_at f xs i x got = ap (listed f) (ahead xs i x got)

pub listed_of : {X Y : Type 0} (f : Y → Json) (h : X → Y) (xs : List X) (i : ℕ) (x : X) → slice_get xs i ≡ Some x → listed f (map h (drop i xs)) ≡ json_tokens (f (h x)) ++ listed f (map h (drop (i + 1) xs))
listed_of f h xs i x got = ap (λ ys. listed f (map h ys)) (ahead xs i x got)

-- the same of an element as it is read from the list
pub listed_next : {X Y : Type 0} (f : Y → Json) (h : X → Y) (xs : List X) (i : ℕ) (d : X) → i < length xs → listed f (map h (drop i xs)) ≡ json_tokens (f (h (get_or xs i d))) ++ listed f (map h (drop (i + 1) xs))
listed_next f h xs i d low = listed_of f h xs i (get_or xs i d) (got_at xs i d low)

pub listed_numbered : {X : Type 0} (f : ℕ × X → Json) (xs : List X) (i : ℕ) (x : X) → slice_get xs i ≡ Some x
    → listed f (enumerate_from i (drop i xs)) ≡ json_tokens (f (i, x)) ++ listed f (enumerate_from (i + 1) (drop (i + 1) xs))
listed_numbered f xs i x got = ap (λ ys. listed f (enumerate_from i ys)) (ahead xs i x got)

-- an array that is put: its bracket, its items until none is left, and its other bracket
pub put_array : {E : Type 0} (old first last new all rest : List Token) (r : Result (Unit {0}) E) → first ≡ old ++ begin_array ∷ [] → last ++ rest ≡ first ++ all → rest ≡ end_array ∷ []
    → OnOk r (new ≡ last ++ end_array ∷ []) → OnOk r (new ≡ old ++ begin_array ∷ all)
put_array old first last new all rest (Ok done) begun inv none ended =
    ended ∙ ap (λ (z : List Token). last ++ z) (sym none) ∙ inv ∙ ap (λ (z : List Token). z ++ all) begun ∙ append_assoc old (begin_array ∷ []) all
put_array old first last new all rest (Err fault) begun inv none ended = tt

-- items that are made of the numbers alone
pub listed_numbers : {X : Type 0} (f : ℕ → Json) (xs : List X) (i : ℕ) → i < length xs
    → listed (λ (p : ℕ × X). f p.0) (enumerate_from i (drop i xs)) ≡ json_tokens (f i) ++ listed (λ (p : ℕ × X). f p.0) (enumerate_from (i + 1) (drop (i + 1) xs))
listed_numbers f [] i low = absurd (omega arith)
listed_numbers {X} f (d ∷ xs) i low = listed_numbered (λ (p : ℕ × X). f p.0) (d ∷ xs) i (get_or (d ∷ xs) i d) (got_at (d ∷ xs) i d low)
