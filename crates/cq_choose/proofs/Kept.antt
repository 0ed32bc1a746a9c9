-- What is kept of members and choices, one after another.
use Rattle.std.proofs.Common.{◌≡◌, ℕ, zero, suc, ◌+◌, ◌<◌, ◌≤◌, List, [], ◌∷◌, ◌++◌, length, map, take, set, get_or, refl, sym, ap, ◌∙◌, arith, Option, Some, None, append-nil}
use Rattle.std.specs.Prelude.{option_map}
use Rattle.std.specs.List.{filter_map, slice_get}
use Rattle.std.proofs.lemmas.List.{map-append, map-set, get_or-map, take_more}
use Rattle.std.proofs.lemmas.Option.{slice_get-map, slice_get_past}
use Rattle.cq_board.specs.Choice.{ChoiceRecord}
use Rattle.cq_choose.specs.Steps.Offers.{OfferRecord, choice_of, choices_of}
use Rattle.cq_choose.specs.Steps.Stocks.{noted}

-- a member goes to the end of the list of that number
pub noted-at : {X : Type 0} (items : X → List ℕ) (lists : List X) (number member : ℕ) (old new : X) → number < length lists → get_or lists number old ≡ old → items new ≡ items old ++ member ∷ []
    → map items (set lists number new) ≡ noted (map items lists) number member
noted-at items lists number member old new low is grew =
    map-set items lists number new
    ∙ ap (set (map items lists) number) (grew ∙ ap (λ (l : List ℕ). l ++ member ∷ []) (sym (get_or-map items lists number old [] low ∙ ap items is)))

-- an offer that is not there gives no choice
pub choices-none : {X : Type 0} (read : X → OfferRecord) (offers : List X) (number : ℕ) (choices : List ChoiceRecord) → length offers ≤ number
    → choices ≡ choices ++ choices_of (map read offers) (number ∷ [])
choices-none read offers number choices past =
    let nothing : slice_get (map read offers) number ≡ None = slice_get-map read offers number ∙ ap (option_map read) (slice_get_past offers number past) in
    rw nothing (sym (append-nil choices))

filter_map-step : {X Y : Type 0} (f : X → Option Y) (x : X) (xs zs : List X) (ws : List Y) (o : Option Y) → f x ≡ o → filter_map f zs ≡ filter_map f xs ++ ws → filter_map f (x ∷ zs) ≡ filter_map f (x ∷ xs) ++ ws
filter_map-step f x xs zs ws None e more = rw e more
filter_map-step {X} {Y} f x xs zs ws (Some y) e more = rw e (ap (λ (l : List Y). y ∷ l) more)

filter_map-append : {X Y : Type 0} (f : X → Option Y) (xs ys : List X) → filter_map f (xs ++ ys) ≡ filter_map f xs ++ filter_map f ys
filter_map-append f [] ys = refl
filter_map-append f (x ∷ xs) ys = filter_map-step f x xs (xs ++ ys) (filter_map f ys) (f x) refl (filter_map-append f xs ys)

pub getting : (xs : List ℕ) (i d : ℕ) → i < length xs → get_or xs i d ≡ get_or xs i (get_or xs i d)
getting [] i d low = absurd (omega arith)
getting (x ∷ xs) zero d low = refl
getting (x ∷ xs) (suc i) d low = getting xs i d (omega arith)

-- the choices of one number more
pub choices-more : (offers : List OfferRecord) (chosen : List ℕ) (i number : ℕ) → i < length chosen → number ≡ get_or chosen i number
    → choices_of offers (take (i + 1) chosen) ≡ choices_of offers (take i chosen) ++ choices_of offers (number ∷ [])
choices-more offers chosen i number low is =
    ap (choices_of offers) (take_more chosen i number low ∙ ap (λ (n : ℕ). take i chosen ++ n ∷ []) (sym is)) ∙ filter_map-append (λ member. option_map choice_of (slice_get offers member)) (take i chosen) (number ∷ [])

-- one more of two lists that are read alike
pub read-more : {X Y Z W : Type 0} (f : X → W) (h : Y → W) (r : Z → Y) (xs : List X) (x : X) (zs : List Z) (i : ℕ) (z : Z) → i < length zs → z ≡ get_or zs i z
    → map f xs ≡ map h (map r (take i zs)) → f x ≡ h (r z) → map f (xs ++ x ∷ []) ≡ map h (map r (take (i + 1) zs))
read-more {X} {Y} {Z} {W} f h r xs x zs i z low is so_far same =
    map-append f xs (x ∷ [])
    ∙ ap (λ (l : List W). l ++ f x ∷ []) so_far
    ∙ ap (λ (w : W). map h (map r (take i zs)) ++ w ∷ []) same
    ∙ sym (ap (λ (l : List Z). map h (map r l)) (take_more zs i z low ∙ ap (λ (y : Z). take i zs ++ y ∷ []) (sym is)) ∙ ap (map h) (map-append r (take i zs) (z ∷ [])) ∙ map-append h (map r (take i zs)) (r z ∷ []))
