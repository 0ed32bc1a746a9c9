-- Texts that are made of pieces.
use Rattle.std.proofs.Common.{◌≡◌, ℕ, ◌+◌, ◌<◌, Bool, true, false, List, [], ◌∷◌, ◌++◌, length, map, take, get_or, refl, sym, ap, subst, ◌∙◌, append_assoc, append-nil}
use Rattle.std.specs.Prelude.{filter, ◌&&◌, not, codes, Option, Some, None, option_map, ◌==◌}
use Rattle.std.specs.List.{join_by}
use Rattle.std.specs.Option.{option_map_or}
use Rattle.std.proofs.lemmas.List.{map-append, take_more}
use Rattle.cq_board.specs.Pool.{PoolRecord}
use Rattle.cq_render.specs.declared.extent.Extent.{Extent}
use Rattle.cq_render.specs.Explain.{ArePieces, missing_words, IsExplanation, IsToldBy}
use Rattle.cq_render.proofs.Pieces.{by_bool}

pieces_more : {X Y : Type 0} (tells : X → List Y → Type 0) (xs : List X) (x : X) (text piece : List Y) → ArePieces tells xs text → tells x piece → ArePieces tells (xs ++ x ∷ []) (text ++ piece)
pieces_more tells [] x text piece h k = (piece, [], k, refl, ap (λ z. z ++ piece) h ∙ sym (append-nil piece))
pieces_more tells (y ∷ xs) x text piece h k =
    (h.0, h.1 ++ piece, h.2, pieces_more tells xs x h.1 piece h.3 k, ap (λ z. z ++ piece) h.4 ∙ append_assoc h.0 h.1 piece)

-- one more piece
pub pieces_step : {X Y : Type 0} (tells : X → List Y → Type 0) (xs : List X) (i : ℕ) (d : X) (text next piece : List Y) → i < length xs
    → ArePieces tells (take i xs) text → tells (get_or xs i d) piece → next ≡ text ++ piece → ArePieces tells (take (i + 1) xs) next
pieces_step {X} {Y} tells xs i d text next piece low so_far one is =
    subst (λ (t : List Y). ArePieces tells (take (i + 1) xs) t) (sym is)
    (subst (λ (ys : List X). ArePieces tells ys (text ++ piece)) (sym (take_more xs i d low)) (pieces_more tells (take i xs) (get_or xs i d) text piece so_far one))

-- the same of elements as they are read
pub pieces_at : {X Y Z : Type 0} (tells : Y → List Z → Type 0) (read : X → Y) (xs : List X) (i : ℕ) (d : X) (text next piece : List Z) → i < length xs
    → ArePieces tells (map read (take i xs)) text → tells (read (get_or xs i d)) piece → next ≡ text ++ piece → ArePieces tells (map read (take (i + 1) xs)) next
pieces_at {X} {Y} {Z} tells read xs i d text next piece low so_far one is =
    let split : map read (take (i + 1) xs) ≡ map read (take i xs) ++ read (get_or xs i d) ∷ [] = ap (map read) (take_more xs i d low) ∙ map-append read (take i xs) (get_or xs i d ∷ []) in
    subst (λ (t : List Z). ArePieces tells (map read (take (i + 1) xs)) t) (sym is)
    (subst (λ (ys : List Y). ArePieces tells ys (text ++ piece)) (sym split) (pieces_more tells (map read (take i xs)) (read (get_or xs i d)) text piece so_far one))

-- edges that pass two tests one after the other pass both
pub filter_both : {X : Type 0} (p q : X → Bool) (xs : List X) → filter q (filter p xs) ≡ filter (λ x. p x && q x) xs
filter_both p q [] = refl
filter_both {X} p q (x ∷ xs) =
    by_bool (p x) (filter q (filter p (x ∷ xs)) ≡ filter (λ x. p x && q x) (x ∷ xs))
    (λ t.
    by_bool (q x) (filter q (filter p (x ∷ xs)) ≡ filter (λ x. p x && q x) (x ∷ xs))
    (λ u. rw t (rw u (ap (λ (ys : List X). x ∷ ys) (filter_both p q xs))))
    (λ f. rw t (rw f (filter_both p q xs))))
    (λ f. rw f (filter_both p q xs))

-- what is reported where there are heads
pub missing_some : {X : Type 0} (read : X → List ℕ) (near : List X) → (length near == 0) ≡ false
    → codes "no provider; near: " ++ join_by (λ words. words) (codes ", ") (map read near) ≡ missing_words (map read near)
missing_some read [] many = absurd (let never : true ≡ false = many in cc)
missing_some read (n ∷ near) many = refl

-- ---- what is reported about a name

pub by_state : (state : Option Bool) (extent : Extent) (pool : PoolRecord) (name text : List ℕ) → option_map_or not state false ≡ true → IsExplanation extent pool name text → IsToldBy state extent pool name text
by_state None extent pool name text on told = absurd (let never : false ≡ true = on in cc)
by_state (Some true) extent pool name text on told = absurd (let never : false ≡ true = on in cc)
by_state (Some false) extent pool name text on told = told

-- a query that waits has a number
pub placed : (place : Option ℕ) (matched : ℕ → Bool) → option_map_or not (option_map matched place) false ≡ true → (n : ℕ) × (place ≡ Some n)
placed None matched on = absurd (let never : false ≡ true = on in cc)
placed (Some n) matched on = (n, refl)
