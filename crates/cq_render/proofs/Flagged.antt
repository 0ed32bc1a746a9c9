-- Flags of the queries that a graph keeps.
use Rattle.std.proofs.Common.{◌≡◌, ◌<◌, ◌+◌, ◌++◌, ℕ, List, [], ◌∷◌, Bool, true, length, map, take, get_or, refl, sym, ap, subst, ◌∙◌}
use Rattle.std.proofs.lemmas.List.{map-append, take_more}
use Rattle.std.specs.Prelude.{◌↔◌, ◌||◌, replicate, Result, IfOk}
use Rattle.std.specs.List.{list_any}
use Rattle.std.specs.Str.{bytes_eq}
use Rattle.cq_atom.specs.declared.edge.Edge.{Edge}
use Rattle.cq_board.specs.Pool.{PendingQuery, name_of}
use Rattle.cq_closure.specs.Closure.{is_set, IsReached}
use Rattle.cq_render.specs.Graph.{is_named_by}

-- one element more that was made
pub map_more : {X Y : Type 0} (f : X → Y) (ys : List Y) (y : Y) (xs : List X) (i : ℕ) (x : X) → i < length xs → x ≡ get_or xs i x → ys ≡ map f (take i xs) → y ≡ f x → ys ++ y ∷ [] ≡ map f (take (i + 1) xs)
map_more {X} {Y} f ys y xs i x low is so_far same =
    ap (λ (l : List Y). l ++ y ∷ []) so_far ∙ ap (λ (z : Y). map f (take i xs) ++ z ∷ []) same
    ∙ sym (ap (map f) (take_more xs i x low ∙ ap (λ (z : X). take i xs ++ z ∷ []) (sym is)) ∙ map-append f (take i xs) (x ∷ []))

-- as many flags as queries
pub all_true : {Y : Type 0} (count : ℕ) (ys : List Y) → count ≡ length ys → replicate count true ≡ map (λ y. true) ys
all_true {Y} count ys many = ap (λ (n : ℕ). replicate n true) many ∙ each ys
  where
    each : (zs : List Y) → replicate (length zs) true ≡ map (λ z. true) zs
    each [] = refl
    each (z ∷ zs) = ap (λ (flags : List Bool). true ∷ flags) (each zs)

among : {W : Type 0} (read : W → List ℕ) (name : List ℕ) (words : List W) → list_any (λ word. bytes_eq name (read word)) words ≡ list_any (bytes_eq name) (map read words)
among read name [] = refl
among read name (word ∷ words) = ap (λ (rest : Bool). bytes_eq name (read word) || rest) (among read name words)

flags_of : {N W : Type 0} (name_read : N → List ℕ) (read : W → List ℕ) (words : List W) (names : List N)
    → map (λ name. list_any (λ word. bytes_eq (name_read name) (read word)) words) names ≡ map (λ (name : List ℕ). list_any (bytes_eq name) (map read words)) (map name_read names)
flags_of name_read read words [] = refl
flags_of name_read read words (name ∷ names) =
    ap (λ (flag : Bool). flag ∷ map (λ name. list_any (λ word. bytes_eq (name_read name) (read word)) words) names) (among read (name_read name) words)
    ∙ ap (λ (flags : List Bool). list_any (bytes_eq (name_read name)) (map read words) ∷ flags) (flags_of name_read read words names)

of_queries : (words : List (List ℕ)) (pending : List PendingQuery) → map (λ (name : List ℕ). list_any (bytes_eq name) words) (map name_of pending) ≡ map (is_named_by words) pending
of_queries words [] = refl
of_queries words (posted ∷ pending) = ap (λ (flags : List Bool). list_any (bytes_eq posted.name) words ∷ flags) (of_queries words pending)

-- the flags of names are those of the queries that have them
pub named_all : {N W : Type 0} (name_read : N → List ℕ) (read : W → List ℕ) (words : List W) (names : List N) (pending : List PendingQuery) → map name_read names ≡ map name_of pending
    → map (λ name. list_any (λ word. bytes_eq (name_read name) (read word)) words) names ≡ map (is_named_by (map read words)) pending
named_all name_read read words names pending same =
    flags_of name_read read words names ∙ ap (map (λ (name : List ℕ). list_any (bytes_eq name) (map read words))) same ∙ of_queries (map read words) pending

-- who is reached, of what was looked at
pub kept_read : {X E : Type 0} (r : Result X E) (items : X → List Bool) (edges edges' : List Edge) (may may' first first' : List Bool) → edges ≡ edges' → may ≡ may' → first ≡ first'
    → IfOk r (λ flags. (n : ℕ) → (is_set (items flags) n ≡ true) ↔ IsReached edges may first n) → IfOk r (λ flags. (n : ℕ) → (is_set (items flags) n ≡ true) ↔ IsReached edges' may' first' n)
kept_read r items edges edges' may may' first first' e m f h =
    subst (λ (x : List Bool). IfOk r (λ flags. (n : ℕ) → (is_set (items flags) n ≡ true) ↔ IsReached edges' may' x n)) f
    (subst (λ (x : List Bool). IfOk r (λ flags. (n : ℕ) → (is_set (items flags) n ≡ true) ↔ IsReached edges' x first n)) m
    (subst (λ (x : List Edge). IfOk r (λ flags. (n : ℕ) → (is_set (items flags) n ≡ true) ↔ IsReached x may first n)) e h))
