-- What a walk lists, and the texts that are made of it query by query.
use Rattle.std.proofs.Common.{◌≡◌, ℕ, zero, suc, ◌+◌, ◌<◌, ◌≤◌, Bool, List, [], ◌∷◌, ◌++◌, length, map, drop, get_or, refl, sym, ap, ◌∙◌, Some, None}
use Rattle.std.specs.Prelude.{option_map}
use Rattle.std.specs.List.{flat_map, enumerate_from, slice_get}
use Rattle.std.proofs.lemmas.List.{length-map}
use Rattle.std.proofs.lemmas.List.Folds.{flat_map-map}
use Rattle.std.proofs.lemmas.Option.{same_Some, slice_get-map, slice_get_read, slice_get_past}
use Rattle.cq_atom.specs.Value.{ValueContent}
use Rattle.cq_atom.specs.Query.{QueryRecord}
use Rattle.cq_ground.specs.Grounding.{groundings_of}
use Rattle.cq_board.specs.Pool.{PendingQuery, PoolRecord, name_of, IsPool}
use Rattle.cq_board.specs.Board.{is_matched_at, name_at}
use Rattle.cq_board.specs.Named.{query_named, matched_named, groundings_named}
use Rattle.cq_board.proofs.CallerLemmas as by_name
use Rattle.cq_render.specs.Report.{query_lines, block_of}
use Rattle.cq_render.specs.Graph.{if_drawn, query_box, supplies}
use Rattle.cq_render.specs.Json.{query_json}
use Rattle.cq_render.specs.Steps.Walking.{ShownRecord, shown_of, all_shown, shown_lines, shown_block, shown_box, shown_if, shown_supplies, shown_json}
use Rattle.cq_render.proofs.Pieces.{ahead}

-- ---- names

module _ {R : Type 0} (read : R → List ℕ) (items : List R) (pending : List PendingQuery) (named : map read items ≡ map name_of pending) where
  at_name : (i : ℕ) → option_map read (slice_get items i) ≡ name_at pending i
  at_name i = sym (slice_get-map read items i) ∙ ap (λ (ns : List (List ℕ)). slice_get ns i) named ∙ by_name.name_at-names pending i

  pub name_read : (i : ℕ) (x : R) → i < length items → x ≡ get_or items i x → name_at pending i ≡ Some (read x)
  name_read i x h is = sym (at_name i) ∙ ap (option_map read) (slice_get_read items (length items) i x refl h is)

  pub name_past : (i : ℕ) → length items ≤ i → name_at pending i ≡ None
  name_past i h = sym (at_name i) ∙ ap (option_map read) (slice_get_past items i h)

  pub as_many : length items ≡ length pending
  as_many = sym (length-map items read) ∙ ap length named ∙ length-map pending name_of

-- the query whose name stands at a place
pub posted_as : (pending : List PendingQuery) (i : ℕ) (name : List ℕ) → name_at pending i ≡ Some name → (posted : PendingQuery) × (slice_get pending i ≡ Some posted) × (posted.name ≡ name)
posted_as [] i name h = cc
posted_as (p ∷ pending) zero name h = (p, refl, same_Some p.name name h)
posted_as (p ∷ pending) (suc i) name h = posted_as pending i name h

-- ---- one query

module _ (pool : PoolRecord) (good : IsPool pool) (i : ℕ) (name : List ℕ) (named : name_at pool.pending i ≡ Some name) where
  pub never : None ≡ query_named name pool.pending → ⊥
  never h =
      let found = posted_as pool.pending i name named in
      let is : None ≡ Some found.0.query = h ∙ ap (λ n. query_named n pool.pending) (sym found.2) ∙ by_name.query_at pool good i found.0 found.1 in
      cc

  -- what is shown by the name is what the query has
  pub shown_is : (posted : PendingQuery) (matched : Bool) (query : QueryRecord) (lists : List (List ValueContent)) → slice_get pool.pending i ≡ Some posted
      → Some query ≡ query_named name pool.pending → Some matched ≡ matched_named name pool → Some lists ≡ groundings_named name pool
      → record { number = i; name = name; matched = matched; query = query; groundings = lists } ≡ shown_of pool (i, posted)
  shown_is posted matched query lists here q m l =
      let found = posted_as pool.pending i name named in
      let same : found.0 ≡ posted = same_Some found.0 posted (sym found.1 ∙ here) in
      let name_is : posted.name ≡ name = ap name_of (sym same) ∙ found.2 in
      let query_is : query ≡ posted.query = same_Some query posted.query (q ∙ ap (λ n. query_named n pool.pending) (sym name_is) ∙ by_name.query_at pool good i posted here) in
      let matched_is : matched ≡ is_matched_at pool i = same_Some matched _ (m ∙ ap (λ n. matched_named n pool) (sym name_is) ∙ by_name.matched_at pool good i posted here) in
      let lists_are : lists ≡ groundings_of posted.query.body pool.tables.rows = same_Some lists _ (l ∙ ap (λ n. groundings_named n pool) (sym name_is) ∙ by_name.groundings_at pool good i posted here) in
      ap (λ (x : List ℕ). record { number = i; name = x; matched = matched; query = query; groundings = lists }) (sym name_is)
      ∙ ap (λ (x : Bool). record { number = i; name = posted.name; matched = x; query = query; groundings = lists }) matched_is
      ∙ ap (λ (x : QueryRecord). record { number = i; name = posted.name; matched = is_matched_at pool i; query = x; groundings = lists }) query_is
      ∙ ap (λ (x : List (List ValueContent)). record { number = i; name = posted.name; matched = is_matched_at pool i; query = posted.query; groundings = x }) lists_are

-- ---- all queries

-- those from a place on: the one there, and those after it
pub shown_at : (pool : PoolRecord) (i : ℕ) (posted : PendingQuery) → slice_get pool.pending i ≡ Some posted
    → map (shown_of pool) (enumerate_from i (drop i pool.pending)) ≡ (shown_of pool (i, posted) ∷ []) ++ map (shown_of pool) (enumerate_from (i + 1) (drop (i + 1) pool.pending))
shown_at pool i posted here = ap (λ ps. map (shown_of pool) (enumerate_from i ps)) (ahead pool.pending i posted here)

names-from : (pool : PoolRecord) (n : ℕ) (pending : List PendingQuery) → map (λ (s : ShownRecord). s.name) (map (shown_of pool) (enumerate_from n pending)) ≡ map name_of pending
names-from pool n [] = refl
names-from pool n (p ∷ pending) = ap (λ ns. p.name ∷ ns) (names-from pool (n + 1) pending)

map_twice : {X Y Z : Type 0} (f : Y → Z) (g : X → Y) (xs : List X) → map f (map g xs) ≡ map (λ x. f (g x)) xs
map_twice f g [] = refl
map_twice f g (x ∷ xs) = ap (λ zs. f (g x) ∷ zs) (map_twice f g xs)

pub map_behind : {X Y : Type 0} (f : X → Y) (xs : List X) (x : X) → map f (xs ++ x ∷ []) ≡ map f xs ++ f x ∷ []
map_behind f [] x = refl
map_behind f (y ∷ xs) x = ap (λ zs. f y ∷ zs) (map_behind f xs x)

-- the names of what a walk lists are those of the queries
pub names_of_shown : {R : Type 0} (read : R → ShownRecord) (items : List R) (pool : PoolRecord) → map read items ≡ all_shown pool → map (λ x. (read x).name) items ≡ map name_of pool.pending
names_of_shown read items pool walked = sym (map_twice (λ (s : ShownRecord). s.name) read items) ∙ ap (map (λ (s : ShownRecord). s.name)) walked ∙ names-from pool 0 pool.pending

-- ---- texts by queries

pub lines_all : (pool : PoolRecord) → flat_map (shown_lines pool.pending) (all_shown pool) ≡ flat_map (query_lines pool) (enumerate_from 0 pool.pending)
lines_all pool = flat_map-map (shown_lines pool.pending) (shown_of pool) (enumerate_from 0 pool.pending)

pub blocks_all : (pool : PoolRecord) (name : List ℕ) → flat_map (shown_block pool.pending name) (all_shown pool) ≡ block_of pool name
blocks_all pool name = flat_map-map (shown_block pool.pending name) (shown_of pool) (enumerate_from 0 pool.pending)

pub boxes_all : (pool : PoolRecord) (drawn : ℕ → Bool) → flat_map (shown_if drawn shown_box) (all_shown pool) ≡ flat_map (if_drawn drawn (query_box pool)) (enumerate_from 0 pool.pending)
boxes_all pool drawn = flat_map-map (shown_if drawn shown_box) (shown_of pool) (enumerate_from 0 pool.pending)

pub supplies_all : (pool : PoolRecord) (drawn : ℕ → Bool) → flat_map (shown_if drawn (shown_supplies pool.pending)) (all_shown pool) ≡ flat_map (if_drawn drawn (supplies pool.pending)) (enumerate_from 0 pool.pending)
supplies_all pool drawn = flat_map-map (shown_if drawn (shown_supplies pool.pending)) (shown_of pool) (enumerate_from 0 pool.pending)

pub json_all : (pool : PoolRecord) → map (shown_json pool.pending) (all_shown pool) ≡ map (query_json pool) (enumerate_from 0 pool.pending)
json_all pool = map_twice (shown_json pool.pending) (shown_of pool) (enumerate_from 0 pool.pending)
