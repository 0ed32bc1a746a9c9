-- What a caller cites of looks by names: in a good pool the query of a name is the one that stands under it. And that edges stand side by side by their waiters. With the test by which edges are defined, for proofs that compute edges, and what loops over lists of names meet.
use Rattle.std.proofs.Common.{◌≡◌, ℕ, zero, suc, true, false, List, [], ◌∷◌, length, map, refl, sym, ap, ◌∙◌, arith, Some, bytes_eq}
use Rattle.std.specs.Prelude.{nat_lt, option_map}
use Rattle.std.specs.List.{AllByRecursion, IsDistinct, slice_get, position_or_len}
use Rattle.std.proofs.lemmas.Option.{slice_get-map, slice_get_within}
use Rattle.std.proofs.lemmas.Slice.Eq.{bytes_eq-Decides}
use Rattle.cq_ground.specs.Grounding.{groundings_of}
use Rattle.cq_board.specs.Pool.{PendingQuery, PoolRecord, name_of, IsPool}
use Rattle.cq_board.specs.Edits.{is_named}
use Rattle.cq_board.specs.Board.{is_matched_at, name_at, place_of}
use Rattle.cq_board.specs.Named.{query_named, matched_named, groundings_named}
use Rattle.cq_board.proofs.Members.{by_bool}
pub use Rattle.cq_board.proofs.Pieces.{ahead_at, got_of_map, pieces_at, read_at}
pub use Rattle.cq_board.proofs.Waiters.{edges-grouped}
unfoldable pub use Rattle.cq_board.specs.Steps.Supply.{unifies}

-- a name that is none of these is not the name at a place of theirs
other_name : (name : List ℕ) (pending : List PendingQuery) (i : ℕ) (posted : PendingQuery) → AllByRecursion (λ y. bytes_eq name y ≡ false) (map name_of pending)
    → slice_get pending i ≡ Some posted → bytes_eq posted.name name ≡ false
other_name name [] i posted apart here = cc
other_name name (p ∷ pending) zero posted apart here =
    let same : p ≡ posted = cc in
    by_bool (bytes_eq posted.name name) (bytes_eq posted.name name ≡ false)
    (λ t. let is : name ≡ p.name = sym ((bytes_eq-Decides posted.name name).0 t) ∙ ap name_of (sym same) in let yes = (bytes_eq-Decides name p.name).1 is in let no = apart.0 in cc)
    (λ f. f)
other_name name (p ∷ pending) (suc i) posted apart here = other_name name pending i posted apart.1 here

first_named : (pending : List PendingQuery) (i : ℕ) (posted : PendingQuery) → IsDistinct bytes_eq (map name_of pending) → slice_get pending i ≡ Some posted
    → position_or_len (is_named posted.name) pending ≡ i
unfolding IsDistinct
first_named [] i posted apart here = cc
first_named (p ∷ pending) zero posted apart here =
    let same : posted.name ≡ p.name = let at : p ≡ posted = cc in ap name_of (sym at) in
    rw ((bytes_eq-Decides posted.name p.name).1 same) refl
first_named (p ∷ pending) (suc i) posted apart here =
    let more = first_named pending i posted apart.1 here in rw (other_name p.name pending i posted apart.0 here) (omega (arith, more))

-- a query stands at the place of its name
pub place_at : (pool : PoolRecord) → IsPool pool → (i : ℕ) (posted : PendingQuery) → slice_get pool.pending i ≡ Some posted → place_of posted.name pool.pending ≡ Some i
place_at pool good i posted here =
    let first = first_named pool.pending i posted good.distinct here in
    let within = slice_get_within pool.pending i posted here in
    let low : nat_lt i (length pool.pending) ≡ true = grind arith in
    rw (first, low) refl

pub query_at : (pool : PoolRecord) → IsPool pool → (i : ℕ) (posted : PendingQuery) → slice_get pool.pending i ≡ Some posted → query_named posted.name pool.pending ≡ Some posted.query
query_at pool good i posted here = rw (place_at pool good i posted here, here) refl

pub matched_at : (pool : PoolRecord) → IsPool pool → (i : ℕ) (posted : PendingQuery) → slice_get pool.pending i ≡ Some posted → matched_named posted.name pool ≡ Some (is_matched_at pool i)
matched_at pool good i posted here = rw (place_at pool good i posted here) refl

pub groundings_at : (pool : PoolRecord) → IsPool pool → (i : ℕ) (posted : PendingQuery) → slice_get pool.pending i ≡ Some posted
    → groundings_named posted.name pool ≡ Some (groundings_of posted.query.body pool.tables.rows)
groundings_at pool good i posted here =
    rw (place_at pool good i posted here) (slice_get-map (λ (p : PendingQuery). groundings_of p.query.body pool.tables.rows) pool.pending i ∙ ap (option_map (λ (p : PendingQuery). groundings_of p.query.body pool.tables.rows)) here)

-- the name at a place, among the names
pub name_at-names : (pending : List PendingQuery) (i : ℕ) → slice_get (map name_of pending) i ≡ name_at pending i
name_at-names pending i = slice_get-map name_of pending i
