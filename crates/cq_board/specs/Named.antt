-- What a board shows of pending queries by their names. (this project's profile)
use Rattle.std.specs.Prelude.{ℕ, Bool, List, map, Option, option_map}
use Rattle.std.specs.List.{slice_get}
use Rattle.std.specs.Option.{option_and_then}
use Rattle.cq_atom.specs.Value.{ValueContent}
use Rattle.cq_atom.specs.Query.{QueryRecord}
use Rattle.cq_board.specs.declared.link.Link.{Link}
use Rattle.cq_board.specs.declared.link.Crowd.{Crowd}
use Rattle.cq_board.specs.Pool.{PendingQuery, PoolRecord}
use Rattle.cq_board.specs.Board.{is_matched_at, matched_of, all_groundings, name_at, name_or_none, place_of}

-- The pending query of that name.
abbrev pub query_named : List ℕ → List PendingQuery → Option QueryRecord
query_named name pending = option_and_then (λ place. option_map (λ p. p.query) (slice_get pending place)) (place_of name pending)

-- Whether the pending query of that name is matched.
abbrev pub matched_named : List ℕ → PoolRecord → Option Bool
matched_named name pool = option_map (is_matched_at pool) (place_of name pool.pending)

-- The groundings of the pending query of that name.
abbrev pub groundings_named : List ℕ → PoolRecord → Option (List (List ValueContent))
groundings_named name pool = option_and_then (slice_get (all_groundings pool)) (place_of name pool.pending)

-- The names of the matched queries, in posting order.
abbrev pub matched_names : PoolRecord → List (List ℕ)
matched_names pool = map (λ place. name_or_none (name_at pool.pending place)) (matched_of pool)

-- The same edge, with its names read.
abbrev pub link_read : {N : Type 0} → (N → List ℕ) → Link N → Link (List ℕ)
link_read read link = record { provider = read link.provider; head = link.head; waiter = read link.waiter; post = link.post }

-- The same crowded postcondition, with its name read.
abbrev pub crowd_read : {N : Type 0} → (N → List ℕ) → Crowd N → Crowd (List ℕ)
crowd_read read crowd = record { waiter = read crowd.waiter; post = crowd.post; providers = crowd.providers }
