-- The nodes of the graph of pending queries, as the stores have them.
use Rattle.std.specs.Prelude.{ℕ, Bool, length}
use Rattle.cq_grounded.specs.Grounded.{GroundedMap}
use Rattle.cq_board.specs.Steps.Flags.{has_grounding}
use Rattle.cq_board.specs.Steps.Stores.{query_at}

-- The node of the query at the place, under that number.
abbrev pub node_in : GroundedMap → ℕ → ℕ → ℕ × ℕ × Bool
node_in grounded number place = (number, length (query_at grounded place).posts, has_grounding grounded place)
