-- Runs of edges that lead to one postcondition.
use Rattle.std.specs.Prelude.{ℕ, List, [], ◌∷◌, if◌then◌else◌}
use Rattle.std.specs.List.{prefix_len}
use Rattle.cq_atom.specs.declared.edge.Edge.{Edge}
use Rattle.cq_match.specs.Graph.{leads_to, is_crowd}
use Rattle.cq_board.specs.declared.link.Crowd.{Crowd}
use Rattle.cq_board.specs.Pool.{PendingQuery}
use Rattle.cq_board.specs.Board.{name_at, name_or_none}

-- How many edges from the front on lead to the same postcondition as this one.
abbrev pub run_length : Edge → List Edge → ℕ
run_length first edges = prefix_len (leads_to first.waiter first.post) edges

-- The postcondition to which the edge leads, where that many are a crowd.
abbrev pub crowd_at : List PendingQuery → Edge → ℕ → List (Crowd (List ℕ))
crowd_at pending first count =
    if is_crowd count then (record { waiter = name_or_none (name_at pending first.waiter); post = first.post; providers = count }) ∷ [] else []
