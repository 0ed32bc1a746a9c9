-- The falls of the queries that wait, as a board tells them.
use Rattle.std.specs.Prelude.{◌↔◌, ℕ, List, nat_eq}
use Rattle.std.specs.List.{Contains, IsDistinct}
use Rattle.cq_match.specs.declared.falls.Fall.{Fall}
use Rattle.cq_match.specs.Falling.{fallen, IsFalling, IsUnmatched, AreAllRounds}
use Rattle.cq_board.specs.Pool.{PoolRecord}
use Rattle.cq_board.specs.Edges.{edges_of}
use Rattle.cq_board.specs.Board.{nodes_of}

-- All falls of a pool.
pub record AreFalls (pool : PoolRecord) (falls : List Fall) : Type 0 where
  pub falling : IsFalling (nodes_of pool) (edges_of pool.pending) falls
  pub unmatched : (n : ℕ) → Contains (fallen falls) n ↔ IsUnmatched (nodes_of pool) (edges_of pool.pending) n
  pub once : IsDistinct nat_eq (fallen falls)
  pub rounds : AreAllRounds (nodes_of pool) (edges_of pool.pending) falls
