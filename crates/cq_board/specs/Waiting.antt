-- Why a pending query waits, by names. (this project's profile)
use Rattle.std.specs.Prelude.{◌≡◌, ℕ, Bool, false, not, List, map}
use Rattle.std.specs.Option.{option_map_or}
use Rattle.cq_match.specs.declared.falls.Fall.{Fall}
use Rattle.cq_match.specs.Falling.{IsFalling, AreAllRounds}
use Rattle.cq_match.specs.Resting.{IsPartFor, EndsWith}
use Rattle.cq_board.specs.declared.waiting.Waiter.{Waiter}
use Rattle.cq_board.specs.Pool.{PendingQuery, PoolRecord}
use Rattle.cq_board.specs.Edges.{edges_of}
use Rattle.cq_board.specs.Board.{nodes_of, name_at, name_or_none}
use Rattle.cq_board.specs.Named.{matched_named}

-- The pending query of that name waits: there is one, and it is not matched.
abbrev pub is_waiting : List ℕ → PoolRecord → Bool
is_waiting name pool = option_map_or not (matched_named name pool) false

-- A fall, by the name of its query.
abbrev pub wait_named : List PendingQuery → Fall → Waiter (List ℕ)
wait_named pending fall = record { name = name_or_none (name_at pending fall.node); reason = fall.reason }

-- The same, with its name read.
abbrev pub wait_read : {N : Type 0} → (N → List ℕ) → Waiter N → Waiter (List ℕ)
wait_read read wait = record { name = read wait.name; reason = wait.reason }

-- A part of the falls that tells why the query at the place waits: of all falls, round after round, those on which it rests. It is falling itself, and ends with the query.
pub record IsReasonPart (pool : PoolRecord) (place : ℕ) (part : List Fall) : Type 0 where
  pub falls : List Fall
  pub rounds : AreAllRounds (nodes_of pool) (edges_of pool.pending) falls
  pub rests : IsPartFor (edges_of pool.pending) falls place part
  pub falling : IsFalling (nodes_of pool) (edges_of pool.pending) part
  pub last : EndsWith part place

-- Why the query at the place waits: such a part, by names.
pub record IsReason (pool : PoolRecord) (place : ℕ) (waits : List (Waiter (List ℕ))) : Type 0 where
  pub part : List Fall
  pub tells : IsReasonPart pool place part
  pub named : waits ≡ map (wait_named pool.pending) part
