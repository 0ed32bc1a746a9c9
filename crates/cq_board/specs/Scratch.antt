-- A pool from rows and queries, from scratch. (this project's profile)
use Rattle.std.specs.Prelude.{◌≡◌, ℕ, List, [], ◌∷◌, ◌++◌, map, Option, Some, None, Result, Ok, Err}
use Rattle.cq_atom.specs.Atom.{RowRecord}
use Rattle.cq_atom.specs.Query.{QueryRecord}
use Rattle.cq_atom.specs.declared.edit.EditKind.TheVariants.{Post, Insert}
use Rattle.cq_board.specs.declared.edit.Why.{Why}
use Rattle.cq_board.specs.declared.scratch.ScratchFault.{ScratchFault}
use Rattle.cq_board.specs.declared.scratch.ScratchFault.TheVariants.{Refused, NoMemory}
use Rattle.cq_board.specs.Pool.{PoolRecord}
use Rattle.cq_atom.specs.Edit.{Edit}
use Rattle.cq_board.specs.Edits.{why, edited}

-- The insertions of the rows, and then the postings of the queries.
abbrev pub scratch_edits : List (List ℕ × QueryRecord) → List RowRecord → List Edit
scratch_edits queries rows = map Insert rows ++ map (λ q. Post q.0 q.1) queries

-- The refusal, where there is one, else what is made.
abbrev pub or_refused : Option Why → Result PoolRecord Why → Result PoolRecord Why
or_refused None made = made
or_refused (Some reason) made = Err reason

-- The pool after all of the edits, or why the first that is refused is refused.
abbrev pub scratch_of : PoolRecord → List Edit → Result PoolRecord Why
scratch_of pool [] = Ok pool
scratch_of pool (edit ∷ edits) = or_refused (why pool edit) (scratch_of (edited pool edit) edits)

-- The pool is the one that is made, and a refusal is the one that there is. Out of memory says nothing.
abbrev pub Makes : Result PoolRecord Why → Result PoolRecord ScratchFault → Type 0
Makes made (Ok pool) = made ≡ Ok pool
Makes made (Err (Refused reason)) = made ≡ Err reason
Makes made (Err NoMemory) = Unit {0}
