-- Journals, and the pool that one leaves. (this project's profile)
use Rattle.std.specs.Prelude.{List, fold}
use Rattle.cq_board.specs.Pool.{PoolRecord}
use Rattle.cq_atom.specs.Edit.{Edit}
use Rattle.cq_board.specs.Edits.{pool_after}
use Rattle.cq_desk.specs.declared.journal.Entry.{Entry}

-- Accepted edits with their authors, the earliest first.
abbrev pub Journal : Type 0
Journal = List (Entry Edit)

-- The pool that a journal leaves: its edits, one after another, over the opening pool.
abbrev pub pool_left : PoolRecord → Journal → PoolRecord
pool_left opening journal = fold (λ pool entry. pool_after pool entry.edit) opening journal
