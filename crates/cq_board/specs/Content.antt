-- What a pool is made of: its rows and its queries, as edits. (this project's profile)
use Rattle.std.specs.Prelude.{List, ◌++◌, map}
use Rattle.cq_atom.specs.declared.edit.EditKind.TheVariants.{Post, Insert}
use Rattle.cq_atom.specs.Edit.{Edit}
use Rattle.cq_board.specs.Pool.{PoolRecord}

-- The edits that make a pool's content: its rows in their order, and then its queries in posting order.
abbrev pub content_edits : PoolRecord → List Edit
content_edits pool = map Insert pool.tables.rows ++ map (λ p. Post p.name p.query) pool.pending
