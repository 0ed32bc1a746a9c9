-- The commands of a dump by what the code has.
use Rattle.cq_atom.specs.declared.edit.EditKind.TheVariants.{Post, Insert}
use Rattle.cq_atom.specs.Atom.{RowRecord}
use Rattle.cq_text.specs.declared.command.CommandKind.TheVariants.{Edit}
use Rattle.cq_text.specs.Grammar.{CommandContent}
use Rattle.cq_board.specs.Pool.{PendingQuery}

-- The command that inserts a row.
abbrev pub insert_command : RowRecord → CommandContent
insert_command row = Edit (Insert row)

-- The command that posts a pending query.
abbrev pub post_command : PendingQuery → CommandContent
post_command posted = Edit (Post posted.name posted.query)
