-- The dump of a board: a script that makes a board of the same content. (this project's profile)
use Rattle.std.specs.Prelude.{ℕ, ◌+◌, List, [], ◌∷◌, ◌++◌, length, map, max}
use Rattle.std.specs.List.{flat_map}
use Rattle.cq_text.specs.declared.command.CommandKind.TheVariants.{Setup, Edit, Publish}
use Rattle.cq_text.specs.declared.command.SetupLine.TheVariants.{Relation, Board, Limits}
use Rattle.cq_text.specs.declared.form.Form.{Form}
use Rattle.cq_text.specs.Grammar.{CommandContent}
use Rattle.cq_text.specs.Print.{printed_command}
use Rattle.cq_rel.specs.Tables.{Declaration}
use Rattle.cq_board.specs.Pool.{PoolRecord}
use Rattle.cq_board.specs.Content.{content_edits}
use Rattle.cq_render.specs.Report.{line}

-- ---- the commands

-- The command that declares a relation.
abbrev pub relation_command : Declaration → CommandContent
relation_command declared = Setup (Relation declared.relation declared.arity)

-- The commands that set a board up: its form, its relations in order of declaration, and its limits, of which the journal's is given.
abbrev pub setup_commands : Form → ℕ → PoolRecord → List CommandContent
setup_commands form journal pool = Setup (Board form) ∷ (map relation_command pool.tables.catalog ++ Setup (Limits pool.limits.pool journal) ∷ [])

-- The journal limit of a dump: the given one, or the number of rows and queries if that is larger, so that the journal has room for each edit of the script.
abbrev pub dump_journal : ℕ → PoolRecord → ℕ
dump_journal journal pool = max journal (length pool.tables.rows + length pool.pending)

-- The commands that make a board: those that set it up, the edits that make its content, and one publish.
abbrev pub dump_commands : Form → ℕ → PoolRecord → List CommandContent
dump_commands form journal pool = setup_commands form (dump_journal journal pool) pool ++ (map Edit (content_edits pool) ++ Publish ∷ [])

-- ---- the script

-- A command as a whole line of a script.
abbrev pub command_line : CommandContent → List ℕ
command_line command = line (printed_command command)

-- The commands as a script, a line for each.
abbrev pub dump : Form → ℕ → PoolRecord → List ℕ
dump form journal pool = flat_map command_line (dump_commands form journal pool)
