use Rattle.std.proofs.Common.{◌≡◌, ◌++◌, ℕ, subst}
use Rattle.std.specs.Prelude.{string_bytes}
use Rattle.std.specs.List.{flat_map}
use Rattle.cq_text.specs.declared.command.CommandKind.TheVariants.{Publish}
use Rattle.cq_render.specs.Dump.{command_line, setup_commands, dump_journal}
use Rattle.cq_render.specs.Steps.Walking.{shown_read}
use Rattle.cq_render.proofs.Dumped.{four_put, rows_all, queries_all, dump_all, journal_is, dump_sound}
use Rattle.cq_render.proofs.dumping.put_dump.Goals as goal

pub returns-clause-printed : goal.returns-clause-printed
returns-clause-printed g c =
    let pool = c.args.board.now in
    let start = string_bytes c.args.script.now in
    let one = string_bytes c.put_setup.new.script in
    let limit = journal_is (λ row. row.now) shown_read c.args.rows.now c.args.queries.now c.args.journal c.edit_count.result c.max.result pool c.requires.rows c.requires.queries c.edit_count.ensures c.max.ensures in
    let setup = subst (λ (n : ℕ). one ≡ start ++ flat_map command_line (setup_commands c.args.form n pool)) limit c.in_ok-put_setup.ensures in
    four_put start one (string_bytes c.put_rows.new.script) (string_bytes c.put_queries.new.script) (string_bytes c.put_publish.new.script)
    (flat_map command_line (setup_commands c.args.form (dump_journal c.args.journal pool) pool)) _ _ (command_line Publish) _ setup c.in_ok-put_rows.ensures.printed c.in_ok-put_queries.ensures.printed c.in_ok-put_publish.ensures
    (dump_all c.args.form c.args.journal pool _ _ (rows_all (λ row. row.now) c.args.rows.now pool.tables.rows c.requires.rows) (queries_all shown_read c.args.queries.now pool c.requires.queries))

pub returns-clause-sound : goal.returns-clause-sound
returns-clause-sound g c =
    dump_sound (λ row. row.now) shown_read c.args.rows.now c.args.queries.now c.args.form c.args.journal c.args.board.now c.len-good.ensures.valid c.requires.rows c.requires.queries c.in_ok-put_rows.ensures.sound c.in_ok-put_queries.ensures.sound
