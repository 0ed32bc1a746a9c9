use Rattle.std.proofs.Common.{◌≡◌, ◌++◌, ◌∙◌, ℕ, List, ap, subst}
use Rattle.std.specs.Prelude.{string_bytes}
use Rattle.std.specs.List.{flat_map}
use Rattle.cq_text.specs.declared.command.CommandKind.TheVariants.{Setup}
use Rattle.cq_text.specs.declared.command.SetupLine.TheVariants.{Board, Limits}
use Rattle.cq_rel.specs.Tables.{Declaration, TablesRecord}
use Rattle.cq_board.specs.declared.limits.Limits.{Limits as LimitsRecord}
use Rattle.cq_render.specs.Dump.{command_line, relation_command}
use Rattle.cq_render.proofs.Dumped.{three_put, setup_all}
use Rattle.cq_render.proofs.dumping.put_setup.Goals as goal

pub returns : goal.returns
returns g c =
    let pool = c.args.board.now in
    let one = string_bytes c.put_form.new.script in
    let two = string_bytes c.put_relations.new.script in
    let three = string_bytes c.put_limits.new.script in
    let f : Declaration → List ℕ = λ declared. command_line (relation_command declared) in
    let relations = subst (λ (ds : List Declaration). two ≡ one ++ flat_map f ds) (c.catalog.ensures.value ∙ ap (λ (tables : TablesRecord). tables.catalog) c.tables.ensures) c.in_ok-put_relations.ensures in
    let limits = subst (λ (limits : LimitsRecord). three ≡ two ++ command_line (Setup (Limits limits.pool c.args.journal))) c.limits.ensures c.in_ok-put_limits.ensures in
    three_put (string_bytes c.args.script.now) one two three (command_line (Setup (Board c.args.form))) (flat_map f pool.tables.catalog) (command_line (Setup (Limits pool.limits.pool c.args.journal))) _ c.in_ok-put_form.ensures relations limits (setup_all c.args.form c.args.journal pool)
