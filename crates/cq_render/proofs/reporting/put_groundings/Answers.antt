use Rattle.std.proofs.Common.{◌≡◌, ◌++◌, ℕ, length, subst}
use Rattle.std.specs.Prelude.{string_bytes}
use Rattle.std.specs.List.{flat_map}
use Rattle.cq_atom.specs.Query.{variables_of}
use Rattle.cq_render.specs.Report.{groundings_line, values_line}
use Rattle.cq_render.proofs.Pages.{put_then}
use Rattle.cq_render.proofs.reporting.put_groundings.Goals as goal

pub returns : goal.returns
returns g c =
    let variables = variables_of c.args.query.now.body in
    let line = groundings_line variables (length c.args.groundings.now) in
    let first = subst (λ (n : ℕ). string_bytes c.put_variables.new.page ≡ string_bytes c.args.page.now ++ groundings_line variables n) c.count.ensures c.in_ok-put_variables.ensures in
    put_then (string_bytes c.args.page.now) (string_bytes c.put_variables.new.page) (string_bytes c.put_values.new.page) line (flat_map values_line c.args.groundings.now) c.put_values.result first c.put_values.ensures
