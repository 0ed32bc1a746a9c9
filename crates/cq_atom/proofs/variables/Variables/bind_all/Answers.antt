use Rattle.std.specs.Prelude.{string_bytes}
use Rattle.std.proofs.Common.{◌∙◌, map}
use Rattle.cq_atom.proofs.Among.{among-all}
use Rattle.cq_atom.proofs.variables.Variables.bind_all.Goals as goal

pub returns : goal.returns
returns g c = λ body e. c.all_among.ensures ∙ among-all (map string_bytes c.names.result.now) body c.args.atoms.now (c.names.ensures ∙ e)
