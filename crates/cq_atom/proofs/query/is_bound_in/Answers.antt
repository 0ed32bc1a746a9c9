use Rattle.std.proofs.Common.{sym, ap, ◌∙◌}
use Rattle.cq_atom.specs.Query.{is_bound}
use Rattle.cq_atom.proofs.Shows.{variable_is}
use Rattle.cq_atom.proofs.query.is_bound_in.Goals as goal

pub returns-in-Some : goal.returns-in-Some
returns-in-Some g c = c.binds.ensures ∙ ap (is_bound c.args.body.now) (sym (variable_is c.args.term.now c.in-Some.name.now c.in-Some.ensures.value))
