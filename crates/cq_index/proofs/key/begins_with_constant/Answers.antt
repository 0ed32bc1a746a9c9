use Rattle.std.proofs.Common.{◌∙◌}
use Rattle.std.specs.Option.{option_copied}
use Rattle.cq_index.specs.Index.{first_constant}
use Rattle.cq_index.proofs.Firsts.{has-first, first-is, told}
use Rattle.cq_index.proofs.key.begins_with_constant.Goals as goal

pub bounds-terms-0 : goal.bounds-terms-0
bounds-terms-0 g c = has-first c.terms.result.now c.args.atom.now.terms c.terms.ensures.value c.terms.ensures.some

pub returns : goal.returns
returns g c =
    c.is_some.ensures
    ∙ told c.as_constant.result (first_constant c.args.atom.now)
    (first-is c.terms.result.now c.args.atom.now.terms c.index-terms-0.result (option_copied c.as_constant.result) c.terms.ensures.value c.terms.ensures.some c.index-terms-0.is c.as_constant.ensures.value)
