use Rattle.std.specs.Prelude.{string_bytes}
use Rattle.std.specs.List.{flat_map}
use Rattle.std.proofs.Common.{map}
use Rattle.cq_atom.specs.Query.{occurrences, variables_of}
use Rattle.cq_atom.proofs.Firsts.{firsts-fold}
use Rattle.cq_atom.proofs.Onward.{variables-on, variables-end}
use Rattle.cq_atom.proofs.variables.variables_in.Goals as goal

pub loop-atom-init : goal.loop-atom-init
loop-atom-init g c = rw c.new-variables.ensures.items (firsts-fold (flat_map occurrences c.args.body.now))

pub loop-atom-preserved : goal.loop-atom-preserved
loop-atom-preserved g c =
    variables-on c.args.body.now c.loop-atom.atom-index (variables_of c.args.body.now) (map string_bytes c.add_variables.new.variables.items) (map string_bytes c.loop-atom.variables.items) c.atom-item.result
    c.loop-atom-test.true c.atom-item.is c.in_ok-add_variables.ensures c.loop-atom.invariant

pub returns : goal.returns
returns g c =
    variables-end c.args.body.now c.loop-atom.atom-index (variables_of c.args.body.now) (map string_bytes c.loop-atom.variables.items) c.loop-atom-test.false c.loop-atom.invariant
