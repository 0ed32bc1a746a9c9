use Rattle.std.proofs.Common.{sym}
use Rattle.std.proofs.lemmas.List.{drop_all, take_all}
use Rattle.cq_rel.proofs.near.turn.Goals as goal

pub returns-then-values-column-clause-from : goal.returns-then-values-column-clause-from
returns-then-values-column-clause-from g c = sym (drop_all c.args.column c.args.values.now c.if-values-column.true)

pub returns-then-values-column-clause-before : goal.returns-then-values-column-clause-before
returns-then-values-column-clause-before g c = sym (take_all c.args.column c.args.values.now c.if-values-column.true)
