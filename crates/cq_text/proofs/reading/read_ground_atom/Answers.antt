use Rattle.cq_text.proofs.Laws.{short_enough, row_found_in, row_only_in, row_fault_in, row_only_fault_in}
use Rattle.cq_text.proofs.reading.read_ground_atom.Goals as goal

pub returns-clause-found : goal.returns-clause-found
returns-clause-found g c = row_found_in c.args.form c.row_in.result c.args.text.now c.row_in.ensures (short_enough c.args.form c.args.text.now c.is_too_long.result c.is_too_long.ensures c.if-is_too_long.false)

pub returns-clause-only : goal.returns-clause-only
returns-clause-only g c = λ row s. row_only_in c.args.form c.row_in.result c.args.text.now row c.row_in.ensures s

pub returns-clause-fault : goal.returns-clause-fault
returns-clause-fault g c = row_fault_in c.args.form c.row_in.result c.args.text.now c.row_in.ensures (short_enough c.args.form c.args.text.now c.is_too_long.result c.is_too_long.ensures c.if-is_too_long.false)

pub returns-clause-only_fault : goal.returns-clause-only_fault
returns-clause-only_fault g c = λ kind offset h. row_only_fault_in c.args.form c.row_in.result c.args.text.now kind offset c.row_in.ensures (short_enough c.args.form c.args.text.now c.is_too_long.result c.is_too_long.ensures c.if-is_too_long.false) h
