use Rattle.cq_text.proofs.Laws.{short_enough, query_found_in, query_only_in, query_fault_in, query_only_fault_in}
use Rattle.cq_text.proofs.reading.read_query.Goals as goal

pub returns-clause-found : goal.returns-clause-found
returns-clause-found g c = query_found_in c.args.form c.query_in.result c.args.text.now c.query_in.ensures (short_enough c.args.form c.args.text.now c.is_too_long.result c.is_too_long.ensures c.if-is_too_long.false)

pub returns-clause-only : goal.returns-clause-only
returns-clause-only g c = λ query s. query_only_in c.args.form c.query_in.result c.args.text.now query c.query_in.ensures s

pub returns-clause-fault : goal.returns-clause-fault
returns-clause-fault g c = query_fault_in c.args.form c.query_in.result c.args.text.now c.query_in.ensures (short_enough c.args.form c.args.text.now c.is_too_long.result c.is_too_long.ensures c.if-is_too_long.false)

pub returns-clause-only_fault : goal.returns-clause-only_fault
returns-clause-only_fault g c = λ kind offset h. query_only_fault_in c.args.form c.query_in.result c.args.text.now kind offset c.query_in.ensures (short_enough c.args.form c.args.text.now c.is_too_long.result c.is_too_long.ensures c.if-is_too_long.false) h
