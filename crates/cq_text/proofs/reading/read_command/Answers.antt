use Rattle.std.proofs.Common.{sym, ◌∙◌}
use Rattle.cq_text.proofs.Laws.{short_enough, found_in, only_in, fault_in, only_fault_in, is_not_blank, blank_read}
use Rattle.cq_text.proofs.reading.read_command.Goals as goal

pub returns-then-is_blank-clause-only : goal.returns-then-is_blank-clause-only
returns-then-is_blank-clause-only g c = λ command s. blank_read c.args.form c.args.text.now command (sym c.is_blank.ensures ∙ c.if-is_blank.true) s

pub returns-clause-found : goal.returns-clause-found
returns-clause-found g c = found_in c.args.form c.command_in.result c.args.text.now c.command_in.ensures (short_enough c.args.form c.args.text.now c.is_too_long.result c.is_too_long.ensures c.if-is_too_long.false)

pub returns-clause-only : goal.returns-clause-only
returns-clause-only g c = λ command s. only_in c.args.form c.command_in.result c.args.text.now command c.command_in.ensures (is_not_blank c.is_blank.result c.args.text.now c.is_blank.ensures c.if-is_blank.false) s

pub returns-clause-fault : goal.returns-clause-fault
returns-clause-fault g c = fault_in c.args.form c.command_in.result c.args.text.now c.command_in.ensures (is_not_blank c.is_blank.result c.args.text.now c.is_blank.ensures c.if-is_blank.false) (short_enough c.args.form c.args.text.now c.is_too_long.result c.is_too_long.ensures c.if-is_too_long.false)

pub returns-clause-only_fault : goal.returns-clause-only_fault
returns-clause-only_fault g c = λ kind offset h. only_fault_in c.args.form c.command_in.result c.args.text.now kind offset c.command_in.ensures (short_enough c.args.form c.args.text.now c.is_too_long.result c.is_too_long.ensures c.if-is_too_long.false) h
