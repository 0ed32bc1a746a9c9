use Rattle.std.proofs.Common.{sym, ◌∙◌}
use Rattle.cq_report.proofs.CallerLemmas.{some_of}
use Rattle.cq_sessions.proofs.Sheets.{served_begin, served_line, served_last}
use Rattle.cq_sessions.proofs.serving.serve_lines.Goals as goal

pub loop-line-init : goal.loop-line-init
loop-line-init g c = served_begin c.args.form g.C.Client.opening g.C.Client.limit _ c.args.sheet.now c.args.bytes.now c.requires.even c.requires.asked

pub loop-line-preserved : goal.loop-line-preserved
loop-line-preserved g c = let at = c.loop-line in
    served_line c.args.form g.C.Client.opening g.C.Client.limit _ _ _ _ _ _ c.args.bytes.now at.rest.now _ _ c.in-Some.ensures.cut c.in-Some.ensures.line at.invariant c.in_ok-serve_line.ensures

pub returns-in_ok-serve_line-2 : goal.returns-in_ok-serve_line-2
returns-in_ok-serve_line-2 g c = let at = c.loop-line in
    served_last c.args.form g.C.Client.opening g.C.Client.limit _ _ _ _ _ _ c.args.bytes.now at.rest.now c.in_default.ensures.none (some_of c.loop-line.rest.now (sym c.is_empty.ensures ∙ c.if-not-is_empty.true)) at.invariant c.in_ok-serve_line-2.ensures
