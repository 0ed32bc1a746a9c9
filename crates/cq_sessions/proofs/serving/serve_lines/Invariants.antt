use Rattle.std.proofs.Common.{length}
use Rattle.cq_sessions.specs.Steps.Sheets.{ServedTo}
use Rattle.cq_sessions.proofs.serving.serve_lines.Given as goal

abbrev pub decreases-loop-line : goal.decreases-loop-line
decreases-loop-line g l = length l.rest

abbrev pub invariant-loop-line : goal.invariant-loop-line
invariant-loop-line g l = ServedTo l.form g.C.Client.opening g.C.Client.limit (g.C.Client.known l.initial.client) l.initial.sheet l.bytes (g.C.Client.known l.client) l.sheet l.rest
