use Rattle.std.proofs.lemmas.Result.{on_ok_weaker}
use Rattle.cq_sessions.proofs.Sheets.{served_end}
use Rattle.cq_sessions.proofs.serving.serve_bytes.Goals as goal

pub returns : goal.returns
returns g c = on_ok_weaker c.finish.result (λ e. served_end c.args.form g.C.Client.opening g.C.Client.limit _ _ _ _ _ _ _ c.args.bytes.now c.in_ok-serve_lines.ensures e) c.finish.ensures
