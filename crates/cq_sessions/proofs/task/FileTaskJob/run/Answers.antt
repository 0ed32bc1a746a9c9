use Rattle.std.proofs.Common.{subst}
use Rattle.cq_sessions.specs.Steps.Sheets.{BytesServed}
use Rattle.cq_sessions.proofs.Sheets.{file_served}
use Rattle.cq_sessions.proofs.task.FileTaskJob.run.Goals as goal

pub returns : goal.returns
returns g c =
    let seat = c.args.self in
    let opening = g.C.Client.opening in let limit = g.C.Client.limit in let known = g.C.Client.known in
    let sheet = c.serve_bytes.new.sheet in
    file_served seat.form opening limit (known seat.client) (known c.serve_bytes.new.client) sheet seat.file.now
    (subst (λ z. BytesServed seat.form opening limit (known seat.client) z (known c.serve_bytes.new.client) sheet.replies sheet.numbers seat.file.now) c.begin-sheet.ensures c.in_ok-serve_bytes.ensures)
