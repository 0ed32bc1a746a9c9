use Rattle.std.proofs.lemmas.Result.{IfOk-weaker}
use Rattle.cq_sessions.proofs.Rooms.{all_served}
use Rattle.cq_sessions.proofs.files.serve_all.Goals as goal

pub returns : goal.returns
returns g c =
    IfOk-weaker c.serve_files.result _ _
    (λ served files. all_served c.args.form g.C.Client.opening g.C.Client.limit c.args.sheet.now c.serve_setup.new.sheet c.args.rest.now _ _ (λ file. file.items) c.args.files.now _ _ c.requires.files c.requires.fresh c.in_ok-serve_setup.ensures files)
    c.serve_files.ensures
