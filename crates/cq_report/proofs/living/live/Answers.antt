use Rattle.std.proofs.Common.{rules, ap}
use Rattle.std.proofs.lemmas.Result.{on_ok_weaker, IfErr-weaker}
use Rattle.cq_report.proofs.Ending.{rises_by}
use Rattle.cq_report.proofs.Lives.{ServedOut-answered, ServedOut-quits, Stopped-leaves}
use Rattle.cq_report.proofs.living.live.Goals as goal

pub returns-clause-answered : goal.returns-clause-answered
returns-clause-answered g c =
    on_ok_weaker c.serve-ended.result (λ out. ServedOut-answered c.args.numbering c.args.every g.W.Sink.taken g.W.Sink.write_failures _ _ _ _ _ _ _ _ c.begin_life-script.ensures.state c.new-output.ensures.held (ap g.W.Sink.taken c.new-output.ensures.same) (search rules) out) c.serve-ended.ensures.ok

pub returns-clause-quits : goal.returns-clause-quits
returns-clause-quits g c =
    on_ok_weaker c.serve-ended.result (λ out. ServedOut-quits c.args.numbering c.args.every g.W.Sink.taken g.W.Sink.write_failures _ _ _ _ _ _ _ _ c.begin_life-script.ensures.state c.new-output.ensures.held (ap g.W.Sink.taken c.new-output.ensures.same) (search rules) out) c.serve-ended.ensures.ok

pub returns-clause-leaves : goal.returns-clause-leaves
returns-clause-leaves g c =
    IfErr-weaker c.serve-ended.result _ _ (λ fault h. Stopped-leaves c.args.numbering c.args.every g.W.Sink.taken g.W.Sink.write_failures _ c.begin_life-script.result _ _ _ _ _ _ c.begin_life-script.ensures.state c.new-output.ensures.held (ap g.W.Sink.taken c.new-output.ensures.same) (search rules) fault h) c.serve-ended.ensures.err

pub returns-clause-write_failures : goal.returns-clause-write_failures
returns-clause-write_failures g c =
    rises_by c.serve-ended.result _ _ _ _ (ap g.W.Sink.write_failures c.new-output.ensures.same) (search rules) c.serve-ended.ensures.write_failures
