use Rattle.std.proofs.Common.{◌≡◌, ◌∙◌, ap, sym}
use Rattle.cq_ask.specs.Answer.{published_pool}
use Rattle.cq_report.specs.Machine.{opened, serving_of}
use Rattle.cq_report.proofs.Finds.{BreaksReply-weaker, PutsReply-weaker, breaks_weaker, puts_weaker, told_of_pool}
use Rattle.cq_report.proofs.finding.put_find.Goals as goal

pub returns-in_ok-floor-in-Setup-clause-ok : goal.returns-in_ok-floor-in-Setup-clause-ok
returns-in_ok-floor-in-Setup-clause-ok g c =
    let opens : c.in_ok-floor-in-Setup.floor ≡ serving_of c.args.stage.now = c.in_ok-floor-in-Setup.ensures ∙ ap opened c.in_ok-copy-in-Setup.ensures ∙ ap serving_of (sym c.in-Setup.is) in
    puts_weaker c.put_reply_of.result _ _
    (PutsReply-weaker _ _ c.args.numbering c.args.before _ _ (told_of_pool c.args.form c.args.numbering c.args.ask.now _ _ (c.board.ensures ∙ ap published_pool opens)) _ _)
    c.put_reply_of.ensures.ok

pub returns-in_ok-floor-in-Setup-clause-breaks : goal.returns-in_ok-floor-in-Setup-clause-breaks
returns-in_ok-floor-in-Setup-clause-breaks g c =
    let opens : c.in_ok-floor-in-Setup.floor ≡ serving_of c.args.stage.now = c.in_ok-floor-in-Setup.ensures ∙ ap opened c.in_ok-copy-in-Setup.ensures ∙ ap serving_of (sym c.in-Setup.is) in
    breaks_weaker c.put_reply_of.result _ _
    (BreaksReply-weaker _ _ c.args.numbering c.args.before _ _ (told_of_pool c.args.form c.args.numbering c.args.ask.now _ _ (c.board.ensures ∙ ap published_pool opens)) _ _)
    c.put_reply_of.ensures.breaks

pub returns-in-Serving-clause-ok : goal.returns-in-Serving-clause-ok
returns-in-Serving-clause-ok g c =
    puts_weaker c.put_reply_of-in-Serving.result _ _
    (PutsReply-weaker _ _ c.args.numbering c.args.before _ _ (told_of_pool c.args.form c.args.numbering c.args.ask.now _ _ (c.board-board.ensures ∙ ap (λ stage. published_pool (serving_of stage)) (sym c.in-Serving.is))) _ _)
    c.put_reply_of-in-Serving.ensures.ok

pub returns-in-Serving-clause-breaks : goal.returns-in-Serving-clause-breaks
returns-in-Serving-clause-breaks g c =
    breaks_weaker c.put_reply_of-in-Serving.result _ _
    (BreaksReply-weaker _ _ c.args.numbering c.args.before _ _ (told_of_pool c.args.form c.args.numbering c.args.ask.now _ _ (c.board-board.ensures ∙ ap (λ stage. published_pool (serving_of stage)) (sym c.in-Serving.is))) _ _)
    c.put_reply_of-in-Serving.ensures.breaks
