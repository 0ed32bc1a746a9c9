use Rattle.std.proofs.Common.{ap, sym, subst}
use Rattle.cq_ask.specs.Answer.{published_pool}
use Rattle.cq_report.specs.declared.said.Said.TheVariants as saids
use Rattle.cq_report.specs.Find.{IsFindTold, place_of}
use Rattle.cq_report.specs.Machine.{ServingRecord, State, counted, form_in, serving_of}
use Rattle.cq_report.specs.Steps.Finds.{BreaksReply, PutsReply}
use Rattle.cq_report.specs.Steps.Serving.{Answers}
use Rattle.cq_report.proofs.Answering.{if_err_as, on_ok_as}
use Rattle.cq_report.proofs.Finds.{find_answers, find_stops, find_wants}
use Rattle.cq_report.proofs.Obeying.{may_by, serving_by}
use Rattle.cq_report.proofs.script.Script.answer_find.Goals as goal

pub returns-in-Ok-Ok-clause-ok : goal.returns-in-Ok-Ok-clause-ok
returns-in-Ok-Ok-clause-ok g c = λ line said.
    let old = c.args.self.now in
    let d = c.self.inside in
    let ask = c.args.ask.now in
    let a = c.args.output.now in
    let b = c.put_find.new.output in
    let put = rw c.in-Ok-Ok.field-0-is at c.in-Ok-Ok.ensures.ok in
    let here : PutsReply g.W.Sink.taken g.W.Sink.write_failures old.numbering old.lines (λ told. IsFindTold (form_in old) (place_of ask.kind) old.numbering (published_pool (serving_of old.stage)) ask.text told) a b =
    subst (λ (s : State). PutsReply g.W.Sink.taken g.W.Sink.write_failures s.numbering s.lines (λ told. IsFindTold (form_in old) (place_of ask.kind) s.numbering (published_pool (serving_of s.stage)) ask.text told) a b) c.self.view_is
    (subst (λ (floor : ServingRecord). PutsReply g.W.Sink.taken g.W.Sink.write_failures d.numbering d.lines (λ told. IsFindTold (form_in old) (place_of ask.kind) d.numbering (published_pool floor) ask.text told) a b) (sym (serving_by d.is_closed d.stage))
    (rw c.form.ensures at put)) in
    subst (λ (new : State). Answers c.args.manner g.W.Sink.taken g.W.Sink.write_failures a b old new line) (ap counted (sym c.self.view_is))
    (find_answers old ask c.requires.finds c.args.manner g.W.Sink.taken g.W.Sink.write_failures a b line c.requires.heard said here)

pub returns-in-Ok-Err-clause-err : goal.returns-in-Ok-Err-clause-err
returns-in-Ok-Err-clause-err g c = λ line said.
    let old = c.args.self.now in
    let d = c.self.inside in
    let ask = c.args.ask.now in
    let a = c.args.output.now in
    let b = c.put_find.new.output in
    let broke = rw c.in-Ok-Err.field-0-is at c.in-Ok-Err.ensures.breaks in
    let here : BreaksReply g.W.Sink.taken g.W.Sink.write_failures old.numbering old.lines (λ told. IsFindTold (form_in old) (place_of ask.kind) old.numbering (published_pool (serving_of old.stage)) ask.text told) a b =
    subst (λ (s : State). BreaksReply g.W.Sink.taken g.W.Sink.write_failures s.numbering s.lines (λ told. IsFindTold (form_in old) (place_of ask.kind) s.numbering (published_pool (serving_of s.stage)) ask.text told) a b) c.self.view_is
    (subst (λ (floor : ServingRecord). BreaksReply g.W.Sink.taken g.W.Sink.write_failures d.numbering d.lines (λ told. IsFindTold (form_in old) (place_of ask.kind) d.numbering (published_pool floor) ask.text told) a b) (sym (serving_by d.is_closed d.stage))
    (rw c.form.ensures at broke)) in
    find_stops old ask c.requires.finds c.args.manner g.W.Sink.taken g.W.Sink.write_failures a b line c.requires.heard said here

pub returns-in-Err-clause-ok : goal.returns-in-Err-clause-ok
returns-in-Err-clause-ok g c =
    let old = c.args.self.now in
    let ask = c.args.ask.now in
    on_ok_as c.starve.result _ _
    (λ ok line said. rw c.in-Err.ensures.err at (ok line (may_by c.args.manner (form_in old) line (saids.Asks ask) said (find_wants ask.kind c.requires.finds))))
    c.starve.ensures.ok

pub returns-in-Err-clause-err : goal.returns-in-Err-clause-err
returns-in-Err-clause-err g c =
    let old = c.args.self.now in
    let ask = c.args.ask.now in
    if_err_as c.starve.result _ _
    (λ stop err line said. rw c.in-Err.ensures.err at (err line (may_by c.args.manner (form_in old) line (saids.Asks ask) said (find_wants ask.kind c.requires.finds))))
    c.starve.ensures.err
