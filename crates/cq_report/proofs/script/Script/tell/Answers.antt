use Rattle.std.proofs.Common.{◌≡◌, ◌∙◌, ℕ, List, refl, ap, sym, subst, append-nil}
use Rattle.cq_text.specs.declared.form.Form.{Form}
use Rattle.cq_ask.specs.declared.ask.AskKind.{AskKind}
use Rattle.cq_ask.specs.declared.ask.AskKind.TheVariants.{Count}
use Rattle.cq_ask.specs.declared.counts.Counts.{Counts}
use Rattle.cq_ask.specs.Ask.{AskRecord}
use Rattle.cq_ask.specs.Answer.{FloorRecord, counts_of}
use Rattle.cq_ask.specs.Data.{IsMember}
use Rattle.cq_report.specs.declared.numbering.Numbering.{Numbering}
use Rattle.cq_report.specs.declared.numbering.Numbering.TheVariants.{Plain, Numbered, Json}
use Rattle.cq_report.specs.declared.outcome.Outcome.TheVariants.{Answered}
use Rattle.cq_report.specs.Live.{IsAskTold}
use Rattle.cq_report.specs.Machine.{State, form_in, serving_of}
use Rattle.cq_report.specs.Steps.Turns.{IsPage, TurnRecord, counts_page, turn_bytes}
use Rattle.cq_report.proofs.Asking.{quit_told}
use Rattle.cq_report.proofs.Obeying.{counts_told}
use Rattle.cq_report.proofs.script.Script.tell.Goals.{in-Count, in_default}
use Rattle.cq_report.proofs.script.Script.tell.Goals as goal

pub returns-then-is_quit-clause-told : goal.returns-then-is_quit-clause-told
returns-then-is_quit-clause-told g c =
    let state = c.args.self.now in
    let ask = c.args.ask.now in
    subst (λ (turn : TurnRecord). IsAskTold (form_in state) state.numbering (serving_of state.stage) ask (turn_bytes state.numbering turn)) (sym c.plain.ensures)
    (quit_told (form_in state) (serving_of state.stage) ask (sym c.is_quit.ensures ∙ c.if-is_quit.true) state.numbering)

-- a page is an answer, with what ends it
told_of : (form : Form) (numbering : Numbering) (floor : FloorRecord) (ask : AskRecord) (page : List ℕ) → IsPage form numbering floor ask page → IsAskTold form numbering floor ask (turn_bytes numbering (record { outcome = Answered ask.kind; page = page }))
told_of form Plain floor ask page is = (page, is, refl)
told_of form Numbered floor ask page is = (page, is, refl)
told_of form Json floor ask page is = subst (λ (bytes : List ℕ). IsMember form floor ask bytes) (sym (append-nil page)) is

pub returns-then-matches-clause-told : goal.returns-then-matches-clause-told
returns-then-matches-clause-told g c =
    let state = c.args.self.now in
    let floor = serving_of state.stage in
    let ask = c.args.ask.now in
    let is : Count ≡ ask.kind = elim c.match-matches.branch [
      | in-Count w ↦ sym w.in-Count.is ∙ c.kind.ensures
      | in_default w ↦ absurd (let never = sym w.matches-is ∙ c.if-matches.true in cc)
    ] in
    let d = c.self.inside in
    subst (λ (turn : TurnRecord). IsAskTold (form_in state) state.numbering floor ask (turn_bytes state.numbering turn)) (sym (c.of_counts.ensures
    ∙ ap (λ (kind : AskKind). let turn : TurnRecord = record { outcome = Answered kind; page = counts_page d.numbering c.counts.result } in turn) is
    ∙ ap (λ (s : State). let turn : TurnRecord = record { outcome = Answered ask.kind; page = counts_page s.numbering c.counts.result } in turn) c.self.view_is
    ∙ ap (λ (counts : Counts). let turn : TurnRecord = record { outcome = Answered ask.kind; page = counts_page state.numbering counts } in turn) c.counts.ensures))
    (told_of (form_in state) state.numbering floor ask (counts_page state.numbering (counts_of floor)) (counts_told (form_in state) floor ask is state.numbering))
