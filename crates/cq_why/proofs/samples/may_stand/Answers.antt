use Rattle.std.proofs.Common.{◌∙◌, List, ℕ, refl, subst}
use Rattle.cq_text.specs.Grammar.{StandsFor}
use Rattle.cq_report.specs.Reading.{Reads, Faulty, IsReading}
use Rattle.cq_report.proofs.CallerLemmas.{the_fault}
use Rattle.cq_why.proofs.samples.may_stand.Goals as goal

pub returns-in-Ok : goal.returns-in-Ok
returns-in-Ok g c =
    let command = c.in-Ok._command in
    (Reads command, subst (λ (text : List ℕ). StandsFor c.args.form text command) (c.deref.ensures.value ∙ c.in_ok-text.ensures) c.in-Ok.ensures.found, refl)

pub returns-in-Err-At : goal.returns-in-Err-At
returns-in-Err-At g c =
    let reading = Faulty c.in-Err-At.kind c.in-Err-At.offset in
    (reading, subst (λ (text : List ℕ). IsReading c.args.form text reading) (c.deref.ensures.value ∙ c.in_ok-text.ensures) (the_fault c.args.form c.deref.result.now _ c.in-Err-At.kind c.in-Err-At.offset c.in-Err-At.field-0-is c.in-Err-At.ensures.fault), c.passes.ensures)
