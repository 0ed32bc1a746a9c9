use Rattle.std.proofs.Common.{◌≡◌, Bool, true, Option, refl, sym, subst}
use Rattle.std.specs.Prelude.{Result, Ok, Err, IfOk, OnOk, MatchBool}
use Rattle.std.proofs.lemmas.Result.{IfOk-weaker}
use Rattle.cq_text.specs.declared.form.Form.{Form}
use Rattle.cq_report.specs.Reading.{Faulty}
use Rattle.cq_report.specs.Machine.{form_of}
use Rattle.cq_report.proofs.CallerLemmas.{only_command, the_fault}
use Rattle.cq_sessions.specs.Steps.Settings.{IsBehind}
use Rattle.cq_sessions.proofs.Settings.{set_by, behind_by, match_on}
use Rattle.cq_sessions.proofs.setting.set.Goals as goal

-- what is known where a line of the setup was answered
answered : {E : Type 0} (r : Result Bool E) (A B P Q : Type 0) → (A → B → P) → IfOk r (λ is_set. is_set ≡ true) → OnOk r A → OnOk r B → IfOk r (λ is_set. MatchBool is_set P Q)
answered (Ok is_set) A B P Q f is a b = subst (λ s. MatchBool s P Q) (sym is) (f a b)
answered (Err fault) A B P Q f is a b = tt

pub returns-in-Ok : goal.returns-in-Ok
returns-in-Ok g c =
    let heading = c.args.heading.now in
    let line = c.args.line.now in
    let command = c.in-Ok.command in
    let found = rw c.form_of.ensures at c.in-Ok.ensures.found in
    let only = only_command (form_of heading) line command (rw c.form_of.ensures at c.in-Ok.ensures.only) (rw c.form_of.ensures at c.in-Ok.ensures.only_fault) in
    IfOk-weaker c.set_read.result _ _
    (λ is_set. match_on is_set _ _ _ _
    (λ sets. set_by line command heading _ c.args.setup.now c.set_read.new.setup c.args.sheet.now c.set_read.new.sheet found sets.0 sets.1)
    (λ stays. subst (λ (h : Option Form). IsBehind heading c.args.setup.now c.args.sheet.now h c.set_read.new.setup c.set_read.new.sheet line) (sym stays.0)
    (behind_by line command heading c.args.setup.now c.set_read.new.setup c.args.sheet.now c.set_read.new.sheet only stays.1)))
    c.set_read.ensures

pub returns-in-Err-At : goal.returns-in-Err-At
returns-in-Err-At g c =
    let kind = c.in-Err-At.kind in let offset = c.in-Err-At.offset in
    answered c.set_fault.result _ _ _ _
    (λ settles told. record {
      reading = Faulty kind offset;
      is = the_fault (form_of c.args.heading.now) c.args.line.now _ kind offset c.in-Err-At.field-0-is (rw c.form_of.ensures at c.in-Err-At.ensures.fault);
      settles = settles;
      sets = record { of_setup = refl; stage = refl; told = told };
    })
    c.set_fault.ensures.set c.set_fault.ensures.settles c.set_fault.ensures.told
