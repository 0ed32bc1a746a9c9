use Rattle.std.proofs.Common.{Option, sym, subst, ◌∙◌}
use Rattle.cq_text.specs.declared.form.Form.{Form}
use Rattle.cq_report.specs.Machine.{form_of}
use Rattle.cq_sessions.specs.Steps.Settings.{SetTo, RestBegins}
use Rattle.cq_report.proofs.CallerLemmas.{some_of, none_of}
use Rattle.cq_sessions.proofs.Settings.{set_begin, set_line, set_last, begins_line, begins_last, begins_none, when_true, when_false}
use Rattle.cq_sessions.proofs.setting.set_all.Goals as goal

pub loop-line-init : goal.loop-line-init
loop-line-init g c = set_begin c.args.bytes.now c.args.heading.now c.args.setup.now c.args.sheet.now c.requires.heading c.requires.setup c.requires.sheet

pub loop-line-preserved : goal.loop-line-preserved
loop-line-preserved g c = let at = c.loop-line in
    set_line c.args.bytes.now at.rest.now _ _ _ _ _ _ _ _ c.in-Some.ensures.cut c.in-Some.ensures.line at.invariant (when_true c.in_ok-is_set.is_set _ _ c.if-not-is_set.false c.in_ok-is_set.ensures)

pub returns-then-not-is_set-clause-behind : goal.returns-then-not-is_set-clause-behind
returns-then-not-is_set-clause-behind g c =
    let behind = when_false c.in_ok-is_set.is_set _ _ c.if-not-is_set.true c.in_ok-is_set.ensures in
    subst (λ (h : Option Form). RestBegins (form_of h) c.loop-line.rest.now) (sym behind.heading_stays)
    (begins_line _ c.loop-line.rest.now _ _ c.in-Some.ensures.cut c.in-Some.ensures.line behind.other)

pub returns-then-is_empty-clause-behind : goal.returns-then-is_empty-clause-behind
returns-then-is_empty-clause-behind g c = subst (RestBegins (form_of c.loop-line.heading)) (sym (none_of c.loop-line.rest.now (sym c.is_empty.ensures ∙ c.if-is_empty.true))) (begins_none (form_of c.loop-line.heading))

pub returns-then-is_set-clause-set : goal.returns-then-is_set-clause-set
returns-then-is_set-clause-set g c = let at = c.loop-line in
    subst (λ z. SetTo c.args.bytes.now z c.set-2.new.heading c.set-2.new.setup c.set-2.new.sheet) (sym c.end_of.ensures)
    (set_last c.args.bytes.now at.rest.now _ _ _ _ _ _ c.in_default.ensures.none (some_of at.rest.now (sym c.is_empty.ensures ∙ c.if-is_empty.false)) at.invariant (when_true c.in_ok-is_set-2.is_set _ _ c.if-is_set.true c.in_ok-is_set-2.ensures))

pub returns-clause-behind : goal.returns-clause-behind
returns-clause-behind g c = let at = c.loop-line in
    let behind = when_false c.in_ok-is_set-2.is_set _ _ c.if-is_set.false c.in_ok-is_set-2.ensures in
    subst (λ (h : Option Form). RestBegins (form_of h) at.rest.now) (sym behind.heading_stays)
    (begins_last _ at.rest.now c.in_default.ensures.none (some_of at.rest.now (sym c.is_empty.ensures ∙ c.if-is_empty.false)) behind.other)
