use Rattle.std.proofs.Common.{◌≡◌, ◌∙◌, ◌+◌, ◌-◌, ◌++◌, ℕ, List, [], take, refl, sym, ap, subst, arith, append_assoc, append-nil}
use Rattle.std.specs.Prelude.{string_bytes}
use Rattle.std.proofs.lemmas.Result.{on_ok_weaker}
use Rattle.cq_report.specs.declared.numbering.Numbering.TheVariants.{Plain}
use Rattle.cq_report.specs.Lines.{lines_of}
use Rattle.cq_report.specs.Machine.{State, begin_state, form_in, staged}
use Rattle.cq_report.specs.Reply.{refusal}
use Rattle.cq_why.specs.Why.{IsWhy, AreWhys}
use Rattle.cq_why.proofs.Told.{told_more, one_taken}
use Rattle.cq_why.proofs.whys.put_whys.Goals as goal

pub loop-number-init : goal.loop-number-init
loop-number-init g c =
    let script = lines_of c.args.script.now in
    let origin = c.args.origin.now in
    let catalog = c.args.catalog.now in
    let limits = c.args.limits in
    let all = take c.args.most script in
    let none : c.args.most - 0 ≡ c.args.most = omega arith in (
      ap (λ (s : State). s.lines) c.begin-heard.ensures.state,
      λ empty text told.
          let first : AreWhys origin limits catalog c.begin-heard.result all text = subst (λ (n : ℕ). AreWhys origin limits catalog c.begin-heard.result (take n script) text) none told in
          let begun : AreWhys origin limits catalog (begin_state Plain) all text = subst (λ (s : State). AreWhys origin limits catalog s all text) c.begin-heard.ensures.state first in
          subst (λ (page : List ℕ). AreWhys origin limits catalog (begin_state Plain) all (page ++ text)) (sym empty) begun,
    )

pub put_line-requires : goal.put_line-requires
put_line-requires g c = ap (λ (n : ℕ). n + 1) c.loop-number.invariant.0

pub put_last-requires-clause-number : goal.put_last-requires-clause-number
put_last-requires-clause-number g c = ap (λ (n : ℕ). n + 1) c.loop-number.invariant.0

pub loop-number-preserved : goal.loop-number-preserved
loop-number-preserved g c =
    let i = c.loop-number.number in
    let origin = c.args.origin.now in
    let catalog = c.args.catalog.now in
    let limits = c.args.limits in
    let state = c.loop-number.heard in
    let line = c.in-Some.line.now in
    let heard = c.in_ok-put_line.ensures in
    let page = string_bytes c.loop-number.page in
    let piece = heard.3 in
    let low = c.loop-number-test.true in
    let number : i + 1 ≡ state.lines + 1 = ap (λ (n : ℕ). n + 1) (sym c.loop-number.invariant.0) in
    let why : IsWhy origin (state.lines + 1) limits catalog (form_in state) line (refusal (staged state.stage state.heading heard.0).1) heard.0 piece =
    subst (λ (n : ℕ). IsWhy origin n limits catalog (form_in state) line (refusal (staged state.stage state.heading heard.0).1) heard.0 piece) number heard.4 in (
      ap (λ (s : State). s.lines) heard.2 ∙ sym number,
      λ empty text told.
          let all = c.loop-number.invariant.1 empty (piece ++ text)
          (told_more origin limits catalog state c.put_line.new.heard line c.loop-number.rest.now c.in-Some.behind.now (c.args.most - i) (c.args.most - (i + 1)) heard.0 piece text
          c.in-Some.ensures.cut c.in-Some.ensures.line (omega (arith, low)) heard.1 heard.2 why told) in
          let joined : page ++ (piece ++ text) ≡ string_bytes c.put_line.new.page ++ text = sym (append_assoc page piece text) ∙ ap (λ (p : List ℕ). p ++ text) (sym heard.5) in
          subst (λ (bytes : List ℕ). AreWhys origin limits catalog (begin_state Plain) (take c.args.most (lines_of c.args.script.now)) bytes) joined all,
    )

pub returns : goal.returns
returns g c empty =
    let done = c.loop-number-test.false in
    let origin = c.args.origin.now in
    let catalog = c.args.catalog.now in
    let limits = c.args.limits in
    let left : c.args.most - c.loop-number.number ≡ 0 = omega (arith, done) in
    let all = c.loop-number.invariant.1 empty [] (subst (λ (n : ℕ). AreWhys origin limits catalog c.loop-number.heard (take n (lines_of c.loop-number.rest.now)) []) (sym left) refl) in
    subst (λ (bytes : List ℕ). AreWhys origin limits catalog (begin_state Plain) (take c.args.most (lines_of c.args.script.now)) bytes) (append-nil (string_bytes c.loop-number.page)) all

pub returns-in_default : goal.returns-in_default
returns-in_default g c empty =
    let i = c.loop-number.number in
    let origin = c.args.origin.now in
    let catalog = c.args.catalog.now in
    let limits = c.args.limits in
    let low = c.loop-number-test.true in
    on_ok_weaker c.put_last.result
    (λ told.
    let one = one_taken c.loop-number.rest.now (c.args.most - i) (c.args.most - (i + 1)) c.in_default.ensures.none (omega (arith, low)) in
    let all = c.loop-number.invariant.1 empty told.0 (subst (λ (ls : List (List ℕ)). AreWhys origin limits catalog c.loop-number.heard ls told.0) (sym one) told.1) in
    subst (λ (bytes : List ℕ). AreWhys origin limits catalog (begin_state Plain) (take c.args.most (lines_of c.args.script.now)) bytes) (sym told.2) all)
    c.put_last.ensures
