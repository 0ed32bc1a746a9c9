use Rattle.std.proofs.Common.{◌≡◌, ◌++◌, ◌∙◌, ℕ, List, refl, ap, sym, subst, append_assoc}
use Rattle.std.proofs.lemmas.Result.{err_from_is_err_and, on_ok_weaker, on_err_weaker}
use Rattle.cq_devices.specs.declared.stop.Stop.TheVariants.{Write}
use Rattle.cq_report.specs.declared.numbering.Numbering.{Numbering}
use Rattle.cq_report.specs.Machine.{after_page, before_page}
use Rattle.cq_report.specs.Steps.Turns.{TurnRecord, turn_bytes}
use Rattle.cq_report.specs.Steps.Written.{Puts, Breaks}
use Rattle.cq_report.specs.Steps.Writing.{Puts-then, Puts-breaks, Breaks-more}
use Rattle.cq_report.proofs.output.Output.put_turn.Goals as goal

-- what was put, by the pieces that were made of the turn
put_whole : (n : Numbering) (was turn : TurnRecord) (first last tail : List ℕ) → first ≡ before_page n was.outcome → last ≡ after_page n was.outcome → was ≡ turn → first ++ (turn.page ++ (last ++ tail)) ≡ turn_bytes n turn ++ tail
put_whole n was turn first last tail is_first is_last same =
    ap (λ (f : List ℕ). f ++ (turn.page ++ (last ++ tail))) (is_first ∙ ap (λ (t : TurnRecord). before_page n t.outcome) same)
    ∙ ap (λ (l : List ℕ). before_page n turn.outcome ++ (turn.page ++ (l ++ tail))) (is_last ∙ ap (λ (t : TurnRecord). after_page n t.outcome) same)
    ∙ sym (append_assoc (before_page n turn.outcome) (turn.page ++ after_page n turn.outcome) tail ∙ ap (λ (l : List ℕ). before_page n turn.outcome ++ l) (append_assoc turn.page (after_page n turn.outcome) tail))

pub returns-in_err-put_line-clause-err : goal.returns-in_err-put_line-clause-err
returns-in_err-put_line-clause-err g c =
    let p = err_from_is_err_and c.from_residual.result c.from_residual.ensures.1 in
    let n = c.args.numbering in
    let turn = c.args.turn.now in
    let tail = c.args.tail.now in
    let rest = turn.page ++ (after_page n c.turn.inside.outcome ++ tail) in
    rw p.1
    (subst (λ (bytes : List ℕ). Breaks g.W.Sink.taken g.W.Sink.write_failures c.args.self.now c.put_line.new.self bytes Write)
    (put_whole n _ turn c.before_page.result (after_page n c.turn.inside.outcome) tail c.before_page.ensures refl c.turn.view_is)
    (Breaks-more _ _ _ _ c.before_page.result rest Write c.in_err-put_line.ensures.err))

pub returns-in_err-put_page-clause-err : goal.returns-in_err-put_page-clause-err
returns-in_err-put_page-clause-err g c =
    let p = err_from_is_err_and c.from_residual-in_err-put_page.result c.from_residual-in_err-put_page.ensures.1 in
    let n = c.args.numbering in
    let turn = c.args.turn.now in
    let tail = c.args.tail.now in
    let last = after_page n c.turn.inside.outcome ++ tail in
    rw p.1
    (subst (λ (bytes : List ℕ). Breaks g.W.Sink.taken g.W.Sink.write_failures c.args.self.now c.put_page.new.self bytes Write)
    (put_whole n _ turn c.before_page.result (after_page n c.turn.inside.outcome) tail c.before_page.ensures refl c.turn.view_is)
    (Puts-breaks _ _ _ _ _ c.before_page.result (turn.page ++ last) Write c.in_ok-put_line.ensures.ok (Breaks-more _ _ _ _ turn.page last Write c.in_err-put_page.ensures.err)))

pub returns-clause-ok : goal.returns-clause-ok
returns-clause-ok g c =
    let n = c.args.numbering in
    let turn = c.args.turn.now in
    let tail = c.args.tail.now in
    let last = c.after_page.result.now ++ tail in
    on_ok_weaker c.put_part.result
    (λ put. subst (λ (bytes : List ℕ). Puts g.W.Sink.taken g.W.Sink.write_failures c.args.self.now c.put_part.new.self bytes)
    (put_whole n _ turn c.before_page.result c.after_page.result.now tail c.before_page.ensures c.after_page.ensures c.turn.view_is)
    (Puts-then _ _ _ _ _ c.before_page.result (turn.page ++ last) c.in_ok-put_line.ensures.ok (Puts-then _ _ _ _ _ turn.page last c.in_ok-put_page.ensures.ok put)))
    c.put_part.ensures.ok

pub returns-clause-err : goal.returns-clause-err
returns-clause-err g c =
    let n = c.args.numbering in
    let turn = c.args.turn.now in
    let tail = c.args.tail.now in
    let last = c.after_page.result.now ++ tail in
    on_err_weaker c.put_part.result
    (λ put. subst (λ (bytes : List ℕ). Breaks g.W.Sink.taken g.W.Sink.write_failures c.args.self.now c.put_part.new.self bytes Write)
    (put_whole n _ turn c.before_page.result c.after_page.result.now tail c.before_page.ensures c.after_page.ensures c.turn.view_is)
    (Puts-breaks _ _ _ _ _ c.before_page.result (turn.page ++ last) Write c.in_ok-put_line.ensures.ok (Puts-breaks _ _ _ _ _ turn.page last Write c.in_ok-put_page.ensures.ok put)))
    c.put_part.ensures.err
