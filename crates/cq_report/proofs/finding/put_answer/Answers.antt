use Rattle.std.proofs.Common.{◌≡◌, ◌++◌, ◌∙◌, ℕ, List, ap, subst}
use Rattle.std.proofs.lemmas.Result.{err_from_is_err_and, on_ok_weaker, on_err_weaker}
use Rattle.cq_devices.specs.declared.stop.Stop.TheVariants.{Write}
use Rattle.cq_ask.specs.Find.{wanted}
use Rattle.cq_report.specs.Find.{find_tail}
use Rattle.cq_report.specs.Steps.Finds.{answer_end, end_after}
use Rattle.cq_report.specs.Steps.Written.{Puts, Breaks}
use Rattle.cq_report.proofs.Finds.{front_breaks, head_breaks, pieces_break, tail_breaks, tail_puts}
use Rattle.cq_report.proofs.finding.put_answer.Goals as goal

pub returns-in_err-put_front-clause-err : goal.returns-in_err-put_front-clause-err
returns-in_err-put_front-clause-err g c =
    let p = err_from_is_err_and c.from_residual.result c.from_residual.ensures.1 in
    rw p.1 (front_breaks _ _ c.args.numbering c.args.before c.args.head.now (wanted c.args.most c.args.finder.now.to_come) c.args.output.now c.put_front.new.output c.in_err-put_front.ensures.err)

pub returns-in_err-put-clause-err : goal.returns-in_err-put-clause-err
returns-in_err-put-clause-err g c =
    let p = err_from_is_err_and c.from_residual-in_err-put.result c.from_residual-in_err-put.ensures.1 in
    rw p.1
    (head_breaks _ _ c.args.numbering c.args.before c.args.head.now (wanted c.args.most c.args.finder.now.to_come) c.args.output.now c.put_front.new.output c.put.new.self c.in_ok-put_front.ensures.ok
    (rw c.as_bytes.ensures.value at c.in_err-put.ensures.err))

pub returns-in_err-is_whole-clause-err : goal.returns-in_err-is_whole-clause-err
returns-in_err-is_whole-clause-err g c =
    let p = err_from_is_err_and c.from_residual-in_err-is_whole.result c.from_residual-in_err-is_whole.ensures.1 in
    rw p.1
    (pieces_break _ _ c.args.numbering c.args.before c.args.head.now (wanted c.args.most c.args.finder.now.to_come) c.args.output.now c.put_front.new.output c.put.new.self c.put_found.new.output c.in_ok-put_front.ensures.ok
    (rw c.as_bytes.ensures.value at c.in_ok-put.ensures.ok) c.in_err-is_whole.ensures.err)

pub returns-clause-ok : goal.returns-clause-ok
returns-clause-ok g c =
    let n = c.args.numbering in
    let whole = c.in_ok-is_whole.is_whole in
    let same : c.tail_of.result.now ++ c.end_of.result.now ≡ (find_tail n ++ end_after whole n) ++ answer_end n =
    ap (λ (l : List ℕ). l ++ c.end_of.result.now) c.tail_of.ensures ∙ ap (λ (l : List ℕ). (find_tail n ++ end_after whole n) ++ l) c.end_of.ensures in
    on_ok_weaker c.put_part.result
    (λ last. tail_puts _ _ n c.args.before c.args.head.now (wanted c.args.most c.args.finder.now.to_come) c.args.output.now c.put_front.new.output c.put.new.self c.put_found.new.output c.put_part.new.self whole c.in_ok-put_front.ensures.ok
    (rw c.as_bytes.ensures.value at c.in_ok-put.ensures.ok) c.in_ok-is_whole.ensures.ok
    (subst (Puts g.W.Sink.taken g.W.Sink.write_failures c.put_found.new.output c.put_part.new.self) same last))
    c.put_part.ensures.ok

pub returns-clause-err : goal.returns-clause-err
returns-clause-err g c =
    let n = c.args.numbering in
    let whole = c.in_ok-is_whole.is_whole in
    let same : c.tail_of.result.now ++ c.end_of.result.now ≡ (find_tail n ++ end_after whole n) ++ answer_end n =
    ap (λ (l : List ℕ). l ++ c.end_of.result.now) c.tail_of.ensures ∙ ap (λ (l : List ℕ). (find_tail n ++ end_after whole n) ++ l) c.end_of.ensures in
    on_err_weaker c.put_part.result
    (λ last. tail_breaks _ _ n c.args.before c.args.head.now (wanted c.args.most c.args.finder.now.to_come) c.args.output.now c.put_front.new.output c.put.new.self c.put_found.new.output c.put_part.new.self whole c.in_ok-put_front.ensures.ok
    (rw c.as_bytes.ensures.value at c.in_ok-put.ensures.ok) c.in_ok-is_whole.ensures.ok
    (subst (λ (l : List ℕ). Breaks g.W.Sink.taken g.W.Sink.write_failures c.put_found.new.output c.put_part.new.self l Write) same last))
    c.put_part.ensures.err
