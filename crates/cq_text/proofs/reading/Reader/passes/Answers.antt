use Rattle.cq_text.proofs.Lexemes.{passes_none}
use Rattle.cq_text.proofs.Passed.{passed_on, passes_fails, passes_true, passes_false}
use Rattle.cq_text.proofs.reading.Reader.passes.Goals as goal

pub returns-then-meets_word : goal.returns-then-meets_word
returns-then-meets_word g c = rw c.meets_word.ensures.same (passes_none c.args.close c.args.self.now (c.meets_word.ensures.word c.if-meets_word.true))

pub returns-in_err-is_close : goal.returns-in_err-is_close
returns-in_err-is_close g c =
    passed_on _ c.from_residual.result c.in_err-is_close.field-0.0 _ c.from_residual.ensures.1
    (passes_fails c.args.close c.args.self.now c.meets_word.new.self c.again-behind.result c.meets_word.ensures.same c.again-behind.ensures c.in_err-is_close.field-0.0 c.in_err-is_close.ensures)

pub returns-then-is_close : goal.returns-then-is_close
returns-then-is_close g c = passes_true c.args.close c.args.self.now c.meets_word.new.self c.again-behind.result c.meets_word.ensures.same c.again-behind.ensures _ _ _ c.in_ok-is_close.ensures c.if-is_close.true

pub returns-else-is_close : goal.returns-else-is_close
returns-else-is_close g c = passes_false c.args.close c.args.self.now c.meets_word.new.self c.again-behind.result c.meets_word.ensures.same c.again-behind.ensures _ _ _ c.in_ok-is_close.ensures c.if-is_close.false
