use Rattle.std.proofs.Common.{◌≡◌, ◌+◌, ◌++◌, ◌∙◌, ℕ, List, [], sym, subst}
use Rattle.std.specs.Prelude.{codes, decimal}
use Rattle.std.proofs.lemmas.Result.{err_from_is_err_and, on_ok_weaker, on_err_weaker}
use Rattle.cq_devices.specs.declared.stop.Stop.TheVariants.{Write}
use Rattle.cq_report.specs.declared.numbering.Numbering.{Numbering}
use Rattle.cq_report.specs.declared.numbering.Numbering.TheVariants.{Numbered, Json}
use Rattle.cq_report.specs.Machine.{numbered}
use Rattle.cq_report.specs.Steps.Turns.{turn_bytes}
use Rattle.cq_report.specs.Steps.Written.{Puts, Breaks}
use Rattle.cq_report.specs.Steps.Writing.{Puts-then, Puts-breaks, Breaks-more}
use Rattle.cq_report.proofs.Parts.{after_number, in_object}
use Rattle.cq_report.proofs.output.Output.put_reply.Goals as goal

pub returns-in_err-put_part-in-Numbered-2-clause-err : goal.returns-in_err-put_part-in-Numbered-2-clause-err
returns-in_err-put_part-in-Numbered-2-clause-err g c =
    let p = err_from_is_err_and c.from_residual.result c.from_residual.ensures.1 in
    let before = c.args.before in
    let turn = c.args.turn.now in
    let number = decimal (before + 1) ++ codes ": " in
    let whole = subst (λ (n : Numbering). number ++ (turn_bytes n turn ++ []) ≡ numbered n before (turn_bytes n turn)) (sym c.in-Numbered-2.is) (after_number before (turn_bytes Numbered turn) (sym c.is_silent.ensures ∙ c.if-is_silent.false)) in
    rw p.1
    (subst (λ (bytes : List ℕ). Breaks g.W.Sink.taken g.W.Sink.write_failures c.args.self.now c.put_part.new.self bytes Write) whole
    (Breaks-more _ _ _ _ number (turn_bytes c.args.numbering turn ++ []) Write c.in_err-put_part-in-Numbered-2.ensures.err))

pub returns-in_ok-put_part-in-Numbered-2-clause-ok : goal.returns-in_ok-put_part-in-Numbered-2-clause-ok
returns-in_ok-put_part-in-Numbered-2-clause-ok g c =
    let before = c.args.before in
    let turn = c.args.turn.now in
    let number = decimal (before + 1) ++ codes ": " in
    let whole = subst (λ (n : Numbering). number ++ (turn_bytes n turn ++ []) ≡ numbered n before (turn_bytes n turn)) (sym c.in-Numbered-2.is) (after_number before (turn_bytes Numbered turn) (sym c.is_silent.ensures ∙ c.if-is_silent.false)) in
    on_ok_weaker c.put_turn-in-Numbered-2.result
    (λ last. subst (λ (bytes : List ℕ). Puts g.W.Sink.taken g.W.Sink.write_failures c.args.self.now c.put_turn-in-Numbered-2.new.self bytes) whole
    (Puts-then _ _ _ _ _ number (turn_bytes c.args.numbering turn ++ []) c.in_ok-put_part-in-Numbered-2.ensures.ok last))
    c.put_turn-in-Numbered-2.ensures.ok

pub returns-in_ok-put_part-in-Numbered-2-clause-err : goal.returns-in_ok-put_part-in-Numbered-2-clause-err
returns-in_ok-put_part-in-Numbered-2-clause-err g c =
    let before = c.args.before in
    let turn = c.args.turn.now in
    let number = decimal (before + 1) ++ codes ": " in
    let whole = subst (λ (n : Numbering). number ++ (turn_bytes n turn ++ []) ≡ numbered n before (turn_bytes n turn)) (sym c.in-Numbered-2.is) (after_number before (turn_bytes Numbered turn) (sym c.is_silent.ensures ∙ c.if-is_silent.false)) in
    on_err_weaker c.put_turn-in-Numbered-2.result
    (λ last. subst (λ (bytes : List ℕ). Breaks g.W.Sink.taken g.W.Sink.write_failures c.args.self.now c.put_turn-in-Numbered-2.new.self bytes Write) whole
    (Puts-breaks _ _ _ _ _ number (turn_bytes c.args.numbering turn ++ []) Write c.in_ok-put_part-in-Numbered-2.ensures.ok last))
    c.put_turn-in-Numbered-2.ensures.err

pub returns-in_err-put_part-in-Json-clause-err : goal.returns-in_err-put_part-in-Json-clause-err
returns-in_err-put_part-in-Json-clause-err g c =
    let p = err_from_is_err_and c.from_residual-in_err-put_part-in-Json.result c.from_residual-in_err-put_part-in-Json.ensures.1 in
    let before = c.args.before in
    let turn = c.args.turn.now in
    let number = codes "{\"line\":" ++ (decimal (before + 1) ++ []) in
    let whole = subst (λ (n : Numbering). number ++ (turn_bytes n turn ++ codes "}\n") ≡ numbered n before (turn_bytes n turn)) (sym c.in-Json.is) (in_object before (turn_bytes Json turn)) in
    rw p.1
    (subst (λ (bytes : List ℕ). Breaks g.W.Sink.taken g.W.Sink.write_failures c.args.self.now c.put_part-in-Json.new.self bytes Write) whole
    (Breaks-more _ _ _ _ number (turn_bytes c.args.numbering turn ++ codes "}\n") Write c.in_err-put_part-in-Json.ensures.err))

pub returns-in_ok-put_part-in-Json-clause-ok : goal.returns-in_ok-put_part-in-Json-clause-ok
returns-in_ok-put_part-in-Json-clause-ok g c =
    let before = c.args.before in
    let turn = c.args.turn.now in
    let number = codes "{\"line\":" ++ (decimal (before + 1) ++ []) in
    let whole = subst (λ (n : Numbering). number ++ (turn_bytes n turn ++ codes "}\n") ≡ numbered n before (turn_bytes n turn)) (sym c.in-Json.is) (in_object before (turn_bytes Json turn)) in
    on_ok_weaker c.put_turn-in-Json.result
    (λ last. subst (λ (bytes : List ℕ). Puts g.W.Sink.taken g.W.Sink.write_failures c.args.self.now c.put_turn-in-Json.new.self bytes) whole
    (Puts-then _ _ _ _ _ number (turn_bytes c.args.numbering turn ++ codes "}\n") c.in_ok-put_part-in-Json.ensures.ok last))
    c.put_turn-in-Json.ensures.ok

pub returns-in_ok-put_part-in-Json-clause-err : goal.returns-in_ok-put_part-in-Json-clause-err
returns-in_ok-put_part-in-Json-clause-err g c =
    let before = c.args.before in
    let turn = c.args.turn.now in
    let number = codes "{\"line\":" ++ (decimal (before + 1) ++ []) in
    let whole = subst (λ (n : Numbering). number ++ (turn_bytes n turn ++ codes "}\n") ≡ numbered n before (turn_bytes n turn)) (sym c.in-Json.is) (in_object before (turn_bytes Json turn)) in
    on_err_weaker c.put_turn-in-Json.result
    (λ last. subst (λ (bytes : List ℕ). Breaks g.W.Sink.taken g.W.Sink.write_failures c.args.self.now c.put_turn-in-Json.new.self bytes Write) whole
    (Puts-breaks _ _ _ _ _ number (turn_bytes c.args.numbering turn ++ codes "}\n") Write c.in_ok-put_part-in-Json.ensures.ok last))
    c.put_turn-in-Json.ensures.err
