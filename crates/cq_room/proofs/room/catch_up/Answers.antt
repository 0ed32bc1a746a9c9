use Rattle.std.proofs.Common.{rules, ◌≡◌, ◌+◌, ◌<◌, [], ◌∷◌, ◌++◌, length, get_or, ap, sym, ◌∙◌, arith, length-drop}
use Rattle.std.proofs.lemmas.List.{get_or-drop}
use Rattle.cq_room.specs.declared.mark.Mark.TheVariants.{Entered}
use Rattle.cq_room.proofs.Marked.{count_more, entered_more}
use Rattle.cq_room.proofs.room.catch_up.Goals as goal

pub loop-place-preserved : goal.loop-place-preserved
loop-place-preserved g c = let at = c.loop-place in let inv = at.invariant in let entry = c.index-journal-place.result in let desk = c.args.desk.now in
    let rest = c.journal-journal.ensures.value in let n = ap length rest in let m = length-drop desk.base desk.journal in let short = c.loop-place-test.true in
    let less : desk.base + at.place < length desk.journal = omega (arith, n, m, short) in
    let is : c.enter.new.self ≡ at.entered ++ Entered entry ∷ [] = search rules in (
      entered_more at.entered c.enter.new.self desk.journal entry (desk.base + at.place) inv.0 inv.1 less (c.index-journal-place.is ∙ (ap (λ z. get_or z at.place entry) rest ∙ get_or-drop desk.base desk.journal at.place entry)) is,
      let more = count_more at.entered c.enter.new.self entry (desk.base + at.place) is (sym inv.1) in omega (arith, more),
    )
