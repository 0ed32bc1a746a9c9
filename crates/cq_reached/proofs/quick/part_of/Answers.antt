use Rattle.std.proofs.Common.{◌++◌, ◌∷◌, [], arith}
use Rattle.std.proofs.lemmas.List.Elements.{Contains-push}
use Rattle.cq_reached.specs.Steps.Taking.{names_of}
use Rattle.cq_reached.proofs.Taking.{taken-at, part-more}
use Rattle.cq_reached.proofs.quick.part_of.Goals as goal
use Rattle.cq_reached.proofs.quick.part_of.Goals.{then-one-label+in_ok-copy+in_ok-push, else-one-label}

pub loop-one-preserved : goal.loop-one-preserved
loop-one-preserved g c =
    let taken = c.args.taken.now in
    let name = c.args.name.now in
    let one = c.one-item.result in
    elim c.if-one-label.branch [
      | then-one-label+in_ok-copy+in_ok-push w ↦ rw w.part-is (part-more (names_of taken ++ name ∷ []) c.loop-one.part.items w.push.new.self.items one.name.now w.in_ok-copy.field-0 w.in_ok-push.ensures.items w.in_ok-copy.ensures c.loop-one.invariant (taken-at taken name c.loop-one.one-index one (omega arith) c.one-item.is))
      | else-one-label w ↦ rw w.part-is c.loop-one.invariant
    ]

pub returns : goal.returns
returns g c =
    let taken = c.args.taken.now in
    let name = c.args.name.now in
    part-more (names_of taken ++ name ∷ []) c.loop-one.part.items c.push-2.new.self.items name c.in_ok-copy-2.field-0 c.in_ok-push-2.ensures.items c.in_ok-copy-2.ensures c.loop-one.invariant (Contains-push (names_of taken) name)
