use Rattle.std.proofs.lemmas.Result.{IfOk-weaker}
use Rattle.cq_match.proofs.Rested.{part-absent, part-last, part-falling}
use Rattle.cq_match.proofs.resting.Parts.part.Goals as goal

pub returns-clause-falling : goal.returns-clause-falling
returns-clause-falling g c =
    let i = c.self.inside in
    rw (← c.self.view_is) (IfOk-weaker c.part_of.result _ _ (λ part is nodes falling. part-falling i.edges.now i.falls.now c.args.node part.items is nodes falling) c.part_of.ensures)

pub returns-clause-last : goal.returns-clause-last
returns-clause-last g c =
    let i = c.self.inside in
    rw (← c.self.view_is) (IfOk-weaker c.part_of.result _ _ (λ part is has. part-last i.edges.now i.falls.now c.args.node part.items is c.self.invariant.good has) c.part_of.ensures)

pub returns-clause-absent : goal.returns-clause-absent
returns-clause-absent g c =
    let i = c.self.inside in
    rw (← c.self.view_is) (IfOk-weaker c.part_of.result _ _ (λ part is none. part-absent i.edges.now i.falls.now c.args.node part.items is none) c.part_of.ensures)
