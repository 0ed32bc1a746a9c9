use Rattle.std.proofs.Common.{◌≡◌, true, false, sym, ap, subst, ◌∙◌, List, IsTrue}
use Rattle.std.specs.Prelude.{◌↔◌}
use Rattle.std.specs.List.{Contains}
use Rattle.cq_atom.specs.Value.{ValueContent}
use Rattle.cq_board.specs.Named.{groundings_named}
use Rattle.cq_board.proofs.Law.{grounded_tells, ungrounded}
use Rattle.cq_board.proofs.board.Board.is_grounded.Goals as goal

pub returns-in-Some : goal.returns-in-Some
returns-in-Some g c =
    let lists = c.in-Some.groundings.now in
    let found = c.in-Some.ensures ∙ ap (λ n. groundings_named n c.args.self.now) c.name.ensures in
    let tells = grounded_tells c.args.choice.now c.args.self.now lists (sym found) c.list-known.ensures.listed in
    let has = subst (λ (values : List ValueContent). IsTrue c.has.result ↔ Contains lists values) c.values.ensures c.has.ensures in
    (λ t. tells.0 (has.0 t), λ k. has.1 (tells.1 k))

pub returns-in-None : goal.returns-in-None
returns-in-None g c =
    let none = c.in-None.ensures ∙ ap (λ n. groundings_named n c.args.self.now) c.name.ensures in
    (λ t. let never : false ≡ true = t in cc, λ k. absurd (ungrounded c.args.choice.now.name c.args.self.now k.query none k.pending))
