use Rattle.std.proofs.Common.{◌∙◌, ℕ, List, map, ap, arith}
use Rattle.std.proofs.lemmas.List.{take_all}
use Rattle.cq_board.specs.Named.{matched_named}
use Rattle.cq_going.specs.Reasons.{is_yes}
use Rattle.cq_going.proofs.Listed.{map_more, map_mapped}
use Rattle.cq_going.proofs.grouping.matched_of.Goals as goal

pub loop-name-preserved : goal.loop-name-preserved
loop-name-preserved g c =
    c.in_ok-push.ensures.items
    ∙ map_more (λ name. is_yes (matched_named name.now c.args.board.now)) c.loop-name.flags.items c.is_matched.result c.args.names.now c.loop-name.name-index c.name-item.result (omega arith) c.name-item.is c.loop-name.invariant c.is_matched.ensures

pub returns : goal.returns
returns g c =
    c.loop-name.invariant ∙ ap (map (λ name. is_yes (matched_named name.now c.args.board.now))) (take_all c.loop-name.name-index c.args.names.now (omega arith))
    ∙ map_mapped (λ (name : List ℕ). is_yes (matched_named name c.args.board.now)) (λ name. name.now) c.args.names.now
