use Rattle.std.proofs.Common.{◌∙◌, map, ap}
use Rattle.std.proofs.lemmas.List.{take_all}
use Rattle.cq_board.specs.Named.{matched_named, query_named}
use Rattle.cq_choose.specs.Steps.Reach.{told, IfKnown}
use Rattle.cq_choose.proofs.Reaching.{all-more, all-end, map-more}
use Rattle.cq_choose.proofs.reach.matched_of.Goals as goal

pub loop-name-preserved : goal.loop-name-preserved
loop-name-preserved g c =
    let i = c.loop-name.name-index in
    let names = c.args.names.now in
    let name = c.name-item.result in
    record {
      matched = c.in_ok-push.ensures.items ∙ map-more (λ name. told (matched_named name.now c.args.board.now)) c.loop-name.matched.items c.is_matched.result names i name c.loop-name-test.true c.name-item.is c.loop-name.invariant.matched c.is_matched.ensures.matched;
      known = all-more (λ name. IfKnown (query_named name.now c.args.board.now.pending)) names i name c.loop-name-test.true c.name-item.is c.loop-name.invariant.known c.is_matched.ensures.known;
    }

pub returns-clause-known : goal.returns-clause-known
returns-clause-known g c = all-end (λ name. IfKnown (query_named name.now c.args.board.now.pending)) c.args.names.now c.loop-name.name-index c.loop-name-test.false c.loop-name.invariant.known

pub returns-clause-matched : goal.returns-clause-matched
returns-clause-matched g c =
    c.loop-name.invariant.matched ∙ ap (map (λ name. told (matched_named name.now c.args.board.now))) (take_all c.loop-name.name-index c.args.names.now c.loop-name-test.false)
