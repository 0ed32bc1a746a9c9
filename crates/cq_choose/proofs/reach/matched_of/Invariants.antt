use Rattle.std.proofs.Common.{◌≡◌, map, take}
use Rattle.std.specs.List.{All}
use Rattle.cq_board.specs.Named.{matched_named, query_named}
use Rattle.cq_choose.specs.Steps.Reach.{told, IfKnown}
use Rattle.cq_choose.proofs.reach.matched_of.Given as goal

abbrev pub invariant-loop-name : goal.invariant-loop-name
invariant-loop-name g l = record {
  matched : l.matched.items ≡ map (λ name. told (matched_named name.now l.board)) (take l.name-index l.names);
  known : All (λ name. IfKnown (query_named name.now l.board.pending)) (take l.name-index l.names);
}
