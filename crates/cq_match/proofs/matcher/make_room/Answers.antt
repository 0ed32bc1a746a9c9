use Rattle.std.proofs.Common.{◌∙◌}
use Rattle.cq_match.proofs.matcher.make_room.Goals as goal

pub loop-alloc-preserved : goal.loop-alloc-preserved
loop-alloc-preserved g c = record {
  kept = λ number next k. c.grow.ensures.kept number next (c.loop-alloc.invariant.kept number next k);
  nodes = c.grow.ensures.nodes ∙ c.loop-alloc.invariant.nodes;
  edges = c.grow.ensures.edges ∙ c.loop-alloc.invariant.edges;
  matched = c.grow.ensures.matched ∙ c.loop-alloc.invariant.matched;
}

pub returns-in_err-grow-clause-kept : goal.returns-in_err-grow-clause-kept
returns-in_err-grow-clause-kept g c = λ number next k. c.grow.ensures.kept number next (c.loop-alloc.invariant.kept number next k)
