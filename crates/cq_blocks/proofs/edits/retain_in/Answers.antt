use Rattle.std.proofs.Common.{◌<◌, length, arith, sym, ◌∙◌}
use borrow.Author.Rules.{of_calls}
use Rattle.cq_blocks.proofs.Halving.{computes-next}
use Rattle.cq_blocks.proofs.Retained.{stays, goes}
use Rattle.cq_blocks.proofs.edits.retain_in.Goals as goal

pub elements-preserved-then-stays : goal.elements-preserved-then-stays
elements-preserved-then-stays g c =
    let within : c.elements.at < length c.elements.block.items = omega arith in record {
      within = omega arith;
      callable = search of_calls;
      kept = λ p computes.
          let known = c.elements.invariant.kept p computes in
          let next = computes-next p known.0 c.f-stays.ensures in
          (next.0, stays p c.args.block.now.items c.elements.block.items c.elements.at c.index.result.now within c.index.ensures known.1 (sym next.1 ∙ c.if-stays.true));
      went = omega arith;
    }

pub elements-preserved : goal.elements-preserved
elements-preserved g c =
    let within : c.elements.at < length c.elements.block.items = omega arith in record {
      within = omega arith;
      callable = search of_calls;
      kept = λ p computes.
          let known = c.elements.invariant.kept p computes in
          let next = computes-next p known.0 c.f-stays.ensures in
          (next.0, goes p c.args.block.now.items c.elements.block.items c.elements.at c.index.result.now within c.index.ensures known.1 c.remove.new.self.items (sym next.1 ∙ c.if-stays.false) c.remove.ensures.items);
      went = omega arith;
    }
