use Rattle.std.proofs.Common.{◌∙◌, sym, subst}
use Rattle.std.specs.List.{AllZip}
use Rattle.cq_blocks.specs.Blocks.{elements, lists_of}
use Rattle.cq_blocks.proofs.Copies.{copied, copied-filled, copied-length}
use Rattle.cq_blocks.proofs.blocks.BlocksClone.clone.Goals as goal

pub invariant_of-result : goal.invariant_of-result
invariant_of-result g c =
    let vs = c.self.inside.blocks.items in
    let ws = c.in_ok-clone.field-0.items in
    (copied-filled g.T.Clone.is_clone vs ws c.in_ok-clone.ensures.cases.0 c.self.invariant.0, c.self.invariant.1 ∙ sym (copied-length g.T.Clone.is_clone vs ws c.in_ok-clone.ensures.cases.0))

pub returns : goal.returns
returns g c =
    let vs = c.self.inside.blocks.items in
    let ws = c.in_ok-clone.field-0.items in
    record {
      cases = subst (λ l. AllZip g.T.Clone.is_clone (elements l) (elements (lists_of ws))) c.self.view_is (copied g.T.Clone.is_clone vs ws c.in_ok-clone.ensures.cases.0);
    }
