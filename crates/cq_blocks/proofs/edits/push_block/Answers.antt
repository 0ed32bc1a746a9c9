use Rattle.std.proofs.Common.{◌≡◌, [], ◌∷◌, ◌++◌}
use Rattle.cq_blocks.specs.Blocks.{lists_of}
use Rattle.cq_blocks.proofs.Edited.{no-ok, lists-push}
use Rattle.cq_blocks.proofs.edits.push_block.Goals as goal

pub returns-in_err-push-clause-ok : goal.returns-in_err-push-clause-ok
returns-in_err-push-clause-ok g c = no-ok (λ done. lists_of c.reserve.new.self.items ≡ lists_of c.args.blocks.now.items ++ (c.args.element ∷ []) ∷ []) c.from_residual.result c.from_residual.ensures.0

pub returns-clause-ok : goal.returns-clause-ok
returns-clause-ok g c =
    lists-push c.args.blocks.now.items c.reserve.new.self.items c.push-2.new.self.items c.push.new.self c.new-block.result.items c.args.element c.reserve.ensures.items c.in-Ok-push.ensures.items c.in_ok-push.ensures.items c.new-block.ensures.items
