use Rattle.std.proofs.Common.{sym, ap, ◌∙◌}
use Rattle.cq_board.specs.Edits.{why}
use Rattle.cq_board.proofs.KeptIn.{posted_in}
use Rattle.cq_board.proofs.board.Board.admit_counted.Goals as goal

pub invariant_of-self : goal.invariant_of-self
invariant_of-self g c =
    posted_in c.self.inside.limits c.self.inside.tables c.self.inside.stores c.post.new.self c.self.invariant _
    c.post.result c.args.self.now _ c.self.view_is (ap (why c.args.self.now) (sym c.in-Post.is) ∙ sym c.why.ensures ∙ c.in_default.is) c.post.ensures.stores c.post.ensures.posted c.post.ensures.err
