use Rattle.std.proofs.Common.{sym, ◌∙◌}
use Rattle.cq_board.proofs.KeptIn.{posted_in}
use Rattle.cq_board.proofs.board.Board.post_one.Goals as goal

pub invariant_of-self-2 : goal.invariant_of-self-2
invariant_of-self-2 g c =
    posted_in c.self.inside.limits c.self.inside.tables c.self.inside.stores c.post.new.self c.self.invariant c.args.name.now
    c.post.result c.args.self.now c.args.query.now c.self.view_is (sym c.post_why.ensures ∙ c.in_default.is) c.post.ensures.stores c.post.ensures.posted c.post.ensures.err
