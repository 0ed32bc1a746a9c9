use Rattle.std.proofs.Common.{ap, ◌∙◌}
use Rattle.std.proofs.lemmas.Result.{IfOk-weaker}
use Rattle.cq_board.specs.Edges.{edges_of}
use Rattle.cq_board.proofs.board.Board.edges_by_place.Goals as goal

pub returns : goal.returns
returns g c =
    IfOk-weaker c.edges_by_place.result _ _ (λ edges shown. shown ∙ ap edges_of c.stores.ensures.pending) (c.edges_by_place.ensures c.args.self.now.tables.rows c.stores.ensures.kept)
