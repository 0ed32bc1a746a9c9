use Rattle.std.proofs.Common.{ap, ◌∙◌, map}
use Rattle.cq_board.proofs.Told.{place-read}
use Rattle.cq_board.proofs.board.Board.number_of.Goals as goal

pub returns : goal.returns
returns g c =
    c.place_among.ensures ∙ place-read c.args.name.now (λ name. name.now) c.deref.result.now c.args.self.now.pending (ap (map (λ name. name.now)) c.deref.ensures.value ∙ c.in_ok-names.ensures)
