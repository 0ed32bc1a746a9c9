use Rattle.std.proofs.Common.{List, sym, ap, ◌∙◌}
use Rattle.std.specs.Prelude.{option_map}
use Rattle.std.specs.Option.{option_copied}
use Rattle.cq_board.specs.Pool.{PendingQuery}
use Rattle.cq_board.specs.Board.{name_at}
use Rattle.cq_board.specs.Steps.Stores.{pending_of}
use Rattle.cq_board.proofs.Shown.{name_seated}
use Rattle.cq_board.proofs.Stored.{content_of}
use Rattle.cq_board.proofs.board.Board.name_at.Goals as goal

pub returns-in-Some : goal.returns-in-Some
returns-in-Some g c =
    ap (option_map (λ s. s.name)) (ap option_copied (sym c.in-Some.is) ∙ c.nth.ensures)
    ∙ name_seated (content_of c.stores.inside) c.args.place
    ∙ ap (λ (pending : List PendingQuery). name_at pending c.args.place) (ap pending_of c.stores.view_is ∙ c.stores-stores.ensures.pending)

pub returns-in-None : goal.returns-in-None
returns-in-None g c =
    ap (option_map (λ s. s.name)) (ap option_copied (sym c.in-None.is) ∙ c.nth.ensures)
    ∙ name_seated (content_of c.stores.inside) c.args.place
    ∙ ap (λ (pending : List PendingQuery). name_at pending c.args.place) (ap pending_of c.stores.view_is ∙ c.stores-stores.ensures.pending)
