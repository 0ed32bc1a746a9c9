use Rattle.std.proofs.Common.{is_some, ap, ◌∙◌}
use Rattle.cq_board.specs.Edits.{is_taken}
use Rattle.cq_board.specs.Steps.Stores.{StoresRecord, pending_of}
use Rattle.cq_board.proofs.Stored.{taken-named}
use Rattle.cq_board.proofs.stores.Stores.is_taken.Goals as goal

pub returns : goal.returns
returns g c =
    let name = c.args.name.now in
    c.is_some.ensures ∙ ap is_some c.place_of.ensures ∙ taken-named name c.self.inside.roster c.self.inside.grounded ∙ ap (λ (s : StoresRecord). is_taken name (pending_of s)) c.self.view_is
