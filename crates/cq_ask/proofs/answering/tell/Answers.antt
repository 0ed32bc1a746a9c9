use Rattle.std.proofs.Common.{◌≡◌, ◌∙◌, sym, subst}
use Rattle.std.specs.Prelude.{IfOk, string_bytes}
use Rattle.cq_ask.specs.declared.ask.AskKind.{AskKind}
use Rattle.cq_ask.specs.declared.ask.AskKind.TheVariants.{Groups}
use Rattle.cq_ask.specs.Answer.{IsToldOf, published_pool}
use Rattle.cq_ask.proofs.answering.tell.Goals as goal

pub returns-in-Groups : goal.returns-in-Groups
returns-in-Groups g c =
    let floor = c.args.floor.now in
    let ask = c.args.ask.now in
    let is : ask.kind ≡ Groups = sym c.kind.ensures ∙ c.in-Groups.is in
    subst (λ (kind : AskKind). IfOk c.groups.result (λ text. IsToldOf c.args.form floor (published_pool floor) kind ask.names ask.text (string_bytes text))) (sym is)
    (rw c.board-board.ensures at c.groups.ensures)
