use Rattle.std.proofs.Common.{◌≡◌, ◌∙◌, refl, sym, ap, subst}
use Rattle.std.specs.Prelude.{IfOk, codes, string_bytes}
use Rattle.std.proofs.lemmas.Result.{IfOk-weaker}
use Rattle.cq_ask.specs.declared.ask.AskKind.{AskKind}
use Rattle.cq_ask.specs.declared.ask.AskKind.TheVariants.{Count, Groups}
use Rattle.cq_ask.specs.declared.counts.Counts.{Counts}
use Rattle.cq_ask.specs.Answer.{counts_of, published_pool}
use Rattle.cq_ask.specs.Data.{count_json, member_text, IsMemberOf, IsToldAs}
use Rattle.cq_ask.proofs.data.tell_data.Goals as goal

pub returns-in-Count : goal.returns-in-Count
returns-in-Count g c =
    let floor = c.args.floor.now in
    let ask = c.args.ask.now in
    let is : ask.kind ≡ Count = sym c.kind.ensures ∙ c.in-Count.is in
    subst (λ (kind : AskKind). IfOk c.parts_text.result (λ text. IsToldAs (IsMemberOf c.args.form floor (published_pool floor) kind ask.names ask.text) (string_bytes text))) (sym is)
    (IfOk-weaker c.parts_text.result _ _
    (λ text written. ((codes "count", count_json (counts_of floor)), refl, written ∙ c.count_members.ensures ∙ ap (λ (counts : Counts). member_text (codes "count", count_json counts)) c.counts_of.ensures))
    c.parts_text.ensures)

pub returns-in-Groups : goal.returns-in-Groups
returns-in-Groups g c =
    let floor = c.args.floor.now in
    let ask = c.args.ask.now in
    let is : ask.kind ≡ Groups = sym c.kind.ensures ∙ c.in-Groups.is in
    subst (λ (kind : AskKind). IfOk c.groups_member.result (λ text. IsToldAs (IsMemberOf c.args.form floor (published_pool floor) kind ask.names ask.text) (string_bytes text))) (sym is)
    (rw c.board-board.ensures at c.groups_member.ensures)
