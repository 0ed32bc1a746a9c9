use Rattle.std.proofs.Common.{◌≡◌, ◌++◌, ◌∙◌, List, ℕ, subst, sym, ap}
use Rattle.std.specs.Prelude.{codes, string_bytes, IfOk}
use Rattle.std.proofs.lemmas.Result.{IfOk-weaker}
use Rattle.cq_board.specs.Board.{name_or_none}
use Rattle.cq_render.proofs.Walked.{name_read, names_of_shown}
use Rattle.cq_render.specs.Steps.Walking.{shown_read}
use Rattle.cq_render.specs.Explain.{IsReasonTold, name_of_number}
use Rattle.cq_render.proofs.explaining.reason_line.Goals as goal

pub returns : goal.returns
returns g c =
    let listing = c.args.fallen.now.listing.now in
    let pending = listing.board.now.pending in
    let items = listing.queries.items in
    let fall = c.args.fall.now in
    let is = c.index.ensures in
    let named = sym (ap name_or_none (name_read (λ shown. shown.name.now) items pending (names_of_shown shown_read items listing.board.now listing.walked) fall.node c.index.result.now c.requires is)) in
    let reason : IsReasonTold c.args.layout.hints listing.board.now (name_of_number pending fall.node) fall.node fall.reason c.as_str-reason.result.now =
    subst (IsReasonTold c.args.layout.hints listing.board.now (name_of_number pending fall.node) fall.node fall.reason) (sym c.as_str-reason.ensures.value)
    (subst (λ (n : List ℕ). IsReasonTold c.args.layout.hints listing.board.now n fall.node fall.reason (string_bytes c.in_ok-reason.reason)) named c.in_ok-reason.ensures) in
    let written : IfOk c.format.result (λ text. string_bytes text ≡ c.args.layout.front.now ++ (c.as_str-name.result.now ++ (c.args.layout.separator.now ++ (c.as_str-reason.result.now ++ codes "\n")))) = c.format.ensures.ok in
    IfOk-weaker c.format.result _ _
    (λ text is. (c.as_str-reason.result.now, reason, is))
    (subst (λ (name : List ℕ). IfOk c.format.result (λ text. string_bytes text ≡ c.args.layout.front.now ++ (name ++ (c.args.layout.separator.now ++ (c.as_str-reason.result.now ++ codes "\n"))))) (c.as_str-name.ensures.bytes ∙ named) written)
