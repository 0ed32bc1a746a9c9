use Rattle.std.proofs.Common.{◌≡◌, ◌++◌, ◌∙◌, ◌∷◌, [], ℕ, List, subst, sym, ap, refl}
use Rattle.std.specs.Prelude.{codes}
use Rattle.json.specs.Json as values
use Rattle.json.specs.Token.{key, string}
use Rattle.cq_board.specs.Board.{name_or_none}
use Rattle.cq_render.specs.Json.{object_of}
use Rattle.cq_render.specs.Explain.{name_of_number}
use Rattle.cq_render.specs.Data.{IsReasonJson, IsStepJson}
use Rattle.cq_render.specs.Steps.Walking.{shown_read}
use Rattle.cq_render.specs.Steps.Telling.{member_tokens, ArePut}
use Rattle.cq_render.proofs.Pages.{put_both}
use Rattle.cq_render.proofs.Walked.{name_read, names_of_shown}
use Rattle.cq_render.proofs.Telling.{put_object, put_so}
use Rattle.cq_render.proofs.reasons.put_step.Goals as goal

pub returns : goal.returns
returns g c =
    let listing = c.args.fallen.now.listing.now in
    let pending = listing.board.now.pending in
    let items = listing.queries.items in
    let fall = c.args.fall.now in
    let name = name_of_number pending fall.node in
    let first = c.begin_object.new.self in
    let named = sym (ap name_or_none (name_read (λ shown. shown.name.now) items pending (names_of_shown shown_read items listing.board.now listing.walked) fall.node c.index.result.now c.requires c.index.ensures)) in
    let word = subst (λ (n : List ℕ). c.text_member.new.self ≡ first ++ key (codes "query") ∷ string n ∷ []) (c.as_str.ensures.bytes ∙ named) c.in_ok-text_member.ensures in
    let reason : ArePut (IsReasonJson pending name fall.node fall.reason) c.text_member.new.self c.put_reason.new.sheet =
    subst (λ (n : List ℕ). ArePut (IsReasonJson pending n fall.node fall.reason) c.text_member.new.self c.put_reason.new.sheet) named c.in_ok-put_reason.ensures in
    let members = (codes "query", values.string name) ∷ reason.0 in
    put_so (IsStepJson pending fall) (object_of members) c.args.sheet.now c.end_object.new.self c.end_object.result (reason.0, reason.1, refl)
    (put_object c.args.sheet.now first c.put_reason.new.sheet c.end_object.new.self members c.end_object.result c.in_ok-begin_object.ensures
    (put_both first c.text_member.new.self c.put_reason.new.sheet (key (codes "query") ∷ string name ∷ []) (member_tokens reason.0) word reason.2) c.end_object.ensures)
