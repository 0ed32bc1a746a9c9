use Rattle.std.proofs.Common.{◌≡◌, ◌∙◌, List, ℕ, subst, sym, ap}
use Rattle.std.specs.Prelude.{string_bytes, IfOk}
use Rattle.cq_render.specs.Hints.{body_lack}
use Rattle.cq_render.specs.Steps.Walking.{shown_read}
use Rattle.cq_render.proofs.Liked.{query_read, lack_at}
use Rattle.cq_render.proofs.lacking.lack_words.Goals as goal

pub returns : goal.returns
returns g c =
    let listing = c.args.listing.now in
    let pool = listing.board.now in
    let number = c.args.number in
    let found = query_read shown_read listing.queries.items pool listing.walked number c.index.result.now c.requires c.index.ensures in
    let told = ap (λ tables. body_lack tables c.index.result.now.query.now.body) c.tables.ensures ∙ ap (λ q. body_lack pool.tables q.body) (sym found.2) ∙ sym (lack_at pool number found.0 found.1) in
    subst (λ (words : List ℕ). IfOk c.body_lack.result (λ text. string_bytes text ≡ words)) told c.body_lack.ensures
