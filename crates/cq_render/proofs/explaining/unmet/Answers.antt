use Rattle.std.proofs.Common.{◌≡◌, ◌∙◌, ℕ, List, sym, string_bytes, IfOk}
use Rattle.cq_render.specs.Explain.{only_words, IsUnmetTold}
use Rattle.cq_render.proofs.Whether.{of_none, of_some}
use Rattle.cq_render.proofs.explaining.unmet.Goals as goal

pub returns-then-is_empty : goal.returns-then-is_empty
returns-then-is_empty g c =
    let tells = λ (names : List (List ℕ)). IfOk c.missing.result (λ text. IsUnmetTold c.args.hints c.args.fallen.now.listing.now.board.now.pending c.args.name.now c.args.waiter c.args.post names (string_bytes text)) in
    of_none tells (λ name. name.now) c.args.providers.now (sym c.is_empty.ensures ∙ c.if-is_empty.true) c.missing.ensures

pub returns-else-is_empty : goal.returns-else-is_empty
returns-else-is_empty g c =
    let tells = λ (names : List (List ℕ)). IfOk c.only_words.result (λ text. IsUnmetTold c.args.hints c.args.fallen.now.listing.now.board.now.pending c.args.name.now c.args.waiter c.args.post names (string_bytes text)) in
    let only = λ (names : List (List ℕ)). IfOk c.only_words.result (λ text. string_bytes text ≡ only_words names) in
    of_some tells (λ name. name.now) only (λ name names told. told) c.args.providers.now (sym c.is_empty.ensures ∙ c.if-is_empty.false) c.only_words.ensures
