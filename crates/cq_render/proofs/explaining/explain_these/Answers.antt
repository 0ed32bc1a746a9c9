use Rattle.std.proofs.Common.{◌∙◌, ℕ, List, sym, string_bytes, IfOk}
use Rattle.cq_render.specs.Explain.{ArePieces, IsTold, IsExplained}
use Rattle.cq_render.proofs.Whether.{of_none, of_some}
use Rattle.cq_render.proofs.explaining.explain_these.Goals as goal

pub returns-then-is_empty : goal.returns-then-is_empty
returns-then-is_empty g c =
    let told = λ (names : List (List ℕ)). IfOk c.explain.result (λ text. IsExplained c.args.extent c.args.board.now names (string_bytes text)) in
    of_none told (λ name. name.now) c.args.names.now (sym c.is_empty.ensures ∙ c.if-is_empty.true) c.explain.ensures

pub returns-else-is_empty : goal.returns-else-is_empty
returns-else-is_empty g c =
    let told = λ (names : List (List ℕ)). IfOk c.explain_named.result (λ text. IsExplained c.args.extent c.args.board.now names (string_bytes text)) in
    let pieces = λ (names : List (List ℕ)). IfOk c.explain_named.result (λ text. ArePieces (IsTold c.args.extent c.args.board.now) names (string_bytes text)) in
    of_some told (λ name. name.now) pieces (λ name names is. is) c.args.names.now (sym c.is_empty.ensures ∙ c.if-is_empty.false) c.explain_named.ensures
