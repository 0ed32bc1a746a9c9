use Rattle.std.proofs.Common.{◌≡◌, ◌∙◌, ℕ, Bool, List, map, length, ap, sym, subst}
use Rattle.std.specs.Prelude.{string_bytes}
use Rattle.std.specs.List.{enumerate_from}
use Rattle.std.proofs.lemmas.List.{length-map}
use Rattle.cq_board.specs.Pool.{name_of}
use Rattle.cq_render.specs.Explain.{ArePieces}
use Rattle.cq_going.specs.Grouping.{matched_flags, names_labelled, IsGroupTold}
use Rattle.cq_going.proofs.Listed.{numbers_alike}
use Rattle.cq_going.proofs.grouping.groups.Goals as goal

pub returns : goal.returns
returns g c =
    let pool = c.args.board.now in
    let all = c.in_ok-grouped.grouped in
    let labels = all.labels.items in
    let text = string_bytes c.put_groups.new.page in
    let told = c.in_ok-put_groups.ensures c.new-page.ensures.bytes in
    let T : List Bool → List (List ℕ) → ℕ → List ℕ → Type 0 = λ flags names n. IsGroupTold pool (names_labelled flags labels names n) in
    let many : length all.names.items ≡ length pool.pending = sym (length-map all.names.items (λ name. name.now)) ∙ ap length c.in_ok-grouped.ensures.names ∙ length-map pool.pending name_of in
    let here = subst (λ (flags : List Bool). ArePieces (λ p. T flags (map (λ name. name.now) all.names.items) p.0) (enumerate_from 0 all.names.items) text) c.in_ok-grouped.ensures.matched told in
    let named = subst (λ (names : List (List ℕ)). ArePieces (λ p. T (matched_flags pool) names p.0) (enumerate_from 0 all.names.items) text) c.in_ok-grouped.ensures.names here in
    (labels, c.in_ok-grouped.ensures.labels, numbers_alike (T (matched_flags pool) (map name_of pool.pending)) 0 all.names.items pool.pending text many named)
