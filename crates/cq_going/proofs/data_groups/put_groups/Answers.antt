use Rattle.std.proofs.Common.{◌≡◌, ◌∙◌, ℕ, Bool, List, map, length, ap, refl, sym, subst}
use Rattle.std.specs.List.{enumerate_from}
use Rattle.std.proofs.lemmas.List.{length-map}
use Rattle.json.specs.Json.{Json}
use Rattle.cq_board.specs.Pool.{name_of}
use Rattle.cq_render.specs.Explain.{ArePieces}
use Rattle.cq_render.specs.Json.{array_of}
use Rattle.cq_going.specs.Grouping.{matched_flags, names_labelled}
use Rattle.cq_going.specs.Data.{IsGroupJson}
use Rattle.cq_going.proofs.Listed.{numbers_alike}
use Rattle.cq_going.proofs.Tellings.{on_ok}
use Rattle.cq_going.proofs.Tokens.{array_whole}
use Rattle.cq_going.proofs.data_groups.put_groups.Goals as goal

pub returns : goal.returns
returns g c =
    let pool = c.args.board.now in
    let all = c.in_ok-grouped.grouped in
    let labels = all.labels.items in
    let put = c.in_ok-put_each.ensures in
    let values = put.0 in
    let T : List Bool → List (List ℕ) → ℕ → List Json → Type 0 = λ flags names n. IsGroupJson pool (names_labelled flags labels names n) in
    let many : length all.names.items ≡ length pool.pending = sym (length-map all.names.items (λ name. name.now)) ∙ ap length c.in_ok-grouped.ensures.names ∙ length-map pool.pending name_of in
    let here = subst (λ (flags : List Bool). ArePieces (λ p. T flags (map (λ name. name.now) all.names.items) p.0) (enumerate_from 0 all.names.items) values) c.in_ok-grouped.ensures.matched put.1 in
    let named = subst (λ (names : List (List ℕ)). ArePieces (λ p. T (matched_flags pool) names p.0) (enumerate_from 0 all.names.items) values) c.in_ok-grouped.ensures.names here in
    let told = numbers_alike (T (matched_flags pool) (map name_of pool.pending)) 0 all.names.items pool.pending values many named in
    on_ok c.end_array.result
    (λ ended. (
      array_of values,
      (labels, c.in_ok-grouped.ensures.labels, values, told, refl),
      array_whole c.args.sheet.now c.begin_array.new.self c.put_each.new.sheet c.end_array.new.self values c.in_ok-begin_array.ensures put.2 ended,
    ))
    c.end_array.ensures
