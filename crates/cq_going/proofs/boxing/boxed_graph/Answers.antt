use Rattle.std.proofs.Common.{◌≡◌, ◌++◌, ◌∙◌, ℕ, Bool, List, map, length, ap, sym, subst}
use Rattle.std.specs.Prelude.{string_bytes, IfOk}
use Rattle.std.specs.List.{enumerate_from, flat_map}
use Rattle.std.proofs.lemmas.List.{length-map}
use Rattle.std.proofs.lemmas.Result.{IfOk-weaker}
use Rattle.cq_board.specs.Pool.{name_of}
use Rattle.cq_render.specs.Graph.{graph_of, is_drawn}
use Rattle.cq_going.specs.Boxes.{box_of}
use Rattle.cq_going.specs.Grouping.{matched_flags}
use Rattle.cq_going.proofs.Listed.{texts_alike}
use Rattle.cq_going.proofs.boxing.boxed_graph.Goals as goal

pub returns : goal.returns
returns g c =
    let pool = c.args.board.now in
    let all = c.in_ok-grouped.grouped in
    let labels = all.labels.items in
    let drawn = is_drawn c.args.drawn in
    let many : length all.names.items ≡ length pool.pending = sym (length-map all.names.items (λ name. name.now)) ∙ ap length c.in_ok-grouped.ensures.names ∙ length-map pool.pending name_of in
    let boxes : c.as_str.result.now ≡ flat_map (λ query. box_of drawn (matched_flags pool) labels query.0) (enumerate_from 0 pool.pending) =
    c.as_str.ensures.value ∙ c.in_ok-put_all.ensures ∙ ap (λ (bytes : List ℕ). bytes ++ flat_map (λ query. box_of drawn all.matched.items labels query.0) (enumerate_from 0 all.names.items)) c.new-boxes.ensures.bytes
    ∙ ap (λ (flags : List Bool). flat_map (λ query. box_of drawn flags labels query.0) (enumerate_from 0 all.names.items)) c.in_ok-grouped.ensures.matched
    ∙ texts_alike (box_of drawn (matched_flags pool) labels) 0 all.names.items pool.pending many in
    IfOk-weaker c.graph_of.result _ _ (λ text is. (labels, c.in_ok-grouped.ensures.labels, is ∙ ap (λ (more : List ℕ). graph_of drawn more pool) boxes)) c.graph_of.ensures
