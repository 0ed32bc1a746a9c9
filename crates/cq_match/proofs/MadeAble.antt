-- A node becomes able that has a postcondition without any edge: what is matched stays.
use Rattle.std.proofs.Common.{◌≡◌, ℕ, ◌<◌, ◌≤◌, Bool, true, false, eqb, List, [], length, count_by, sym, ◌∙◌, arith}
use Rattle.std.specs.List.{list_any}
use Rattle.std.proofs.lemmas.Bool.{eqb-true}
use Rattle.std.proofs.lemmas.List.{get_or_default, length-set}
use Rattle.std.proofs.lemmas.List.Folds.{Any-from_list_any}
use Rattle.cq_atom.specs.declared.edge.Edge.{Edge}
use Rattle.cq_match.specs.declared.graph.Out.{Out}
use Rattle.cq_match.specs.declared.graph.Place.{Place}
use Rattle.cq_match.specs.Graph.{leads_to}
use Rattle.cq_match.specs.Steps.Settle.{stands}
use Rattle.cq_match.specs.Steps.Kept.{place_at, count_at, edges_from, feeds_post, Settled, IsKept}
use Rattle.cq_match.proofs.Tests.{by_bool, and_left}
use Rattle.cq_match.proofs.Rows.{row}
use Rattle.cq_match.proofs.Edges.{some-counted}
use Rattle.cq_match.proofs.Placing.{count-less}
use Rattle.cq_match.proofs.Flags.{places', flagged, same-posts, same-edges, same-counting, closed-before, closed-after, unmatched}

pub unfed-settled : {places : List Place} {leaving : List (List Out)} {totals : List (List ℕ)} {matched raised : List Bool} {counts : List (List ℕ)} {waiting reached : List ℕ} {room number next : ℕ}
    → IsKept places leaving totals matched raised counts waiting reached room number next → (node : ℕ) (low : node < length places) → (place_at places node).able ≡ false
    → list_any (λ count. eqb count 0) (row totals node) ≡ true
    → Settled (places' places node true low) (edges_from (places' places node true low) 0 leaving) matched raised counts
unfed-settled {places} {leaving} {totals} {matched} {raised} {counts} k node low unable lacks =
    let edges : List Edge = edges_from places 0 leaving in
    let s = k.settled in
    let down : stands matched node ≡ false = unmatched places edges matched node s.closed unable in
    let missing = Any-from_list_any (λ count. eqb count 0) (row totals node) lacks in
    let post = missing.0 in
    let zero_there : missing.1 ≡ 0 = eqb-true missing.1 0 missing.4 in
    let none : count_at totals node post ≡ 0 = sym (get_or_default (row totals node) post missing.1 0 missing.2) ∙ missing.3 ∙ zero_there in
    let no_edge : count_by (leads_to node post) edges ≡ 0 = sym (k.totaled node post) ∙ none in
    let inside : post < (place_at (places' places node true low) node).posts = (let l = missing.2 in let r = k.totals_row node in let p = same-posts places node true low node in omega arith) in
    rw (same-edges places node true low leaving) (record {
      matched_len = s.matched_len ∙ sym (length-set places node (flagged places node true low));
      same = s.same;
      counting = same-counting places node true low edges raised counts [] s.counting;
      closed = closed-after places node true low edges (stands matched) down s.closed;
      greatest = λ members closed n t.
          let out : members node ≡ false = by_bool (members node) (members node ≡ false)
          (λ u. absurd (
          let fed = some-counted (feeds_post members node post) edges (closed.fed node post u inside) in
          let less = count-less (feeds_post members node post) (leads_to node post) (λ e v. and_left (leads_to node post e) (members e.provider) v) edges in
          let never : 1 ≤ 0 = omega (arith, fed, less, no_edge) in omega arith))
          (λ f. f) in
          s.greatest members (closed-before places node true low edges members out closed) n t;
    })
