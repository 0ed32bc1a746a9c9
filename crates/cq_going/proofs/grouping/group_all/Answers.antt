use Rattle.std.proofs.Common.{◌≡◌, ◌∙◌, ◌<◌, ℕ, Bool, List, map, length, ap, sym, subst}
use Rattle.std.specs.List.{All}
use Rattle.std.proofs.lemmas.List.{length-map}
use Rattle.cq_board.specs.Pool.{name_of}
use Rattle.cq_board.specs.Named.{matched_named}
use Rattle.cq_board.specs.Edges.{edges_of}
use Rattle.cq_groups.specs.Groups.{AreLabels}
use Rattle.cq_going.specs.Reasons.{is_yes}
use Rattle.cq_going.specs.Grouping.{matched_flags, links_between}
use Rattle.cq_going.proofs.Listed.{links_low-one, links_low-other}
use Rattle.cq_going.proofs.grouping.group_all.Goals as goal

pub group_labels-requires-clause-one : goal.group_labels-requires-clause-one
group_labels-requires-clause-one g c =
    let flags = c.in_ok-matched.matched.items in
    let named : List (List ℕ) = map (λ name. name.now) c.deref.result.now in
    let many : length flags ≡ c.len.result =
    ap length c.in_ok-matched.ensures ∙ length-map named (λ (name : List ℕ). is_yes (matched_named name c.args.board.now)) ∙ length-map c.deref.result.now (λ name. name.now) ∙ c.deref.ensures.len ∙ sym c.len.ensures in
    subst (λ (links : List (ℕ × ℕ)). All (λ link. link.0 < c.len.result) links) (sym (c.deref-4.ensures.value ∙ c.in_ok-links.ensures ∙ ap (λ (l : List Bool). links_between l c.deref-3.result.now) c.deref-2.ensures.value))
    (subst (λ (n : ℕ). All (λ link. link.0 < n) (links_between flags c.deref-3.result.now)) many (links_low-one flags c.deref-3.result.now))

pub group_labels-requires-clause-other : goal.group_labels-requires-clause-other
group_labels-requires-clause-other g c =
    let flags = c.in_ok-matched.matched.items in
    let named : List (List ℕ) = map (λ name. name.now) c.deref.result.now in
    let many : length flags ≡ c.len.result =
    ap length c.in_ok-matched.ensures ∙ length-map named (λ (name : List ℕ). is_yes (matched_named name c.args.board.now)) ∙ length-map c.deref.result.now (λ name. name.now) ∙ c.deref.ensures.len ∙ sym c.len.ensures in
    subst (λ (links : List (ℕ × ℕ)). All (λ link. link.1 < c.len.result) links) (sym (c.deref-4.ensures.value ∙ c.in_ok-links.ensures ∙ ap (λ (l : List Bool). links_between l c.deref-3.result.now) c.deref-2.ensures.value))
    (subst (λ (n : ℕ). All (λ link. link.1 < n) (links_between flags c.deref-3.result.now)) many (links_low-other flags c.deref-3.result.now))

pub returns-clause-labels : goal.returns-clause-labels
returns-clause-labels g c =
    let pool = c.args.board.now in
    let flags : c.deref-2.result.now ≡ matched_flags pool =
    c.deref-2.ensures.value ∙ c.in_ok-matched.ensures
    ∙ ap (map (λ (name : List ℕ). is_yes (matched_named name pool))) (ap (map (λ name. name.now)) c.deref.ensures.value ∙ c.in_ok-names.ensures) in
    let edges : c.deref-3.result.now ≡ edges_of pool.pending = c.deref-3.ensures.value ∙ c.in_ok-edges_by_place.ensures in
    let links : c.deref-4.result.now ≡ links_between (matched_flags pool) (edges_of pool.pending) =
    c.deref-4.ensures.value ∙ c.in_ok-links.ensures ∙ ap (λ (l : List Bool). links_between l c.deref-3.result.now) flags ∙ ap (links_between (matched_flags pool)) edges in
    let count : c.len.result ≡ length pool.pending =
    c.len.ensures ∙ sym c.deref.ensures.len ∙ ap length c.deref.ensures.value ∙ sym (length-map c.in_ok-names.names.items (λ name. name.now)) ∙ ap length c.in_ok-names.ensures ∙ length-map pool.pending name_of in
    subst (λ (n : ℕ). AreLabels (links_between (matched_flags pool) (edges_of pool.pending)) n c.in_ok-labels.labels.items) count
    (subst (λ (ls : List (ℕ × ℕ)). AreLabels ls c.len.result c.in_ok-labels.labels.items) links c.in_ok-labels.ensures)
