use Rattle.std.proofs.Common.{◌≡◌, ◌↔◌, ◌<◌, ℕ, Bool, false, List, ◌∷◌, length, sym, ap, subst, ◌∙◌, count_by, ◌+◌}
use Rattle.std.specs.FinMap as map
use Rattle.std.specs.List.{All, Any, Contains}
use Rattle.cq_atom.specs.Atom.{AtomRecord}
use Rattle.cq_links.specs.Links.{LinkMap, ends_of, IsLink, Touches}
use Rattle.cq_atom.specs.declared.edge.Edge.{Edge}
use Rattle.cq_match.specs.Matched.{numbers}
use Rattle.cq_match.specs.Matcher.{is_apart}
use Rattle.cq_board.specs.Steps.Stores.{AddsLinks}
use Rattle.cq_board.proofs.Stored.{free-seat, free-node, free-links, posted-ends, posted-touch, get-inserted, remove-inserted, on-err, ok-map, failed, succeeded}
use Rattle.cq_board.proofs.stores.link.Goals as goal
use Rattle.cq_board.proofs.stores.link.Goals.{then-is_err, else-is_err}

pub seat-seated-requires-clause-free : goal.seat-seated-requires-clause-free
seat-seated-requires-clause-free g c = let s = c.requires.stores in free-seat _ s.0 s.2 c.args.place s.3

pub seat-seated-requires-clause-no_node : goal.seat-seated-requires-clause-no_node
seat-seated-requires-clause-no_node g c = let s = c.requires.stores in free-node _ s.0 s.2 c.args.place s.3

pub seat-seated-requires-clause-touch : goal.seat-seated-requires-clause-touch
seat-seated-requires-clause-touch g c =
    let s = c.requires.stores in
    let exact = subst (λ (l : LinkMap). (edge : Edge) → Contains c.in_ok-edges.edges.items edge ↔ (IsLink l edge × Touches c.args.place edge)) c.in_ok-edges.ensures.ok c.in_ok-edges.ensures.exact in
    subst (λ (es : List Edge). All (λ (edge : Edge). is_apart c.args.place edge ≡ false) es) (sym c.deref.ensures.value)
    (posted-touch _ s.0 s.2 c.args.place s.3 c.args.name.now c.args.query.now c.in_ok-edges.edges.items exact)

pub seat-seated-requires-clause-ends : goal.seat-seated-requires-clause-ends
seat-seated-requires-clause-ends g c =
    let s = c.requires.stores in
    let exact = subst (λ (l : LinkMap). (edge : Edge) → Contains c.in_ok-edges.edges.items edge ↔ (IsLink l edge × Touches c.args.place edge)) c.in_ok-edges.ensures.ok c.in_ok-edges.ensures.exact in
    let known = subst (λ (b : Bool). All (λ (edge : Edge). Contains (numbers ((c.args.place, length c.args.query.now.posts, b) ∷ c.args.matcher.now.nodes)) edge.provider × Any (λ (node : ℕ × ℕ × Bool). (node.0 ≡ edge.waiter) × (edge.post < node.1)) ((c.args.place, length c.args.query.now.posts, b) ∷ c.args.matcher.now.nodes)) c.in_ok-edges.edges.items)
    (sym s.4)
    (posted-ends _ s.0 s.2 c.args.place s.3 c.args.name.now c.args.query.now c.in_ok-edges.edges.items exact) in
    subst (λ (ps : List AtomRecord). All (λ (edge : Edge). Contains (numbers ((c.args.place, length ps, c.args.able) ∷ c.args.matcher.now.nodes)) edge.provider × Any (λ (node : ℕ × ℕ × Bool). (node.0 ≡ edge.waiter) × (edge.post < node.1)) ((c.args.place, length ps, c.args.able) ∷ c.args.matcher.now.nodes)) c.deref.result.now)
    (sym c.posts.ensures.value)
    (subst (λ (es : List Edge). All (λ (edge : Edge). Contains (numbers ((c.args.place, length c.args.query.now.posts, c.args.able) ∷ c.args.matcher.now.nodes)) edge.provider × Any (λ (node : ℕ × ℕ × Bool). (node.0 ≡ edge.waiter) × (edge.post < node.1)) ((c.args.place, length c.args.query.now.posts, c.args.able) ∷ c.args.matcher.now.nodes)) es)
    (sym c.deref.ensures.value) known)

pub remove-requires : goal.remove-requires
remove-requires g c =
    let s = c.requires.stores in
    ap (λ (l : LinkMap). map.get l c.args.place) c.in_ok-edges.ensures.ok
    ∙ get-inserted c.args.links.now c.args.place (free-links _ s.0 s.2 c.args.place s.3) (ends_of c.args.query.now)

pub returns-clause-edges : goal.returns-clause-edges
returns-clause-edges g c =
    elim c.if-is_err.branch [
      | then-is_err w ↦ failed c.seat-seated.result (AddsLinks c.if-is_err.links c.args.place c.args.matcher.now.edges c.seat-seated.new.matcher.edges) (sym c.is_err.ensures.value ∙ w.if-is_err.true)
      | else-is_err w ↦
          ok-map c.seat-seated.result ((test : Edge → Bool) → count_by test c.seat-seated.new.matcher.edges ≡ count_by test c.args.matcher.now.edges + count_by test c.deref.result.now)
          (AddsLinks c.if-is_err.links c.args.place c.args.matcher.now.edges c.seat-seated.new.matcher.edges) c.seat-seated.ensures.edges
          (λ counted. record {
            added = c.in_ok-edges.edges.items;
            exact = subst (λ (l : LinkMap). (edge : Edge) → Contains c.in_ok-edges.edges.items edge ↔ (IsLink l edge × Touches c.args.place edge)) (sym w.links-is) c.in_ok-edges.ensures.exact;
            once = c.in_ok-edges.ensures.once;
            counted = λ test. counted test ∙ ap (λ (es : List Edge). count_by test c.args.matcher.now.edges + count_by test es) c.deref.ensures.value;
          })
    ]

pub returns-clause-err_links : goal.returns-clause-err_links
returns-clause-err_links g c =
    let s = c.requires.stores in
    elim c.if-is_err.branch [
      | then-is_err w ↦
          on-err c.seat-seated.result (c.if-is_err.links ≡ c.args.links.now)
          (w.links-is ∙ w.remove.ensures ∙ ap (λ (l : LinkMap). map.remove l c.args.place) c.in_ok-edges.ensures.ok
          ∙ remove-inserted c.args.links.now c.args.place (free-links _ s.0 s.2 c.args.place s.3) (ends_of c.args.query.now))
      | else-is_err w ↦ succeeded c.seat-seated.result (c.if-is_err.links ≡ c.args.links.now) (sym c.is_err.ensures.value ∙ w.if-is_err.false)
    ]

pub returns-in_err-edges-clause-seated : goal.returns-in_err-edges-clause-seated
returns-in_err-edges-clause-seated g c = failed c.from_residual.result _ c.from_residual.ensures.0

pub returns-in_err-edges-clause-linked : goal.returns-in_err-edges-clause-linked
returns-in_err-edges-clause-linked g c = failed c.from_residual.result _ c.from_residual.ensures.0

pub returns-in_err-edges-clause-node : goal.returns-in_err-edges-clause-node
returns-in_err-edges-clause-node g c = failed c.from_residual.result _ c.from_residual.ensures.0

pub returns-in_err-edges-clause-others : goal.returns-in_err-edges-clause-others
returns-in_err-edges-clause-others g c = failed c.from_residual.result _ c.from_residual.ensures.0

pub returns-in_err-edges-clause-edges : goal.returns-in_err-edges-clause-edges
returns-in_err-edges-clause-edges g c = failed c.from_residual.result _ c.from_residual.ensures.0

pub returns-in_err-edges-clause-matched : goal.returns-in_err-edges-clause-matched
returns-in_err-edges-clause-matched g c = failed c.from_residual.result _ c.from_residual.ensures.0

pub returns-in_err-edges-clause-ticks : goal.returns-in_err-edges-clause-ticks
returns-in_err-edges-clause-ticks g c = failed c.from_residual.result _ c.from_residual.ensures.0

pub returns-clause-seated : goal.returns-clause-seated
returns-clause-seated g c = c.seat-seated.ensures.seated

pub returns-clause-others : goal.returns-clause-others
returns-clause-others g c = c.seat-seated.ensures.others

pub returns-clause-matched : goal.returns-clause-matched
returns-clause-matched g c = c.seat-seated.ensures.matched

pub returns-clause-err_roster : goal.returns-clause-err_roster
returns-clause-err_roster g c = c.seat-seated.ensures.err_roster

pub returns-clause-err_matcher : goal.returns-clause-err_matcher
returns-clause-err_matcher g c = c.seat-seated.ensures.err_matcher
