use Rattle.std.proofs.Common.{◌≡◌, suc, true, false, ◌+◌, ◌<◌, ◌∷◌, [], List, length, get_or, drop, sym, ap, ◌∙◌, subst, arith, ◌≤◌}
use Rattle.std.proofs.lemmas.List.{get_or_default, drop_all}
use Rattle.cq_atom.specs.declared.edge.Edge.{Edge}
use Rattle.cq_match.specs.declared.graph.Out.{Out}
use Rattle.cq_match.specs.declared.graph.Place.{Place}
use Rattle.cq_match.specs.Steps.Kept.{is_live, edge_of, edges_left, edges_from, Pruning, count_at}
use Rattle.cq_match.proofs.Edges.{left-live, left-gone}
use Rattle.cq_match.proofs.Pruning.{lower-step, lower-busy, lower-some}
use Rattle.cq_match.proofs.Fits.{edge-fits}
use Rattle.cq_match.proofs.marks.Marks.lower_all.Goals as goal
use Rattle.cq_match.proofs.Rows.{post-placed}
use Rattle.cq_match.proofs.marks.Marks.lower_all.Goals.{then-is_live, else-is_live}

pub loop-out-preserved : goal.loop-out-preserved
loop-out-preserved g c =
    let places = c.args.graph.now.places.items in
    let leaving = c.args.graph.now.leaving.items in
    let node = c.args.node in
    let edges : List Edge = edges_from places 0 leaving in
    let outs = c.outs-outs.result.now in
    let i = c.loop-out.out-index in
    let none : Out = record { head = 0; waiter = 0; post = 0; stamp = 0 } in
    let out : Out = get_or outs i none in
    let low : i < length outs = c.loop-out-test.true in
    let same : outs ≡ get_or leaving node [] = c.outs-outs.ensures ∙ c.index.ensures ∙ get_or_default leaving node c.index.result.now [] c.requires.within in
    let matched = c.loop-out.self.matched.items in
    let raised = c.loop-out.self.raised.items in
    let counts = c.loop-out.self.counts.items in
    let waiting = c.loop-out.self.waiting.items in
    let behind = edges_left places node (drop (i + 1) outs) in
    elim c.if-is_live.branch [
      | then-is_live w ↦
          let live : is_live places out ≡ true = ap (λ (ps : List Place). is_live ps out) (sym c.deref.ensures.value) ∙ sym c.is_live.ensures ∙ w.if-is_live.true in
          let pending = left-live places node outs i none low live in
          let fits = edge-fits places leaving node i outs none c.requires.fit same low live in
          let p : Pruning places edges matched raised counts waiting (edge_of node out ∷ behind) = subst (Pruning places edges matched raised counts waiting) pending c.loop-out.invariant.pruning in
          let post : w.from.result ≡ out.post = w.from.ensures in
          let counts-is = w.lower.ensures.counts in
          let matched-is = w.lower.ensures.matched in
          let waiting-is = w.lower.ensures.waiting in
          let one : length (edges_left places node (drop i outs)) ≡ length behind + 1 = ap length pending ∙ (let m : suc (length behind) ≡ length behind + 1 = omega arith in m) in
          record {
            pruning = rw w.self-is (rw (counts-is, matched-is, waiting-is, w.lower.ensures.raised, post) (lower-step places edges matched raised counts waiting (edge_of node out) behind p fits));
            raised = rw w.self-is (ap (λ r. r.items) w.lower.ensures.raised ∙ c.loop-out.invariant.raised);
            busy = rw w.self-is (rw (matched-is, waiting-is, post) (lower-busy places edges matched raised counts waiting (edge_of node out) behind p fits ∙ c.loop-out.invariant.busy));
            reached = rw w.self-is (w.lower.ensures.reached ∙ c.loop-out.invariant.reached);
            capacity = rw w.self-is (w.lower.ensures.capacity ∙ c.loop-out.invariant.capacity);
            fits = let m = w.meter-is in let t = w.tick.ensures in omega arith;
            counted = let m = w.meter-is in let t = w.tick.ensures in let f = c.loop-out.invariant.fits in let before = c.loop-out.invariant.counted in omega arith;
          }
      | else-is_live w ↦
          let gone : is_live places out ≡ false = ap (λ (ps : List Place). is_live ps out) (sym c.deref.ensures.value) ∙ sym c.is_live.ensures ∙ w.if-is_live.false in
          let pending = left-gone places node outs i none low gone in
          record {
            pruning = rw w.self-is (subst (Pruning places edges matched raised counts waiting) pending c.loop-out.invariant.pruning);
            raised = rw w.self-is c.loop-out.invariant.raised;
            busy = rw w.self-is c.loop-out.invariant.busy;
            reached = rw w.self-is c.loop-out.invariant.reached;
            capacity = rw w.self-is c.loop-out.invariant.capacity;
            fits = let m = w.meter-is in let f = c.loop-out.invariant.fits in omega arith;
            counted = let m = w.meter-is in let same_len = ap length pending in let before = c.loop-out.invariant.counted in omega arith;
          }
    ]

pub index-requires : goal.index-requires
index-requires g c = omega (arith, c.requires.within, c.args.graph.now.leaving.ok.0)

pub returns-clause-pruning : goal.returns-clause-pruning
returns-clause-pruning g c =
    let places = c.args.graph.now.places.items in
    let leaving = c.args.graph.now.leaving.items in
    let s = c.loop-out.self in
    subst (λ (outs : List Out). Pruning places (edges_from places 0 leaving) s.matched.items s.raised.items s.counts.items s.waiting.items (edges_left places c.args.node outs))
    (drop_all c.loop-out.out-index c.outs-outs.result.now c.loop-out-test.false) c.loop-out.invariant.pruning

pub returns-clause-raised : goal.returns-clause-raised
returns-clause-raised g c = c.loop-out.invariant.raised

pub returns-clause-busy : goal.returns-clause-busy
returns-clause-busy g c = c.loop-out.invariant.busy

pub returns-clause-capacity : goal.returns-clause-capacity
returns-clause-capacity g c = c.loop-out.invariant.capacity

pub returns-clause-reached : goal.returns-clause-reached
returns-clause-reached g c = c.loop-out.invariant.reached

pub lower-requires-clause-waiter_within : goal.lower-requires-clause-waiter_within
lower-requires-clause-waiter_within g c =
    let places = c.args.graph.now.places.items in
    let leaving = c.args.graph.now.leaving.items in
    let node = c.args.node in
    let outs = c.outs-outs.result.now in
    let i = c.loop-out.out-index in
    let none : Out = record { head = 0; waiter = 0; post = 0; stamp = 0 } in
    let out : Out = get_or outs i none in
    let same : outs ≡ get_or leaving node [] = c.outs-outs.ensures ∙ c.index.ensures ∙ get_or_default leaving node c.index.result.now [] c.requires.within in
    let live : is_live places out ≡ true = ap (λ (ps : List Place). is_live ps out) (sym c.deref.ensures.value) ∙ sym c.is_live.ensures ∙ c.if-is_live.true in
    let fits = edge-fits places leaving node i outs none c.requires.fit same c.loop-out-test.true live in
    let placed = post-placed places out.waiter out.post fits in
    omega (arith, placed, c.loop-out.invariant.pruning.counts_len)

pub lower-requires-clause-waiter_marked : goal.lower-requires-clause-waiter_marked
lower-requires-clause-waiter_marked g c =
    let places = c.args.graph.now.places.items in
    let leaving = c.args.graph.now.leaving.items in
    let node = c.args.node in
    let outs = c.outs-outs.result.now in
    let i = c.loop-out.out-index in
    let none : Out = record { head = 0; waiter = 0; post = 0; stamp = 0 } in
    let out : Out = get_or outs i none in
    let same : outs ≡ get_or leaving node [] = c.outs-outs.ensures ∙ c.index.ensures ∙ get_or_default leaving node c.index.result.now [] c.requires.within in
    let live : is_live places out ≡ true = ap (λ (ps : List Place). is_live ps out) (sym c.deref.ensures.value) ∙ sym c.is_live.ensures ∙ c.if-is_live.true in
    let fits = edge-fits places leaving node i outs none c.requires.fit same c.loop-out-test.true live in
    let placed = post-placed places out.waiter out.post fits in
    omega (arith, placed, c.loop-out.invariant.pruning.matched_len)

pub lower-requires-clause-post_within : goal.lower-requires-clause-post_within
lower-requires-clause-post_within g c =
    let places = c.args.graph.now.places.items in
    let leaving = c.args.graph.now.leaving.items in
    let node = c.args.node in
    let outs = c.outs-outs.result.now in
    let i = c.loop-out.out-index in
    let none : Out = record { head = 0; waiter = 0; post = 0; stamp = 0 } in
    let out : Out = get_or outs i none in
    let same : outs ≡ get_or leaving node [] = c.outs-outs.ensures ∙ c.index.ensures ∙ get_or_default leaving node c.index.result.now [] c.requires.within in
    let live : is_live places out ≡ true = ap (λ (ps : List Place). is_live ps out) (sym c.deref.ensures.value) ∙ sym c.is_live.ensures ∙ c.if-is_live.true in
    let fits = edge-fits places leaving node i outs none c.requires.fit same c.loop-out-test.true live in
    let len = c.loop-out.invariant.pruning.row_len out.waiter in
    omega (arith, fits, len, c.from.ensures)

pub lower-requires-clause-counted : goal.lower-requires-clause-counted
lower-requires-clause-counted g c =
    let places = c.args.graph.now.places.items in
    let leaving = c.args.graph.now.leaving.items in
    let node = c.args.node in
    let edges : List Edge = edges_from places 0 leaving in
    let outs = c.outs-outs.result.now in
    let i = c.loop-out.out-index in
    let none : Out = record { head = 0; waiter = 0; post = 0; stamp = 0 } in
    let out : Out = get_or outs i none in
    let low = c.loop-out-test.true in
    let same : outs ≡ get_or leaving node [] = c.outs-outs.ensures ∙ c.index.ensures ∙ get_or_default leaving node c.index.result.now [] c.requires.within in
    let live : is_live places out ≡ true = ap (λ (ps : List Place). is_live ps out) (sym c.deref.ensures.value) ∙ sym c.is_live.ensures ∙ c.if-is_live.true in
    let fits = edge-fits places leaving node i outs none c.requires.fit same low live in
    let s = c.loop-out.self in
    let behind = edges_left places node (drop (i + 1) outs) in
    let p : Pruning places edges s.matched.items s.raised.items s.counts.items s.waiting.items (edge_of node out ∷ behind) =
    subst (Pruning places edges s.matched.items s.raised.items s.counts.items s.waiting.items) (left-live places node outs i none low live) c.loop-out.invariant.pruning in
    subst (λ post. 1 ≤ count_at s.counts.items out.waiter post) (sym c.from.ensures) (lower-some places edges s.matched.items s.raised.items s.counts.items s.waiting.items (edge_of node out) behind p fits)

pub lower-requires-clause-room : goal.lower-requires-clause-room
lower-requires-clause-room g c = omega (arith, c.loop-out.invariant.busy, c.loop-out.invariant.capacity, c.requires.room)
