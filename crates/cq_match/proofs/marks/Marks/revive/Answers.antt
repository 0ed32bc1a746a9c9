use Rattle.std.proofs.Common.{◌≡◌, ℕ, Bool, ◌<◌, ◌≤◌, [], List, length, get_or, count_by, vec_capacity, refl, sym, ap, ◌∙◌, subst, arith}
use Rattle.std.specs.List.{All}
use Rattle.std.proofs.lemmas.List.{get_or_read}
use Rattle.std.proofs.lemmas.List.Sums.{count_by-le-length}
use Rattle.cq_atom.specs.declared.edge.Edge.{Edge}
use Rattle.cq_match.specs.declared.graph.Place.{Place}
use Rattle.cq_match.specs.Steps.Kept.{edges_from, busy}
use Rattle.cq_match.proofs.Checking.{checking-start, checking-step, checking-busy, checking-end, settled-end}
use Rattle.cq_match.proofs.marks.Marks.revive.Goals as goal

pub loop-index-init : goal.loop-index-init
loop-index-init g c =
    let places = c.args.graph.now.places.items in
    let leaving = c.args.graph.now.leaving.items in
    let edges : List Edge = edges_from places 0 leaving in
    let before = c.args.self.now.matched.items in
    let s = c.reach.new.self in
    let r = c.reach.ensures.reaching in
    let waits : s.waiting.items ≡ [] = ap (λ w. w.items) c.reach.ensures.waiting ∙ c.requires.none_waits in
    record {
      checking = rw waits (checking-start places leaving before s.matched.items s.raised.items s.counts.items s.reached.items c.args.node r c.reach.ensures.up c.requires.down c.requires.closed c.requires.others);
      reached = refl;
      room =
          let cap : vec_capacity s.waiting ≡ vec_capacity c.args.self.now.waiting = ap vec_capacity c.reach.ensures.waiting in
          let none : length s.waiting.items ≡ 0 = ap length waits in
          let most : count_by (λ mark. mark) s.matched.items ≤ length s.matched.items = count_by-le-length (λ (mark : Bool). mark) s.matched.items in
          let len = r.matched_len in
          let room = c.requires.waiting_room in
          omega arith;
      capacity = refl;
    }

-- the next node has a place
next-low : (places : List Place) (reached all : List ℕ) (index next : ℕ) → reached ≡ all → All (λ n. n < length places) all → index < length reached → next ≡ get_or reached index next → (get_or reached index 0 < length places) × (next ≡ get_or reached index 0)
next-low places reached all index next same placed low e =
    let here = get_or_read reached index next low e 0 in
    (subst (λ (ns : List ℕ). All (λ n. n < length places) ns) (sym same) placed index 0 low, here)

pub check-requires-clause-marked : goal.check-requires-clause-marked
check-requires-clause-marked g c =
    let s = c.loop-index.self in
    let places = c.args.graph.now.places.items in
    let same : s.reached.items ≡ c.reach.new.self.reached.items = ap (λ w. w.items) c.loop-index.invariant.reached in
    let low : c.loop-index.index < length s.reached.items = let all = ap length same in omega (arith, c.reach.new.self.reached.ok.0) in
    let n = next-low places s.reached.items c.reach.new.self.reached.items c.loop-index.index c.index-next.result.now same c.reach.ensures.reaching.placed low c.index-next.ensures in
    let len = c.loop-index.invariant.checking.matched_len in
    omega (arith, n.0, n.1)

pub check-requires-clause-within : goal.check-requires-clause-within
check-requires-clause-within g c =
    let s = c.loop-index.self in
    let places = c.args.graph.now.places.items in
    let same : s.reached.items ≡ c.reach.new.self.reached.items = ap (λ w. w.items) c.loop-index.invariant.reached in
    let low : c.loop-index.index < length s.reached.items = let all = ap length same in omega (arith, c.reach.new.self.reached.ok.0) in
    let n = next-low places s.reached.items c.reach.new.self.reached.items c.loop-index.index c.index-next.result.now same c.reach.ensures.reaching.placed low c.index-next.ensures in
    let len = c.loop-index.invariant.checking.counting.counts_len in
    omega (arith, n.0, n.1)

pub loop-index-preserved : goal.loop-index-preserved
loop-index-preserved g c =
    let s = c.loop-index.self in
    let places = c.args.graph.now.places.items in
    let edges : List Edge = edges_from places 0 c.args.graph.now.leaving.items in
    let inv = c.loop-index.invariant in
    let index = c.loop-index.index in
    let same : s.reached.items ≡ c.reach.new.self.reached.items = ap (λ w. w.items) inv.reached in
    let low : index < length s.reached.items = let all = ap length same in omega (arith, c.reach.new.self.reached.ok.0) in
    let n = next-low places s.reached.items c.reach.new.self.reached.items index c.index-next.result.now same c.reach.ensures.reaching.placed low c.index-next.ensures in
    let here : c.index-next.result.now ≡ get_or s.reached.items index 0 = n.1 in
    let step = checking-step places edges s.matched.items s.raised.items s.counts.items s.waiting.items s.reached.items index inv.checking low n.0 in
    let busy_same = checking-busy places edges s.matched.items s.raised.items s.counts.items s.waiting.items s.reached.items index inv.checking low n.0 in
    let after = c.check.new.self in
    record {
      checking = rw (c.check.ensures.matched, c.check.ensures.waiting, c.check.ensures.raised, c.check.ensures.counts, c.check.ensures.reached, here) step;
      reached = c.check.ensures.reached ∙ inv.reached;
      room =
          let b : busy after.matched.items after.waiting.items ≡ busy s.matched.items s.waiting.items = rw (c.check.ensures.matched, c.check.ensures.waiting, here) busy_same in
          let r = inv.room in let k = c.check.ensures.capacity in omega arith;
      capacity = c.check.ensures.capacity ∙ inv.capacity;
    }

pub prune-requires-clause-pruning : goal.prune-requires-clause-pruning
prune-requires-clause-pruning g c =
    let s = c.loop-index.self in
    let places = c.args.graph.now.places.items in
    let edges : List Edge = edges_from places 0 c.args.graph.now.leaving.items in
    let inv = c.loop-index.invariant in
    let same : s.reached.items ≡ c.reach.new.self.reached.items = ap (λ w. w.items) inv.reached in
    let end : length s.reached.items ≤ c.loop-index.index = let all = ap length same in omega (arith, c.reach.new.self.reached.ok.0) in
    checking-end places edges s.matched.items s.raised.items s.counts.items s.waiting.items s.reached.items c.loop-index.index inv.checking end

pub returns-clause-settled : goal.returns-clause-settled
returns-clause-settled g c =
    let places = c.args.graph.now.places.items in
    let edges : List Edge = edges_from places 0 c.args.graph.now.leaving.items in
    let s = c.prune.new.self in
    settled-end places edges s.matched.items s.raised.items s.counts.items s.waiting.items c.prune.ensures.pruning (ap length c.prune.ensures.none)
