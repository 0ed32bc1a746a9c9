use Rattle.std.proofs.Common.{◌≡◌, ℕ, Bool, true, false, ◌<◌, ◌∷◌, ◌++◌, [], List, length, get_or, set, refl, sym, ap, ◌∙◌, subst, arith}
use Rattle.std.proofs.lemmas.List.{get_or_read}
use Rattle.cq_atom.specs.declared.edge.Edge.{Edge}
use Rattle.cq_match.specs.declared.graph.Place.{Place}
use Rattle.cq_match.specs.declared.graph.Out.{Out}
use Rattle.cq_match.specs.Steps.Settle.{stands}
use Rattle.cq_match.specs.Steps.Kept.{edges_left, edges_from, Counting, Reaches, Reaching}
use Rattle.cq_match.proofs.Edges.{edges-of_node}
use Rattle.cq_match.proofs.Raising.{start-raising, marked-itself}
use Rattle.cq_match.proofs.Reaching.{next-placed, reaching-start, reaching-skip, reaching-step}
use Rattle.cq_match.proofs.marks.Marks.reach.Goals as goal

-- whether the edges of the next node are counted, as the code reads it
next-raised : (places : List Place) (leaving : List (List Out)) (edges : List Edge) (before matched raised : List Bool) (counts : List (List ℕ)) (reached : List ℕ) (index next : ℕ) (read : Bool)
    → Reaching places leaving edges before matched raised counts reached index → index < length reached → next ≡ get_or reached index 0 → read ≡ get_or raised next read → stands raised next ≡ read
next-raised places leaving edges before matched raised counts reached index next read r low is e =
    let placed = next-placed places leaving edges before matched raised counts reached index r low in
    let len = r.raised_len in
    sym (get_or_read raised next read (omega arith) e false)

pub raise_all-requires-clause-counting : goal.raise_all-requires-clause-counting
raise_all-requires-clause-counting g c =
    let places = c.args.graph.now.places.items in
    let leaving = c.args.graph.now.leaving.items in
    let edges : List Edge = edges_from places 0 leaving in
    let s = c.loop-index.self in
    let r = c.loop-index.invariant.reaching in
    let index = c.loop-index.index in
    let next = c.index-next.result.now in
    let low : index < length s.reached.items = omega (arith, s.reached.ok.0) in
    let here : next ≡ get_or s.reached.items index 0 = get_or_read s.reached.items index next low c.index-next.ensures 0 in
    let down : stands s.raised.items next ≡ false = next-raised places leaving edges c.args.self.now.matched.items s.matched.items s.raised.items s.counts.items s.reached.items index next c.index.result.now r low here c.index.ensures ∙ c.if-not-index.true in
    let placed = next-placed places leaving edges c.args.self.now.matched.items s.matched.items s.raised.items s.counts.items s.reached.items index r low in
    let len = r.raised_len in
    subst (Counting places edges (set s.raised.items next true) s.counts.items) (edges-of_node places leaving next)
    (start-raising places edges s.raised.items s.counts.items next r.counting (omega arith) down)

pub loop-index-preserved-then-not-index : goal.loop-index-preserved-then-not-index
loop-index-preserved-then-not-index g c =
    let places = c.args.graph.now.places.items in
    let leaving = c.args.graph.now.leaving.items in
    let edges : List Edge = edges_from places 0 leaving in
    let s = c.loop-index.self in
    let r = c.loop-index.invariant.reaching in
    let index = c.loop-index.index in
    let next = c.index-next.result.now in
    let low : index < length s.reached.items = omega (arith, s.reached.ok.0) in
    let here : next ≡ get_or s.reached.items index 0 = get_or_read s.reached.items index next low c.index-next.ensures 0 in
    let after = c.raise_all.new.self in
    let raised : after.raised.items ≡ set s.raised.items (get_or s.reached.items index 0) true = c.raise_all.ensures.raised ∙ ap (λ m. set s.raised.items m true) here in
    record {
      reaching = rw raised (reaching-step places leaving edges c.args.self.now.matched.items s.matched.items s.raised.items s.counts.items s.reached.items index r low after.matched.items after.counts.items after.reached.items
          (subst (λ (bs : List Bool). Counting places edges bs after.counts.items []) raised c.raise_all.ensures.counting) c.raise_all.ensures.grown
          (subst (λ m. Reaches places after.matched.items (edges_left places m (get_or leaving m []))) here c.raise_all.ensures.reaches));
      up = c.raise_all.ensures.grown.kept c.args.node c.loop-index.invariant.up;
      waiting = c.raise_all.ensures.waiting ∙ c.loop-index.invariant.waiting;
      capacity = c.raise_all.ensures.capacity ∙ c.loop-index.invariant.capacity;
    }

pub loop-index-preserved : goal.loop-index-preserved
loop-index-preserved g c =
    let places = c.args.graph.now.places.items in
    let leaving = c.args.graph.now.leaving.items in
    let edges : List Edge = edges_from places 0 leaving in
    let s = c.loop-index.self in
    let r = c.loop-index.invariant.reaching in
    let index = c.loop-index.index in
    let next = c.index-next.result.now in
    let low : index < length s.reached.items = omega (arith, s.reached.ok.0) in
    let here : next ≡ get_or s.reached.items index 0 = get_or_read s.reached.items index next low c.index-next.ensures 0 in
    let up : stands s.raised.items next ≡ true = next-raised places leaving edges c.args.self.now.matched.items s.matched.items s.raised.items s.counts.items s.reached.items index next c.index.result.now r low here c.index.ensures ∙ c.if-not-index.false in
    record {
      reaching = reaching-skip places leaving edges c.args.self.now.matched.items s.matched.items s.raised.items s.counts.items s.reached.items index r low (ap (stands s.raised.items) (sym here) ∙ up);
      up = c.loop-index.invariant.up;
      waiting = c.loop-index.invariant.waiting;
      capacity = c.loop-index.invariant.capacity;
    }

pub loop-index-init : goal.loop-index-init
loop-index-init g c =
    let places = c.args.graph.now.places.items in
    let leaving = c.args.graph.now.leaving.items in
    let edges : List Edge = edges_from places 0 leaving in
    let before = c.args.self.now.matched.items in
    let counts = c.args.self.now.counts.items in
    let node = c.args.node in
    let q = c.requires in
    let listed : c.push_reserved.new.self.items ≡ node ∷ [] = c.push_reserved.ensures.items ∙ ap (λ (ns : List ℕ). ns ++ node ∷ []) q.none in
    let start = reaching-start places leaving edges before counts node q.marks q.counting q.able q.placed q.down q.can in
    record {
      reaching = rw (listed, q.same) start;
      up = marked-itself before node (let len = q.marks in let low = q.placed in omega arith);
      waiting = refl;
      capacity = c.push_reserved.ensures.capacity;
    }
