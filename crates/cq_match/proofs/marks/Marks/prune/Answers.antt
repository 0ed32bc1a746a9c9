use Rattle.std.proofs.Common.{◌≡◌, ℕ, ◌+◌, ◌++◌, ◌∷◌, [], Bool, true, false, List, length, get_or, set, filter, eqb, refl, sym, ap, ◌∙◌, subst, arith}
use Rattle.std.proofs.lemmas.List.{get_or_read, length-append}
use Rattle.cq_atom.specs.declared.edge.Edge.{Edge}
use Rattle.cq_match.specs.declared.graph.Place.{Place}
use Rattle.cq_match.specs.Steps.Settle.{stands}
use Rattle.cq_match.specs.Steps.Kept.{edges_left, edges_from, Pruning}
use Rattle.cq_match.proofs.Edges.{edges-of_node, lowered-less, lost-more, lost-none}
use Rattle.cq_match.proofs.Pruning.{popped-low, skip, start}
use Rattle.cq_match.proofs.marks.Marks.prune.Goals as goal

-- whether the edges of the node are counted, as the code reads it
raised-read : (places : List Place) (edges : List Edge) (matched raised : List Bool) (counts : List (List ℕ)) (waiting rest : List ℕ) (v : ℕ) (read : Bool)
    → Pruning places edges matched raised counts waiting [] → waiting ≡ rest ++ v ∷ [] → read ≡ get_or raised v read → stands raised v ≡ read
raised-read places edges matched raised counts waiting rest v read p at e =
    let low = popped-low places edges matched raised counts waiting rest v p at in
    let len = p.raised_len in
    sym (get_or_read raised v read (omega arith) e false)

pub loop-node-init : goal.loop-node-init
loop-node-init g c =
    let none = lost-none (stands c.args.self.now.raised.items) (edges_from c.args.graph.now.places.items 0 c.args.graph.now.leaving.items) in
    let fits = c.count-counted.type_inv in
    record {
      pruning = c.requires.pruning;
      room = c.requires.room;
      reached = refl;
      capacity = refl;
      less = λ n t. t;
      counted = omega (arith, none, fits, c.count-counted.ensures);
    }

pub lower_all-requires-clause-pruning : goal.lower_all-requires-clause-pruning
lower_all-requires-clause-pruning g c =
    let places = c.args.graph.now.places.items in
    let leaving = c.args.graph.now.leaving.items in
    let edges : List Edge = edges_from places 0 leaving in
    let s = c.loop-node.self in
    let node = c.in-Some.node in
    let p = c.loop-node.invariant.pruning in
    let up : stands s.raised.items node ≡ true = raised-read places edges s.matched.items s.raised.items s.counts.items s.waiting.items c.pop.new.self.items node c.index.result.now p c.in-Some.ensures.items c.index.ensures ∙ c.if-index.true in
    subst (Pruning places edges s.matched.items (set s.raised.items node false) s.counts.items c.pop.new.self.items) (edges-of_node places leaving node)
    (start places edges s.matched.items s.raised.items s.counts.items s.waiting.items c.pop.new.self.items node p c.in-Some.ensures.items up)

pub loop-node-preserved-then-index : goal.loop-node-preserved-then-index
loop-node-preserved-then-index g c =
    let places = c.args.graph.now.places.items in
    let leaving = c.args.graph.now.leaving.items in
    let edges : List Edge = edges_from places 0 leaving in
    let s = c.loop-node.self in
    let first = c.args.self.now.raised.items in
    let node = c.in-Some.node in
    let p = c.loop-node.invariant.pruning in
    let up : stands s.raised.items node ≡ true = raised-read places edges s.matched.items s.raised.items s.counts.items s.waiting.items c.pop.new.self.items node c.index.result.now p c.in-Some.ensures.items c.index.ensures ∙ c.if-index.true in
    let more = lost-more (stands first) s.raised.items node c.loop-node.invariant.less up edges in
    let all : length (filter (λ (e : Edge). eqb e.provider node) edges) ≡ length (edges_left places node (get_or leaving node [])) = ap length (edges-of_node places leaving node) in
    let popped : length s.waiting.items ≡ length c.pop.new.self.items + 1 = ap length c.in-Some.ensures.items ∙ length-append c.pop.new.self.items (node ∷ []) in
    let now = c.lower_all.ensures.raised in
    record {
      pruning = c.lower_all.ensures.pruning;
      room = let b = c.lower_all.ensures.busy in let r = c.loop-node.invariant.room in let k = c.lower_all.ensures.capacity in let m = c.in-Some.ensures.capacity in omega arith;
      reached = c.lower_all.ensures.reached ∙ c.loop-node.invariant.reached;
      capacity = c.lower_all.ensures.capacity ∙ c.in-Some.ensures.capacity ∙ c.loop-node.invariant.capacity;
      less = rw now (λ n t. c.loop-node.invariant.less n (lowered-less s.raised.items node n t));
      counted = rw now (let l = c.lower_all.ensures.counted in let b = c.loop-node.invariant.counted in omega arith);
    }

pub loop-node-preserved : goal.loop-node-preserved
loop-node-preserved g c =
    let places = c.args.graph.now.places.items in
    let leaving = c.args.graph.now.leaving.items in
    let edges : List Edge = edges_from places 0 leaving in
    let s = c.loop-node.self in
    let node = c.in-Some.node in
    let p = c.loop-node.invariant.pruning in
    let down : stands s.raised.items node ≡ false = raised-read places edges s.matched.items s.raised.items s.counts.items s.waiting.items c.pop.new.self.items node c.index.result.now p c.in-Some.ensures.items c.index.ensures ∙ c.if-index.false in
    let popped : length s.waiting.items ≡ length c.pop.new.self.items + 1 = ap length c.in-Some.ensures.items ∙ length-append c.pop.new.self.items (node ∷ []) in
    record {
      pruning = skip places edges s.matched.items s.raised.items s.counts.items s.waiting.items c.pop.new.self.items node p c.in-Some.ensures.items down;
      room = let r = c.loop-node.invariant.room in let m = c.in-Some.ensures.capacity in omega arith;
      reached = c.loop-node.invariant.reached;
      capacity = c.in-Some.ensures.capacity ∙ c.loop-node.invariant.capacity;
      less = c.loop-node.invariant.less;
      counted = c.loop-node.invariant.counted;
    }
