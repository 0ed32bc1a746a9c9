use Rattle.std.proofs.Common.{◌≡◌, true, false, if◌then◌else◌, ◌+◌, ◌<◌, ◌∷◌, ◌++◌, [], List, length, get_or, set, take, drop, sym, ap, ◌∙◌, subst, arith, ℕ}
use Rattle.std.proofs.lemmas.List.{get_or_default, take_all, drop_all}
use Rattle.cq_atom.specs.declared.edge.Edge.{Edge}
use Rattle.cq_match.specs.declared.graph.Place.{Place}
use Rattle.cq_match.specs.declared.graph.Out.{Out}
use Rattle.cq_match.specs.Steps.Kept.{free, place_at, is_live, edge_of, edges_left, edges_from, Counting, Reaches, count_at}
use Rattle.cq_match.proofs.Rows.{post-placed}
use Rattle.cq_match.proofs.Edges.{left-live, left-gone}
use Rattle.cq_match.proofs.Fits.{edge-fits}
use Rattle.cq_match.proofs.Raising.{raise-counting, marks-left, grown-more, taken, take-grown, take-reaches_more, first-live, first-gone, raise-fits}
use Rattle.cq_match.proofs.marks.Marks.raise_all.Goals as goal
use Rattle.cq_match.proofs.marks.Marks.raise_all.Goals.{then-is_live, else-is_live}

pub raise-requires-clause-room : goal.raise-requires-clause-room
raise-requires-clause-room g c = λ able down.
    let places = c.args.graph.now.places.items in
    let leaving = c.args.graph.now.leaving.items in
    let node = c.args.node in
    let outs = c.outs-outs.result.now in
    let i = c.loop-out.out-index in
    let none : Out = record { head = 0; waiter = 0; post = 0; stamp = 0 } in
    let out : Out = get_or outs i none in
    let low : i < length outs = c.loop-out-test.true in
    let same : outs ≡ get_or leaving node [] = c.outs-outs.ensures ∙ c.index.ensures ∙ get_or_default leaving node c.index.result.now [] c.requires.within in
    let live : is_live places out ≡ true = ap (λ (ps : List Place). is_live ps out) (sym c.deref.ensures.value) ∙ sym c.is_live.ensures ∙ c.if-is_live.true in
    let placed = post-placed places out.waiter out.post (edge-fits places leaving node i outs none c.requires.fit same low live) in
    let grown = c.loop-out.invariant.grown in
    let len = grown.len in
    let size = grown.size in
    let lists = c.requires.lists in
    let fewer = marks-left c.loop-out.self.matched.items out.waiter (omega arith) down in
    let room = c.requires.room in
    let cap = c.loop-out.invariant.capacity in
    omega arith

pub loop-out-preserved : goal.loop-out-preserved
loop-out-preserved g c =
    let places = c.args.graph.now.places.items in
    let leaving = c.args.graph.now.leaving.items in
    let node = c.args.node in
    let edges : List Edge = edges_from places 0 leaving in
    let outs = c.outs-outs.result.now in
    let i = c.loop-out.out-index in
    let none : Out = record { head = 0; waiter = 0; post = 0; stamp = 0 } in
    let out : Out = get_or outs i none in
    let low : i < length outs = c.loop-out-test.true in
    let same : outs ≡ get_or leaving node [] = c.outs-outs.ensures ∙ c.index.ensures ∙ get_or_default leaving node c.index.result.now [] c.requires.within in
    let matched = c.loop-out.self.matched.items in
    let raised = c.loop-out.self.raised.items in
    let counts = c.loop-out.self.counts.items in
    let reached = c.loop-out.self.reached.items in
    let behind = edges_left places node (drop (i + 1) outs) in
    let inv = c.loop-out.invariant in
    elim c.if-is_live.branch [
      | then-is_live w ↦
          let live : is_live places out ≡ true = ap (λ (ps : List Place). is_live ps out) (sym c.deref.ensures.value) ∙ sym c.is_live.ensures ∙ w.if-is_live.true in
          let fits = edge-fits places leaving node i outs none c.requires.fit same low live in
          let placed = post-placed places out.waiter out.post fits in
          let p : Counting places edges raised counts (edge_of node out ∷ behind) = subst (Counting places edges raised counts) (left-live places node outs i none low live) inv.counting in
          let post : w.from.result ≡ out.post = w.from.ensures in
          let place : w.index-then-is_live.result.now ≡ place_at places out.waiter = w.index-then-is_live.ensures ∙ get_or_default places out.waiter w.index-then-is_live.result.now free placed in
          let able : w.index-then-is_live.result.now.able ≡ (place_at places out.waiter).able = ap (λ (q : Place). q.able) place in
          let lists : length matched ≡ length places = inv.grown.len ∙ c.requires.lists in
          let inside : out.waiter < length matched = omega arith in
          let step = take-grown places matched reached out.waiter lists inside in
          record {
            counting = rw w.self-is (rw (w.raise.ensures.counts, w.raise.ensures.raised, post) (raise-counting places edges raised counts (edge_of node out) behind p fits));
            grown = rw w.self-is (rw (w.raise.ensures.matched, w.raise.ensures.reached, able)
                (grown-more places c.args.self.now.matched.items c.args.self.now.reached.items matched reached
                (if taken places matched out.waiter then set matched out.waiter true else matched) (if taken places matched out.waiter then reached ++ out.waiter ∷ [] else reached) inv.grown step));
            reaches = rw w.self-is (rw (w.raise.ensures.matched, able, first-live places node outs i none low live)
                (take-reaches_more places matched (edges_left places node (take i outs)) (edge_of node out) inside inv.reaches));
            raised = rw w.self-is (ap (λ r. r.items) w.raise.ensures.raised ∙ inv.raised);
            waiting = rw w.self-is (w.raise.ensures.waiting ∙ inv.waiting);
            capacity = rw w.self-is (w.raise.ensures.capacity ∙ inv.capacity);
          }
      | else-is_live w ↦
          let gone : is_live places out ≡ false = ap (λ (ps : List Place). is_live ps out) (sym c.deref.ensures.value) ∙ sym c.is_live.ensures ∙ w.if-is_live.false in
          record {
            counting = rw w.self-is (subst (Counting places edges raised counts) (left-gone places node outs i none low gone) inv.counting);
            grown = rw w.self-is inv.grown;
            reaches = rw w.self-is (subst (Reaches places matched) (sym (first-gone places node outs i none low gone)) inv.reaches);
            raised = rw w.self-is inv.raised;
            waiting = rw w.self-is inv.waiting;
            capacity = rw w.self-is inv.capacity;
          }
    ]

pub returns-clause-reaches : goal.returns-clause-reaches
returns-clause-reaches g c =
    let places = c.args.graph.now.places.items in
    let leaving = c.args.graph.now.leaving.items in
    let node = c.args.node in
    let outs = c.outs-outs.result.now in
    let same : outs ≡ get_or leaving node [] = c.outs-outs.ensures ∙ c.index.ensures ∙ get_or_default leaving node c.index.result.now [] c.requires.within in
    let all : take c.loop-out.out-index outs ≡ outs = take_all c.loop-out.out-index outs c.loop-out-test.false in
    subst (λ (os : List Out). Reaches places c.loop-out.self.matched.items (edges_left places node os)) (all ∙ same) c.loop-out.invariant.reaches

pub index-requires : goal.index-requires
index-requires g c = omega (arith, c.requires.within, c.args.graph.now.leaving.ok.0)

pub index-requires-then-is_live : goal.index-requires-then-is_live
index-requires-then-is_live g c =
    let places = c.args.graph.now.places.items in
    let leaving = c.args.graph.now.leaving.items in
    let node = c.args.node in
    let outs = c.outs-outs.result.now in
    let i = c.loop-out.out-index in
    let none : Out = record { head = 0; waiter = 0; post = 0; stamp = 0 } in
    let out : Out = get_or outs i none in
    let same : outs ≡ get_or leaving node [] = c.outs-outs.ensures ∙ c.index.ensures ∙ get_or_default leaving node c.index.result.now [] c.requires.within in
    let live : is_live places out ≡ true = ap (λ (ps : List Place). is_live ps out) (sym c.deref.ensures.value) ∙ sym c.is_live.ensures ∙ c.if-is_live.true in
    let fits = edge-fits places leaving node i outs none c.requires.fit same c.loop-out-test.true live in
    let placed = post-placed places out.waiter out.post fits in
    omega (arith, placed, c.args.graph.now.places.ok.0)

pub raise-requires-clause-waiter_within : goal.raise-requires-clause-waiter_within
raise-requires-clause-waiter_within g c =
    let places = c.args.graph.now.places.items in
    let leaving = c.args.graph.now.leaving.items in
    let node = c.args.node in
    let outs = c.outs-outs.result.now in
    let i = c.loop-out.out-index in
    let none : Out = record { head = 0; waiter = 0; post = 0; stamp = 0 } in
    let out : Out = get_or outs i none in
    let same : outs ≡ get_or leaving node [] = c.outs-outs.ensures ∙ c.index.ensures ∙ get_or_default leaving node c.index.result.now [] c.requires.within in
    let live : is_live places out ≡ true = ap (λ (ps : List Place). is_live ps out) (sym c.deref.ensures.value) ∙ sym c.is_live.ensures ∙ c.if-is_live.true in
    let fits = edge-fits places leaving node i outs none c.requires.fit same c.loop-out-test.true live in
    let placed = post-placed places out.waiter out.post fits in
    omega (arith, placed, c.loop-out.invariant.counting.counts_len)

pub raise-requires-clause-waiter_marked : goal.raise-requires-clause-waiter_marked
raise-requires-clause-waiter_marked g c =
    let places = c.args.graph.now.places.items in
    let leaving = c.args.graph.now.leaving.items in
    let node = c.args.node in
    let outs = c.outs-outs.result.now in
    let i = c.loop-out.out-index in
    let none : Out = record { head = 0; waiter = 0; post = 0; stamp = 0 } in
    let out : Out = get_or outs i none in
    let same : outs ≡ get_or leaving node [] = c.outs-outs.ensures ∙ c.index.ensures ∙ get_or_default leaving node c.index.result.now [] c.requires.within in
    let live : is_live places out ≡ true = ap (λ (ps : List Place). is_live ps out) (sym c.deref.ensures.value) ∙ sym c.is_live.ensures ∙ c.if-is_live.true in
    let fits = edge-fits places leaving node i outs none c.requires.fit same c.loop-out-test.true live in
    let placed = post-placed places out.waiter out.post fits in
    omega (arith, placed, c.loop-out.invariant.grown.len, c.requires.lists)

pub raise-requires-clause-post_within : goal.raise-requires-clause-post_within
raise-requires-clause-post_within g c =
    let places = c.args.graph.now.places.items in
    let leaving = c.args.graph.now.leaving.items in
    let node = c.args.node in
    let outs = c.outs-outs.result.now in
    let i = c.loop-out.out-index in
    let none : Out = record { head = 0; waiter = 0; post = 0; stamp = 0 } in
    let out : Out = get_or outs i none in
    let same : outs ≡ get_or leaving node [] = c.outs-outs.ensures ∙ c.index.ensures ∙ get_or_default leaving node c.index.result.now [] c.requires.within in
    let live : is_live places out ≡ true = ap (λ (ps : List Place). is_live ps out) (sym c.deref.ensures.value) ∙ sym c.is_live.ensures ∙ c.if-is_live.true in
    let fits = edge-fits places leaving node i outs none c.requires.fit same c.loop-out-test.true live in
    let len = c.loop-out.invariant.counting.row_len out.waiter in
    omega (arith, fits, len, c.from.ensures)

pub raise-requires-clause-fits : goal.raise-requires-clause-fits
raise-requires-clause-fits g c =
    let places = c.args.graph.now.places.items in
    let leaving = c.args.graph.now.leaving.items in
    let node = c.args.node in
    let outs = c.outs-outs.result.now in
    let i = c.loop-out.out-index in
    let none : Out = record { head = 0; waiter = 0; post = 0; stamp = 0 } in
    let out : Out = get_or outs i none in
    let same : outs ≡ get_or leaving node [] = c.outs-outs.ensures ∙ c.index.ensures ∙ get_or_default leaving node c.index.result.now [] c.requires.within in
    let live : is_live places out ≡ true = ap (λ (ps : List Place). is_live ps out) (sym c.deref.ensures.value) ∙ sym c.is_live.ensures ∙ c.if-is_live.true in
    let fits = edge-fits places leaving node i outs none c.requires.fit same c.loop-out-test.true live in
    let edges : List Edge = edges_from places 0 leaving in
    let s = c.loop-out.self in
    let behind = edges_left places node (drop (i + 1) outs) in
    let p : Counting places edges s.raised.items s.counts.items (edge_of node out ∷ behind) =
    subst (Counting places edges s.raised.items s.counts.items) (left-live places node outs i none c.loop-out-test.true live) c.loop-out.invariant.counting in
    let few = raise-fits places edges s.raised.items s.counts.items (edge_of node out) behind p fits 18446744073709551615 c.requires.few in
    subst (λ (post : ℕ). count_at s.counts.items out.waiter post < 18446744073709551615) (sym c.from.ensures) few

pub returns-clause-counting : goal.returns-clause-counting
returns-clause-counting g c =
    let places = c.args.graph.now.places.items in
    let s = c.loop-out.self in
    subst (λ (outs : List Out). Counting places (edges_from places 0 c.args.graph.now.leaving.items) s.raised.items s.counts.items (edges_left places c.args.node outs))
    (drop_all c.loop-out.out-index c.outs-outs.result.now c.loop-out-test.false) c.loop-out.invariant.counting

pub returns-clause-grown : goal.returns-clause-grown
returns-clause-grown g c = c.loop-out.invariant.grown

pub returns-clause-raised : goal.returns-clause-raised
returns-clause-raised g c = c.loop-out.invariant.raised

pub returns-clause-waiting : goal.returns-clause-waiting
returns-clause-waiting g c = c.loop-out.invariant.waiting

pub returns-clause-capacity : goal.returns-clause-capacity
returns-clause-capacity g c = c.loop-out.invariant.capacity
