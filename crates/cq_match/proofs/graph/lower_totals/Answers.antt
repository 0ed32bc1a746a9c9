use Rattle.std.proofs.Common.{◌≡◌, ℕ, true, false, ◌+◌, ◌-◌, ◌<◌, ◌∷◌, [], List, length, get_or, set, drop, sym, ap, ◌∙◌, subst, arith, count_by}
use Rattle.std.specs.List.{All}
use Rattle.std.proofs.lemmas.List.{get_or_default, length-set, drop_all}
use Rattle.cq_match.specs.declared.graph.Out.{Out}
use Rattle.cq_match.specs.Steps.Kept.{is_live, edge_of, edges_left, count_at}
use Rattle.cq_match.proofs.Edges.{left-live, left-gone}
use Rattle.cq_match.proofs.Rows.{row, row-len}
use Rattle.cq_match.proofs.Going.{Lowered, Counted, row-placed, one-left, lowered-step}
use Rattle.cq_match.proofs.graph.lower_totals.Goals as goal
use Rattle.cq_match.specs.Graph.{leads_to}
use Rattle.cq_match.proofs.graph.lower_totals.Goals.{then-is_live, else-is_live}

pub index_mut-requires : goal.index_mut-requires
index_mut-requires g c =
    let outs = c.outs-outs.result.now in
    let none : Out = record { head = 0; waiter = 0; post = 0; stamp = 0 } in
    let out : Out = get_or outs c.loop-out.out-index none in
    let same : outs ≡ get_or c.args.leaving.now c.args.node [] = c.outs-outs.ensures ∙ c.index-leaving-node.is ∙ get_or_default c.args.leaving.now c.args.node c.index-leaving-node.result [] c.requires.within in
    let live : is_live c.args.places.now out ≡ true = sym c.is_live.ensures ∙ c.if-is_live.true in
    let fits : out.post < length (row c.args.totals.now.items out.waiter) =
    subst (All (λ (o : Out). is_live c.args.places.now o ≡ true → o.post < length (row c.args.totals.now.items o.waiter))) (sym same) c.requires.fit c.loop-out.out-index none c.loop-out-test.true live in
    let low = row-placed c.args.totals.now.items out.waiter out.post fits in
    let len = c.loop-out.invariant.len in
    omega (arith, c.loop-out.totals.ok.0)

pub lower-requires-clause-within : goal.lower-requires-clause-within
lower-requires-clause-within g c =
    let outs = c.outs-outs.result.now in
    let none : Out = record { head = 0; waiter = 0; post = 0; stamp = 0 } in
    let out : Out = get_or outs c.loop-out.out-index none in
    let same : outs ≡ get_or c.args.leaving.now c.args.node [] = c.outs-outs.ensures ∙ c.index-leaving-node.is ∙ get_or_default c.args.leaving.now c.args.node c.index-leaving-node.result [] c.requires.within in
    let live : is_live c.args.places.now out ≡ true = sym c.is_live.ensures ∙ c.if-is_live.true in
    let fits : out.post < length (row c.args.totals.now.items out.waiter) =
    subst (All (λ (o : Out). is_live c.args.places.now o ≡ true → o.post < length (row c.args.totals.now.items o.waiter))) (sym same) c.requires.fit c.loop-out.out-index none c.loop-out-test.true live in
    let low = row-placed c.args.totals.now.items out.waiter out.post fits in
    let len = c.loop-out.invariant.len in
    let rows = c.loop-out.invariant.rows out.waiter in
    let at = ap length (c.index_mut.ensures.value ∙ get_or_default c.loop-out.totals.items out.waiter c.index_mut.result.now [] (omega arith)) in
    let post = c.from.ensures in
    omega arith

pub lower-requires-clause-counted : goal.lower-requires-clause-counted
lower-requires-clause-counted g c =
    let places = c.args.places.now in
    let node = c.args.node in
    let outs = c.outs-outs.result.now in
    let i = c.loop-out.out-index in
    let none : Out = record { head = 0; waiter = 0; post = 0; stamp = 0 } in
    let out : Out = get_or outs i none in
    let same : outs ≡ get_or c.args.leaving.now node [] = c.outs-outs.ensures ∙ c.index-leaving-node.is ∙ get_or_default c.args.leaving.now node c.index-leaving-node.result [] c.requires.within in
    let live : is_live places out ≡ true = sym c.is_live.ensures ∙ c.if-is_live.true in
    let fits : out.post < length (row c.args.totals.now.items out.waiter) =
    subst (All (λ (o : Out). is_live places o ≡ true → o.post < length (row c.args.totals.now.items o.waiter))) (sym same) c.requires.fit i none c.loop-out-test.true live in
    let low = row-placed c.args.totals.now.items out.waiter out.post fits in
    let len = c.loop-out.invariant.len in
    let all = edges_left places node outs in
    let behind = edges_left places node (drop (i + 1) outs) in
    let pending = left-live places node outs i none c.loop-out-test.true live in
    let counted : Counted c.args.totals.now.items all = subst (λ (os : List Out). Counted c.args.totals.now.items (edges_left places node os)) (sym same) c.requires.counted in
    let l : Lowered c.args.totals.now.items c.loop-out.totals.items all (edge_of node out ∷ behind) = subst (Lowered c.args.totals.now.items c.loop-out.totals.items all) pending c.loop-out.invariant.lowered in
    let one = one-left c.args.totals.now.items c.loop-out.totals.items all behind (edge_of node out) counted l in
    let at = ap (λ (r : List ℕ). get_or r out.post 0) (c.index_mut.ensures.value ∙ get_or_default c.loop-out.totals.items out.waiter c.index_mut.result.now [] (omega arith)) in
    let post = ap (λ (k : ℕ). get_or c.index_mut.result.now k 0) c.from.ensures in
    omega arith

pub loop-out-preserved : goal.loop-out-preserved
loop-out-preserved g c =
    let places = c.args.places.now in
    let node = c.args.node in
    let outs = c.outs-outs.result.now in
    let i = c.loop-out.out-index in
    let none : Out = record { head = 0; waiter = 0; post = 0; stamp = 0 } in
    let out : Out = get_or outs i none in
    let same : outs ≡ get_or c.args.leaving.now node [] = c.outs-outs.ensures ∙ c.index-leaving-node.is ∙ get_or_default c.args.leaving.now node c.index-leaving-node.result [] c.requires.within in
    let before = c.args.totals.now.items in
    let totals = c.loop-out.totals.items in
    let all = edges_left places node outs in
    let behind = edges_left places node (drop (i + 1) outs) in
    elim c.if-is_live.branch [
      | then-is_live w ↦
          let live : is_live places out ≡ true = sym c.is_live.ensures ∙ w.if-is_live.true in
          let fits : out.post < length (row before out.waiter) =
          subst (All (λ (o : Out). is_live places o ≡ true → o.post < length (row before o.waiter))) (sym same) c.requires.fit i none c.loop-out-test.true live in
          let low = row-placed before out.waiter out.post fits in
          let len = c.loop-out.invariant.len in
          let rows = c.loop-out.invariant.rows out.waiter in
          let pending = left-live places node outs i none c.loop-out-test.true live in
          let counted : Counted before all = subst (λ (os : List Out). Counted before (edges_left places node os)) (sym same) c.requires.counted in
          let l : Lowered before totals all (edge_of node out ∷ behind) = subst (Lowered before totals all) pending c.loop-out.invariant.lowered in
          let at : w.index_mut.result.now ≡ row totals out.waiter = w.index_mut.ensures.value ∙ get_or_default totals out.waiter w.index_mut.result.now [] (omega arith) in
          let post : w.from.result ≡ out.post = w.from.ensures in
          let now : w.lower.new.self ≡ set (row totals out.waiter) out.post (count_at totals out.waiter out.post - 1) = rw (← at, ← post) w.lower.ensures.lowered in
          record {
            len = rw (w.totals-is, now) (length-set totals out.waiter (set (row totals out.waiter) out.post (count_at totals out.waiter out.post - 1)) ∙ len);
            rows = rw (w.totals-is, now) (λ n. row-len totals out.waiter out.post (count_at totals out.waiter out.post - 1) n ∙ c.loop-out.invariant.rows n);
            lowered = rw (w.totals-is, now) (lowered-step before totals all behind (edge_of node out) counted (omega arith) (omega arith) l);
          }
      | else-is_live w ↦
          let gone : is_live places out ≡ false = sym c.is_live.ensures ∙ w.if-is_live.false in
          let pending = left-gone places node outs i none c.loop-out-test.true gone in
          record {
            len = rw w.totals-is c.loop-out.invariant.len;
            rows = rw w.totals-is c.loop-out.invariant.rows;
            lowered = rw w.totals-is (subst (Lowered before totals all) pending c.loop-out.invariant.lowered);
          }
    ]

pub returns-clause-len : goal.returns-clause-len
returns-clause-len g c = c.loop-out.invariant.len

pub returns-clause-rows : goal.returns-clause-rows
returns-clause-rows g c = c.loop-out.invariant.rows

pub returns-clause-lowered : goal.returns-clause-lowered
returns-clause-lowered g c n k =
    let places = c.args.places.now in
    let node = c.args.node in
    let outs = c.outs-outs.result.now in
    let same : outs ≡ get_or c.args.leaving.now node [] = c.outs-outs.ensures ∙ c.index-leaving-node.is ∙ get_or_default c.args.leaving.now node c.index-leaving-node.result [] c.requires.within in
    let none = ap (λ (os : List Out). count_by (leads_to n k) (edges_left places node os)) (drop_all c.loop-out.out-index outs c.loop-out-test.false) in
    let all = ap (λ (os : List Out). count_by (leads_to n k) (edges_left places node os)) same in
    let lowered = c.loop-out.invariant.lowered n k in
    omega (arith, none, all, lowered)
