use Rattle.std.proofs.Common.{◌≡◌, ℕ, false, ◌++◌, ◌∷◌, [], List, length, sym, ap, ◌∙◌, arith}
use Rattle.std.proofs.lemmas.List.{get_or_read}
use Rattle.cq_atom.specs.declared.edge.Edge.{Edge}
use Rattle.cq_match.specs.Steps.Settle.{stands}
use Rattle.cq_match.specs.Steps.Kept.{edges_from}
use Rattle.cq_match.proofs.Felling.{felling-down, felling-up}
use Rattle.cq_match.proofs.Checking.{settled-end}
use Rattle.cq_match.proofs.marks.Marks.fell.Goals as goal
use Rattle.cq_match.proofs.marks.Marks.fell.Goals.{then-index, else-index}

pub prune-requires-clause-pruning : goal.prune-requires-clause-pruning
prune-requires-clause-pruning g c =
    let places = c.args.graph.now.places.items in
    let edges : List Edge = edges_from places 0 c.args.graph.now.leaving.items in
    let s = c.args.self.now in
    let node = c.args.node in
    let q = c.requires in
    let read : stands s.matched.items node ≡ c.index.result.now = sym (get_or_read s.matched.items node c.index.result.now (let l = q.marks in let p = q.placed in omega arith) c.index.ensures false) in
    elim c.if-index.branch [
      | then-index w ↦
          let waits : w.push_reserved.new.self.items ≡ node ∷ [] = w.push_reserved.ensures.items ∙ ap (λ (ns : List ℕ). ns ++ node ∷ []) q.none_waits in
          rw w.self-is (rw waits (felling-up places edges s.matched.items s.raised.items s.counts.items node q.same q.marks q.counting q.able q.fed q.unable q.most q.placed))
      | else-index w ↦
          rw w.self-is (rw q.none_waits (felling-down places edges s.matched.items s.raised.items s.counts.items node q.same q.marks q.counting q.able q.fed q.unable q.most (read ∙ w.if-index.false)))
    ]

pub returns-clause-settled : goal.returns-clause-settled
returns-clause-settled g c =
    let places = c.args.graph.now.places.items in
    let edges : List Edge = edges_from places 0 c.args.graph.now.leaving.items in
    let s = c.prune.new.self in
    settled-end places edges s.matched.items s.raised.items s.counts.items s.waiting.items c.prune.ensures.pruning (ap length c.prune.ensures.none)
