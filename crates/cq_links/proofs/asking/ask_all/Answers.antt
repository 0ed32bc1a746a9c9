use Rattle.std.proofs.Common.{◌≡◌, ◌+◌, length, take, refl, sym, ap, ◌∙◌, arith}
use Rattle.std.specs.List.{sum_by}
use Rattle.std.proofs.lemmas.List.Sums.{sum_by_more}
use Rattle.std.proofs.lemmas.Option.{slice_get_read}
use Rattle.cq_atom.specs.Atom.{AtomRecord}
use Rattle.cq_index.specs.Index.{candidates_of}
use Rattle.cq_links.specs.Steps.Asking.{edge_of}
use Rattle.cq_links.proofs.Adding.{IsAnswerBefore, adds_nothing, none_before, more_answers, all_answers, one_number}
use Rattle.cq_links.proofs.asking.ask_all.Goals as goal

pub loop-number-init : goal.loop-number-init
loop-number-init g c = record {
  grown = adds_nothing (IsAnswerBefore (edge_of c.args.side c.args.place) c.args.index.now c.args.atoms.now 0) c.args.edges.now.items (none_before (edge_of c.args.side c.args.place) c.args.index.now c.args.atoms.now);
  counted = (let fits = c.count-counted.type_inv in omega (arith, c.count-counted.ensures));
}

pub loop-number-preserved : goal.loop-number-preserved
loop-number-preserved g c =
    let f = λ (atom : AtomRecord). length (candidates_of c.args.index.now atom) in
    let i = c.loop-number.number in
    let atoms = c.args.atoms.now in
    let one_more : sum_by f (take (i + 1) atoms) ≡ sum_by f (take i atoms) + f c.index-atoms-number.result = sum_by_more f atoms i c.index-atoms-number.result c.loop-number-test.true ∙ ap (λ a. sum_by f (take i atoms) + f a) (sym c.index-atoms-number.is) in
    record {
      grown = more_answers (edge_of c.args.side c.args.place) c.args.index.now atoms i c.index-atoms-number.result c.args.edges.now.items c.loop-number.edges.items c.ask.new.edges.items
          (one_number c.args.side c.args.place) (slice_get_read atoms _ i c.index-atoms-number.result refl c.loop-number-test.true c.index-atoms-number.is) c.loop-number.invariant.grown c.in_ok-ask.ensures.edges;
      counted = omega (arith, one_more, c.in_ok-ask.ensures.ticks, c.loop-number.invariant.counted);
    }

pub returns-clause-edges : goal.returns-clause-edges
returns-clause-edges g c = all_answers (edge_of c.args.side c.args.place) c.args.index.now c.args.atoms.now c.loop-number.number c.args.edges.now.items c.loop-number.edges.items (omega arith) c.loop-number.invariant.grown
