use Rattle.std.proofs.Common.{◌≡◌, ◌++◌, List, codes, string_bytes, subst}
use Rattle.std.specs.List.{join_by, All}
use Rattle.std.proofs.lemmas.List.{take_all}
use Rattle.std.proofs.lemmas.List.Elements.{All-more}
use Rattle.cq_atom.specs.Atom.{AtomRecord}
use Rattle.cq_text.specs.Sound.{IsSoundAtom}
use Rattle.cq_text.specs.Print.{printed_atom}
use Rattle.cq_text.proofs.PrintedItems.{item_more}
use Rattle.cq_text.proofs.printing.push_atoms.Goals as goal

pub loop-place-preserved : goal.loop-place-preserved
loop-place-preserved g c = record {
  printed = item_more printed_atom _ _ _ _ _ _ _ c.loop-place-test.true c.index-atoms-place.is c.loop-place.invariant.printed c.in_ok-push_separator.ensures c.in_ok-push_atom.ensures.printed;
  sound = All-more IsSoundAtom _ _ c.index-atoms-place.result c.loop-place-test.true c.loop-place.invariant.sound (subst IsSoundAtom c.index-atoms-place.is c.in_ok-push_atom.ensures.sound);
}

pub returns-clause-printed : goal.returns-clause-printed
returns-clause-printed g c =
    subst (λ (xs : List AtomRecord). string_bytes c.loop-place.printed ≡ string_bytes c.args.printed.now ++ join_by printed_atom (codes ", ") xs) (take_all c.loop-place.place c.args.atoms.now c.loop-place-test.false) c.loop-place.invariant.printed

pub returns-clause-sound : goal.returns-clause-sound
returns-clause-sound g c = subst (λ (xs : List AtomRecord). All IsSoundAtom xs) (take_all c.loop-place.place c.args.atoms.now c.loop-place-test.false) c.loop-place.invariant.sound
