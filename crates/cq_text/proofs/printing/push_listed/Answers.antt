use Rattle.std.proofs.Common.{◌≡◌, ◌++◌, List, codes, string_bytes, subst}
use Rattle.std.specs.List.{join_by, All}
use Rattle.std.proofs.lemmas.List.{take_all}
use Rattle.std.proofs.lemmas.List.Elements.{All-more}
use Rattle.cq_atom.specs.Value.{ValueContent, IsValue}
use Rattle.cq_text.specs.Print.{printed_value}
use Rattle.cq_text.proofs.PrintedItems.{item_more}
use Rattle.cq_text.proofs.printing.push_listed.Goals as goal

pub loop-place-preserved : goal.loop-place-preserved
loop-place-preserved g c = record {
  printed = item_more printed_value _ _ _ _ _ _ _ c.loop-place-test.true c.index-values-place.is c.loop-place.invariant.printed c.in_ok-push_separator.ensures c.in_ok-push_value.ensures.printed;
  sound = All-more IsValue _ _ c.index-values-place.result c.loop-place-test.true c.loop-place.invariant.sound (subst IsValue c.index-values-place.is c.in_ok-push_value.ensures.sound);
}

pub returns-clause-printed : goal.returns-clause-printed
returns-clause-printed g c =
    subst (λ (xs : List ValueContent). string_bytes c.loop-place.printed ≡ string_bytes c.args.printed.now ++ join_by printed_value (codes ", ") xs) (take_all c.loop-place.place c.args.values.now c.loop-place-test.false) c.loop-place.invariant.printed

pub returns-clause-sound : goal.returns-clause-sound
returns-clause-sound g c = subst (λ (xs : List ValueContent). All IsValue xs) (take_all c.loop-place.place c.args.values.now c.loop-place-test.false) c.loop-place.invariant.sound
