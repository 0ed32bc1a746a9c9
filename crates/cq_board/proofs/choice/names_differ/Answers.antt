use Rattle.std.proofs.Common.{◌≡◌, true, false, ℕ, ◌+◌, List, refl, sym, ap, ◌∙◌, arith, drop}
use Rattle.std.specs.Str.{bytes_eq}
use Rattle.std.specs.List.{list_any}
use Rattle.cq_board.specs.Choice.{ChoiceRecord}
use Rattle.cq_board.proofs.Walks.{differ_not, differ_more, differ_less, differ_end}
use Rattle.cq_board.proofs.choice.names_differ.Goals as goal

pub loop-place-init : goal.loop-place-init
loop-place-init g c = (λ d. d, λ d. d)

pub returns-then-has_name : goal.returns-then-has_name
returns-then-has_name g c =
    let choice = c.index-choices-place.result in
    let told : list_any (λ d. bytes_eq choice.name d.name) (drop (c.loop-place.place + 1) c.args.choices.now) ≡ true =
    ap (λ (ds : List ChoiceRecord). list_any (λ d. bytes_eq choice.name d.name) ds) (sym c.split_at.ensures.back)
    ∙ ap (λ (n : List ℕ). list_any (λ d. bytes_eq n d.name) c.split_at.result.1.now) (sym c.name.ensures) ∙ sym c.has_name.ensures ∙ c.if-has_name.true in (
      λ t. let never : false ≡ true = t in cc,
      λ d. differ_not c.args.choices.now c.loop-place.place choice (omega arith) c.index-choices-place.is told (c.loop-place.invariant.1 d),
    )

pub loop-place-preserved : goal.loop-place-preserved
loop-place-preserved g c =
    let choice = c.index-choices-place.result in
    let told : list_any (λ d. bytes_eq choice.name d.name) (drop (c.loop-place.place + 1) c.args.choices.now) ≡ false =
    ap (λ (ds : List ChoiceRecord). list_any (λ d. bytes_eq choice.name d.name) ds) (sym c.split_at.ensures.back)
    ∙ ap (λ (n : List ℕ). list_any (λ d. bytes_eq n d.name) c.split_at.result.1.now) (sym c.name.ensures) ∙ sym c.has_name.ensures ∙ c.if-has_name.false in (
      λ d. c.loop-place.invariant.0 (differ_less c.args.choices.now c.loop-place.place choice (omega arith) c.index-choices-place.is told d),
      λ d. differ_more c.args.choices.now c.loop-place.place choice (omega arith) c.index-choices-place.is (c.loop-place.invariant.1 d),
    )

pub returns : goal.returns
returns g c = (λ t. c.loop-place.invariant.0 (differ_end c.args.choices.now c.loop-place.place (omega arith)), λ d. refl)
