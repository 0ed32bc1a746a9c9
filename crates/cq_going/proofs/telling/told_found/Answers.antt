use Rattle.std.proofs.Common.{◌∙◌, ◌++◌, ℕ, List, length, ap, sym}
use Rattle.cq_going.specs.Going.{choice_lines}
use Rattle.cq_going.proofs.Tellings.{none_of, positive}
use Rattle.cq_going.proofs.telling.told_found.Goals as goal

pub told_none-requires : goal.told_none-requires
told_none-requires g c = none_of c.args.board.now c.args.names.now c.args.choices.now (sym c.is_empty.ensures ∙ c.if-is_empty.true) c.requires

pub returns : goal.returns
returns g c = (
  c.args.choices.now,
  positive (length c.args.choices.now) (sym c.is_empty.ensures ∙ c.if-is_empty.false),
  c.requires,
  c.in_ok-put_choices.ensures ∙ ap (λ (front : List ℕ). front ++ choice_lines c.args.board.now.pending c.args.choices.now) c.new-text.ensures.bytes,
)
