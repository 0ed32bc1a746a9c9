use Rattle.std.proofs.Common.{◌∙◌, length, refl, sym}
use Rattle.cq_going.specs.Data.{found_json}
use Rattle.cq_going.specs.declared.telling.Outcome.TheVariants.{Found}
use Rattle.cq_going.proofs.Tellings.{none_of, on_ok, positive}
use Rattle.cq_going.proofs.data.put_found_or_none.Goals as goal

pub put_none-requires : goal.put_none-requires
put_none-requires g c = none_of c.args.board.now c.args.names.now c.args.choices.now (sym c.is_empty.ensures ∙ c.if-is_empty.true) c.requires

pub returns : goal.returns
returns g c =
    let choices = c.args.choices.now in
    on_ok c.put_found.result
    (λ is. (found_json c.args.board.now.pending choices, (Found, (choices, positive (length choices) (sym c.is_empty.ensures ∙ c.if-is_empty.false), c.requires, refl)), is)) c.put_found.ensures
