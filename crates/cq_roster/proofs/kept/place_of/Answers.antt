use Rattle.std.proofs.Common.{is_some, sym, ap, ◌∙◌}
use Rattle.std.specs.Option.{option_copied}
use Rattle.cq_roster.proofs.Found.{some_copied, place_at, is_there, no_place}
use Rattle.cq_roster.proofs.kept.place_of.Goals as goal

pub unwrap-seat-requires : goal.unwrap-seat-requires
unwrap-seat-requires g c =
    let found = sym (c.requires.numbered c.args.name.now) ∙ (sym c.get.ensures.value ∙ ap option_copied c.in-Some.is) in
    some_copied c.get-in-Some.result (ap is_some c.get-in-Some.ensures.value ∙ is_there c.args.name.now c.args.kept.now.order.entries c.in-Some.number.now c.requires.rising found)

pub returns-in-Some : goal.returns-in-Some
returns-in-Some g c =
    let found = sym (c.requires.numbered c.args.name.now) ∙ (sym c.get.ensures.value ∙ ap option_copied c.in-Some.is) in
    place_at c.args.name.now c.args.kept.now.order.entries c.in-Some.number.now c.unwrap-seat.result.now c.requires.rising found (sym c.get-in-Some.ensures.value ∙ ap option_copied c.unwrap-seat.ensures)

pub returns-in-None : goal.returns-in-None
returns-in-None g c = no_place c.args.name.now c.args.kept.now.order.entries (sym (c.requires.numbered c.args.name.now) ∙ (sym c.get.ensures.value ∙ ap option_copied c.in-None.is))
