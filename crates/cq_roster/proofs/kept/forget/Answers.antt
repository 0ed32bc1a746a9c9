use Rattle.std.proofs.Common.{is_some, sym, ap, ◌∙◌}
use Rattle.cq_roster.proofs.Found.{place_at, is_there, no_place}
use Rattle.cq_roster.proofs.Removed.{kept_without, left_without, values_stay}
use Rattle.cq_roster.proofs.kept.forget.Goals as goal

pub unwrap-seat-requires : goal.unwrap-seat-requires
unwrap-seat-requires g c =
    let found = sym (c.requires.numbered c.args.name.now) ∙ (sym c.swap_remove.ensures.value ∙ c.in-Some.is) in
    ap is_some c.remove.ensures.value ∙ is_there c.args.name.now c.args.kept.now.order.entries c.in-Some.number c.requires.rising found

pub returns-in-Some-clause-kept : goal.returns-in-Some-clause-kept
returns-in-Some-clause-kept g c =
    let found = sym (c.requires.numbered c.args.name.now) ∙ (sym c.swap_remove.ensures.value ∙ c.in-Some.is) in
    kept_without c.args.name.now c.args.kept.now.order.entries c.remove.new.self.entries c.args.kept.now.numbers.entries c.swap_remove.new.self.entries c.args.kept.now.next c.in-Some.number
    c.requires found c.remove.ensures.entries c.remove.ensures.ordered c.swap_remove.ensures.updates.0

pub returns-in-Some-clause-place : goal.returns-in-Some-clause-place
returns-in-Some-clause-place g c =
    let found = sym (c.requires.numbered c.args.name.now) ∙ (sym c.swap_remove.ensures.value ∙ c.in-Some.is) in
    place_at c.args.name.now c.args.kept.now.order.entries c.in-Some.number c.unwrap-seat.result c.requires.rising found (sym c.remove.ensures.value ∙ c.unwrap-seat.ensures)

pub returns-in-Some-clause-out : goal.returns-in-Some-clause-out
returns-in-Some-clause-out g c =
    let found = sym (c.requires.numbered c.args.name.now) ∙ (sym c.swap_remove.ensures.value ∙ c.in-Some.is) in
    left_without c.args.name.now c.args.kept.now.order.entries c.remove.new.self.entries c.args.kept.now.numbers.entries c.swap_remove.new.self.entries c.args.kept.now.next c.in-Some.number
    c.requires found c.remove.ensures.entries

pub returns-in-None-clause-place : goal.returns-in-None-clause-place
returns-in-None-clause-place g c = no_place c.args.name.now c.args.kept.now.order.entries (sym (c.requires.numbered c.args.name.now) ∙ (sym c.swap_remove.ensures.value ∙ c.in-None.is))

pub returns-in-None-clause-out : goal.returns-in-None-clause-out
returns-in-None-clause-out g c = values_stay c.args.name.now c.args.kept.now.order.entries (sym (c.requires.numbered c.args.name.now) ∙ (sym c.swap_remove.ensures.value ∙ c.in-None.is))
