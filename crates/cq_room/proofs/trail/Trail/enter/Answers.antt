use Rattle.std.proofs.Common.{rules, ◌≡◌, ◌++◌, ◌∷◌, [], ◌<◌, ◌^◌, ◌+◌, length, sym, ◌∙◌, ap, arith, length-append}
use Rattle.cq_room.specs.declared.mark.Mark.TheVariants.{Entered}
use Rattle.cq_room.proofs.Adding.{adds_moves}
use Rattle.cq_room.proofs.Marked.{count_more, fresh_more, edits_within, behind_within}
use Rattle.cq_room.proofs.trail.Trail.enter.Goals as goal

pub compare_exchange-found-requires : goal.compare_exchange-found-requires
compare_exchange-found-requires g c =
    let h = c.book.invariant in
    let offer = c.plain-offer.ensures in
    let pen = c.no_pen-pen.ensures in
    let again = c.again-seen.ensures in (
      ap (λ w. w.tracked) h,
      ap (λ s. s.book) again ∙ (c.self.invariant.1 ∙ sym (ap (λ w. w.book) h)),
      pen.0 ∙ (ap (λ s. s.book) again ∙ (c.self.invariant.1 ∙ sym (ap (λ w. w.book) h))),
      offer.0,
      rw (ap (λ w. w.key) h, pen.1, offer.1, offer.3) (adds_moves c.again-seen.result.log (Entered c.args.entry.now) c.self.inside.entries (ap (λ s. length s.log) again ∙ sym c.self.invariant.0)),
    )

pub overflow_add-self-2 : goal.overflow_add-self-2
overflow_add-self-2 g c = let w = edits_within c.self.inside.seen.log in let n = c.self.invariant in let room : length c.self.inside.seen.log < 2 ^ 62 = rw c.self.view_is c.requires.room in
    let a = n.2 in let m : c.self.inside.count + 1 < 2 ^ 64 = omega (arith, w, a, room) in search rules

pub overflow_add-self-3 : goal.overflow_add-self-3
overflow_add-self-3 g c = let w = behind_within [] c.self.inside.seen.log in let n = c.self.invariant in let room : length c.self.inside.seen.log < 2 ^ 62 = rw c.self.view_is c.requires.room in
    let a = n.3 in let m : c.self.inside.fresh + 1 < 2 ^ 64 = omega (arith, w, a, room) in search rules

pub invariant_of-self : goal.invariant_of-self
invariant_of-self g c = let old = c.self.inside.seen.log in let new = c.compare_exchange-found.new.seen.log in let n = c.self.invariant in
    let is : new ≡ old ++ Entered c.args.entry.now ∷ [] = search rules in
    let m : c.self.inside.entries + 1 ≡ length new = omega (arith, n.0, ap length is, length-append old (Entered c.args.entry.now ∷ [])) in
    (m, search rules, count_more old new c.args.entry.now c.self.inside.count is n.2, fresh_more old new c.args.entry.now c.self.inside.fresh is n.3)
