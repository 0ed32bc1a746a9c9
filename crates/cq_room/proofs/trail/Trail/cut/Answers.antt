use Rattle.std.proofs.Common.{rules, ◌≡◌, ◌++◌, ◌∷◌, [], ◌+◌, length, sym, ◌∙◌, ap, arith, length-append}
use Rattle.cq_room.specs.declared.mark.Mark.TheVariants.{Cut}
use Rattle.cq_room.proofs.Adding.{adds_moves}
use Rattle.cq_room.proofs.Marked.{count_cut, fresh_cut}
use Rattle.cq_room.proofs.trail.Trail.cut.Goals as goal

pub compare_exchange-found-requires : goal.compare_exchange-found-requires
compare_exchange-found-requires g c =
    let h = c.book.invariant in
    let offer = c.plain-offer.ensures in
    let pen = c.no_pen-pen.ensures in
    let again = c.again-seen.ensures in (
      ap (λ w. w.tracked) h,
      ap (λ s. s.book) again ∙ (c.self.invariant.1 ∙ sym (ap (λ w. w.book) h)),
      pen.0 ∙ (ap (λ s. s.book) again ∙ (c.self.invariant.1 ∙ sym (ap (λ w. w.book) h))),
      offer.0,
      rw (ap (λ w. w.key) h, pen.1, offer.1, offer.3) (adds_moves c.again-seen.result.log Cut c.self.inside.entries (ap (λ s. length s.log) again ∙ sym c.self.invariant.0)),
    )

pub invariant_of-self : goal.invariant_of-self
invariant_of-self g c = let old = c.self.inside.seen.log in let new = c.compare_exchange-found.new.seen.log in let n = c.self.invariant in
    let is : new ≡ old ++ Cut ∷ [] = search rules in
    let m : c.self.inside.entries + 1 ≡ length new = omega (arith, n.0, ap length is, length-append old (Cut ∷ [])) in
    (m, search rules, n.2 ∙ ap length (sym (count_cut old new is)), sym (ap length (fresh_cut old new is)))
