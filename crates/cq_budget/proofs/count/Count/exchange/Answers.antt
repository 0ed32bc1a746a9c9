use Rattle.std.proofs.Common.{◌∷◌, [], sym, ap, ◌∙◌, subst}
use mathlib.Core.List.{IsPrefix}
use Rattle.cq_budget.specs.declared.change.Change.TheVariants.{Opened}
use Rattle.cq_budget.proofs.Adding.{adds_moves}
use Rattle.cq_budget.proofs.count.Count.exchange.Goals as goal

pub compare_exchange-found-requires : goal.compare_exchange-found-requires
compare_exchange-found-requires c =
    let h = c.args.self.now.word_is in
    let seen = c.again-seen.ensures in
    let since = c.requires.since in
    let book = ap (λ s. s.book) seen ∙ since.0 in
    let offer = c.plain-offer.ensures in
    let pen = c.no_pen-pen.ensures in
    let log = c.again-seen.result.log in
    let begun : IsPrefix (Opened c.args.self.now.budget ∷ []) log = subst (λ l. IsPrefix l log) c.args.self.now.begun (subst (λ l. IsPrefix c.args.self.now.seen.log l) (sym (ap (λ s. s.log) seen)) since.1) in (
      ap (λ w. w.tracked) h,
      book ∙ sym (ap (λ w. w.book) h),
      pen.0 ∙ (book ∙ sym (ap (λ w. w.book) h)),
      offer.0,
      rw (ap (λ w. w.key) h, pen.1, offer.1, offer.3) (adds_moves c.args.self.now.budget log begun c.args.change c.args.out c.args.left c.requires.leaves c.requires.within),
    )
