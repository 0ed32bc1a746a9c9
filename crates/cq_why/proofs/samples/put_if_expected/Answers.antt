use Rattle.std.proofs.Common.{◌∙◌, ◌∷◌, [], map, refl, sym, ap, append-nil}
use Rattle.std.proofs.lemmas.List.{map-append}
use Rattle.cq_why.proofs.samples.put_if_expected.Goals as goal

pub returns-in_ok-push : goal.returns-in_ok-push
returns-in_ok-push g c =
    let tried = c.in_ok-may.ensures in (
      c.args.sample.now.1.now ∷ [],
      (tried.0, tried.1, rw (sym tried.2 ∙ c.if-may.true) refl),
      ap (map (λ word. word.now)) c.in_ok-push.ensures.items ∙ map-append (λ word. word.now) c.args.words.now.items (c.args.sample.now.1 ∷ []),
    )

pub returns-else-may : goal.returns-else-may
returns-else-may g c =
    let tried = c.in_ok-may.ensures in
    ([], (tried.0, tried.1, rw (sym tried.2 ∙ c.if-may.false) refl), sym (append-nil _))
