use Rattle.std.proofs.Common.{sym, subst}
use Rattle.std.specs.List.{All}
use Rattle.std.proofs.lemmas.List.Elements.{All-push}
use Rattle.cq_board.specs.Steps.Linear.{IsLinear}
use Rattle.cq_board.proofs.heads.push.Goals as goal

pub returns-clause-told : goal.returns-clause-told
returns-clause-told g c told on =
    subst (λ hs. All (λ h. IsLinear h.atom.now.terms) hs) (sym c.in_ok-push.ensures.items)
    (All-push (λ h. IsLinear h.atom.now.terms) c.args.group.now.heads.items c.args.head.now (told (c.is_still_linear-group.ensures.before on)) (c.is_still_linear-group.ensures.atom on))
