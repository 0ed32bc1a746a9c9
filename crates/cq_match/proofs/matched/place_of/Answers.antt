use Rattle.std.proofs.Common.{rules, ℕ, Bool, false}
use Rattle.std.proofs.lemmas.Fn.{always_returns_same}
use Rattle.cq_match.proofs.Ranks.{searchable, equal-is, not-missed}
use Rattle.cq_match.proofs.matched.place_of.Goals as goal

pub unreachable-requires : goal.unreachable-requires
unreachable-requires c =
    let ranked = c.args.ranked.now in
    let x = c.args.number in
    not-missed ranked x c.in-Err.field-0 c.requires.known
    (c.in-Err.ensures.position (λ (node : ℕ × ℕ × Bool). node.0) (always_returns_same _ _ _ (λ a r h called. search rules)) (searchable ranked c.requires.rising x))

pub returns-clause-found : goal.returns-clause-found
returns-clause-found c =
    equal-is _ _ (c.in-Ok.ensures.position (λ (node : ℕ × ℕ × Bool). node.0) (always_returns_same _ _ _ (λ a r h called. search rules)) (0, 0, false))
