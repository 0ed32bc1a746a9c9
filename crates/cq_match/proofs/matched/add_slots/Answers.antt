use Rattle.std.proofs.Common.{◌≡◌, ◌++◌, replicate, ap, ◌∙◌, arith}
use Rattle.cq_match.proofs.matched.add_slots.Goals as goal

pub returns : goal.returns
returns g c = let all : c.loop.counter ≡ c.args.count = omega arith in c.loop.invariant ∙ ap (λ n. c.args.owners.now.items ++ replicate n c.args.place) all
