use Rattle.std.proofs.Common.{◌∙◌, sym}
use Rattle.std.proofs.lemmas.Result.{on_ok_weaker}
use Rattle.cq_closure.specs.Closure.IsReached.{First}
use Rattle.cq_closure.proofs.take_if.Goals as goal

pub returns-then-is_set-clause-only : goal.returns-then-is_set-clause-only
returns-then-is_set-clause-only g c =
    on_ok_weaker c.take.result (λ only edges may are. only edges may c.args.first.now (λ m. First c.args.node m (sym c.is_set.ensures ∙ c.if-is_set.true)) are) c.take.ensures.only
