use Rattle.std.proofs.Common.{◌∙◌, ◌++◌, ℕ, List, ap}
use Rattle.cq_going.proofs.telling.told_none.Goals as goal

pub returns : goal.returns
returns g c = let why = c.in_ok-put_why.ensures in (c.requires, why.0, why.1, why.2 ∙ ap (λ (front : List ℕ). front ++ why.0) c.in_ok-text.ensures.ok)
