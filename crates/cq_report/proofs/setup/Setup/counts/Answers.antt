use Rattle.std.proofs.Common.{◌∙◌, ℕ, ap}
use Rattle.cq_ask.specs.declared.counts.Counts.{Counts}
use Rattle.cq_ask.specs.Answer.{counts_of}
use Rattle.cq_report.specs.Machine.{SetupRecord, opened}
use Rattle.cq_report.proofs.Obeying.{nothing_counted}
use Rattle.cq_report.proofs.setup.Setup.counts.Goals as goal

pub returns : goal.returns
returns g c =
    let d = c.self.inside in
    let setup : SetupRecord = record { catalog = d.catalog; limits = d.limits } in
    let counted = λ (n : ℕ). let counts : Counts = record { queries = 0; matched = 0; waiting = 0; rows = 0; entries = 0; unpublished = 0; since = 0; relations = n; pool = d.limits.pool; journal = d.limits.journal } in counts in
    ap counted c.len.ensures.value ∙ (nothing_counted setup ∙ ap (λ (s : SetupRecord). counts_of (opened s)) c.self.view_is)
