use Rattle.std.proofs.Common.{◌∙◌}
use Rattle.cq_roster.proofs.Walked.{nth-read}
use Rattle.cq_roster.proofs.roster.Roster.nth.Goals as goal

pub returns : goal.returns
returns g c = nth-read c.values.result c.args.self.now c.args.index c.nth.result c.nth.ensures.runs c.values.ensures.runs (c.values.ensures.rest ∙ c.self.view_is)
