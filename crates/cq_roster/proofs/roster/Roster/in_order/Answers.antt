use Rattle.std.proofs.Common.{vec_len, ◌∙◌}
use Rattle.cq_roster.proofs.Walked.{all-read}
use Rattle.cq_roster.proofs.roster.Roster.in_order.Goals as goal

pub returns : goal.returns
returns g c = all-read (λ seats. seats.items) vec_len c.collect.result c.values.result c.args.self.now c.collect.ensures.runs c.values.ensures.runs (c.values.ensures.rest ∙ c.self.view_is)
