use Rattle.std.proofs.Common.{◌+◌, ◌++◌, ap, subst}
use mathlib.Core.List.{IsPrefix}
use Rattle.cq_desk.specs.Desk.{whole_journal}
use Rattle.cq_desk.specs.History.{edits_of}
use Rattle.cq_desk.proofs.Histories.{begins_told}
use Rattle.cq_desk.proofs.desk.Desk.publisher.Goals as goal

pub returns-clause-told : goal.returns-clause-told
returns-clause-told g c = let d = c.self.inside in
    subst (λ js. IsPrefix (edits_of (g.P.Publisher.history d.publisher) ++ g.P.Publisher.pending d.publisher) js) (ap (λ v. v.journal) c.self.view_is) (begins_told (edits_of (g.P.Publisher.history d.publisher) ++ g.P.Publisher.pending d.publisher) (d.base + d.handed) (whole_journal d.base (g.P.Publisher.history d.publisher) d.journal.items) c.self.invariant.told)
