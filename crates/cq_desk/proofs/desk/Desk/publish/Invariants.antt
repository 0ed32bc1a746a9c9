use Rattle.std.proofs.Common.{◌≡◌, ◌+◌, ◌-◌, length}
use Rattle.cq_desk.specs.Desk.{IsInStep, whole_journal}
use Rattle.cq_desk.proofs.desk.Desk.publish.Given as goal

abbrev pub invariant-loop-self : goal.invariant-loop-self
invariant-loop-self g l = let d = l.self-inside in let a = l.initial.self-inside in
    IsInStep g.L.Live.after g.L.Live.why (g.L.Live.content d.working) (g.P.Publisher.opening d.publisher) (g.P.Publisher.history d.publisher) (g.P.Publisher.shown d.publisher) (g.P.Publisher.pending d.publisher) (whole_journal d.base (g.P.Publisher.history d.publisher) d.journal.items) d.limit d.base (d.base + d.handed) (d.base + d.published)
    × (d.journal ≡ a.journal) × (d.limit ≡ a.limit) × (g.P.Publisher.opening d.publisher ≡ g.P.Publisher.opening a.publisher) × (g.P.Publisher.history d.publisher ≡ g.P.Publisher.history a.publisher) × (g.P.Publisher.shown d.publisher ≡ g.P.Publisher.shown a.publisher) × (d.base ≡ a.base)

abbrev pub decreases-loop-self : goal.decreases-loop-self
decreases-loop-self g l = length l.self-inside.journal.items - l.self-inside.handed
