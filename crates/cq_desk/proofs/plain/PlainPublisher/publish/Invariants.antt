use Rattle.std.proofs.Common.{◌≡◌, ◌-◌, length}
use Rattle.cq_desk.specs.Plain.{IsPublished}
use Rattle.cq_desk.proofs.plain.PlainPublisher.publish.Given as goal

abbrev pub invariant-loop-self : goal.invariant-loop-self
invariant-loop-self g l = let d = l.self-inside in let a = l.initial.self-inside in
    IsPublished g.L.Live.after (g.L.Live.content d.opening) (g.L.Live.content d.shown) (g.L.Live.content d.next) d.entries.items d.lengths.items d.published d.taken
    × (d.opening ≡ a.opening) × (d.shown ≡ a.shown) × (d.entries ≡ a.entries) × (d.lengths ≡ a.lengths) × (d.published ≡ a.published)

abbrev pub decreases-loop-self : goal.decreases-loop-self
decreases-loop-self g l = length l.self-inside.entries.items - l.self-inside.taken
