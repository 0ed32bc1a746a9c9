use Rattle.std.proofs.Common.{All, List, subst}
use Rattle.std.proofs.lemmas.List.Elements.{All-weaker}
use mathlib.Core.List.{IsPrefix}
use Rattle.cq_desk.specs.History.{edits_of}
use Rattle.cq_room.specs.Marks.{entries_in}
use Rattle.cq_room.specs.Sessions.{SessionRecord}
use Rattle.cq_room.proofs.Checkpoints.{begins_as}
use Rattle.cq_room.proofs.room.Room.close.Goals as goal

pub returns-clause-seen : goal.returns-clause-seen
returns-clause-seen g c = let journal = c.desk.inside.desk.journal in
    let P : SessionRecord g.row.L-Edit.Denot → Type 0 = λ s. IsPrefix (edits_of s.history) journal × IsPrefix s.known journal in
    let Q : List (SessionRecord g.row.L-Edit.Denot) → Type 0 = λ l. All P l in
    All-weaker P (λ s. IsPrefix (edits_of s.history) journal) (λ s p. p.0) _ (subst Q c.as_slice.ensures.value c.await_all.ensures)

pub returns-clause-known : goal.returns-clause-known
returns-clause-known g c = let journal = c.desk.inside.desk.journal in
    let P : SessionRecord g.row.L-Edit.Denot → Type 0 = λ s. IsPrefix (edits_of s.history) journal × IsPrefix s.known journal in
    let Q : List (SessionRecord g.row.L-Edit.Denot) → Type 0 = λ l. All P l in
    All-weaker P (λ s. IsPrefix s.known journal) (λ s p. p.1) _ (subst Q c.as_slice.ensures.value c.await_all.ensures)

pub await_all-requires : goal.await_all-requires
await_all-requires g c = let k = c.desk.inside in begins_as (entries_in k.entered) k.desk.journal c.desk.invariant.2
