use Rattle.std.proofs.Common.{ap, arith}
use Rattle.cq_atom.specs.Edit.{Edit}
use Rattle.cq_desk.specs.declared.journal.Entry.{Entry}
use Rattle.cq_sessions.proofs.Told.{none-on, read-more}
use Rattle.cq_sessions.proofs.telling.has_authors.Goals as goal

pub loop-place-preserved : goal.loop-place-preserved
loop-place-preserved g c session high = let at = c.loop-place in let entry = c.index-journal-place.result in
    none-on session c.args.journal.now at.place entry (read-more c.args.journal.now at.place entry c.loop-place-test.true c.index-journal-place.is) (omega (arith, high, ap (λ (e : Entry Edit). e.author) c.index-journal-place.is)) (at.invariant session high)
