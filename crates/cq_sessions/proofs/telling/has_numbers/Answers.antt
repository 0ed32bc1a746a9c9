use Rattle.std.proofs.Common.{eqb, sym, ap}
use Rattle.cq_atom.specs.Edit.{Edit}
use Rattle.cq_desk.specs.declared.journal.Entry.{Entry}
use Rattle.cq_sessions.proofs.Told.{left-on, read-more}
use Rattle.cq_sessions.proofs.telling.has_numbers.Goals as goal

pub loop-place-preserved : goal.loop-place-preserved
loop-place-preserved g c = let at = c.loop-place in let entry = c.index-journal-place.result in
    left-on c.args.session c.args.journal.now c.args.numbers.now at.place entry _ at.left.now c.in-Some.rest.now (read-more c.args.journal.now at.place entry c.loop-place-test.true c.index-journal-place.is)
    (ap (λ (e : Entry Edit). eqb e.author c.args.session) (sym c.index-journal-place.is)) c.in-Some.ensures at.invariant
