use Rattle.std.proofs.Common.{All, List, subst, arith}
use Rattle.std.proofs.lemmas.List.{take_all}
use Rattle.std.proofs.lemmas.List.Elements.{All-more}
use mathlib.Core.List.{IsPrefix}
use Rattle.cq_desk.specs.History.{edits_of}
use Rattle.cq_room.specs.Sessions.{SessionRecord}
use Rattle.cq_room.proofs.parts.knows_all.Goals as goal

pub loop-session-preserved : goal.loop-session-preserved
loop-session-preserved g c = let at = c.loop-session in let xs = c.args.sessions.now in
    let P : SessionRecord g.row.L-Edit.Denot → Type 0 = λ s. IsPrefix (edits_of s.history) c.args.desk.now.journal × IsPrefix s.known c.args.desk.now.journal in
    All-more P xs at.session-index c.session-item.result c.loop-session-test.true at.invariant (subst P c.session-item.is c.if-not-knows.ensures)

pub returns : goal.returns
returns g c = let at = c.loop-session in let xs = c.args.sessions.now in let end = c.loop-session-test.false in
    let P : SessionRecord g.row.L-Edit.Denot → Type 0 = λ s. IsPrefix (edits_of s.history) c.args.desk.now.journal × IsPrefix s.known c.args.desk.now.journal in
    let Q : List (SessionRecord g.row.L-Edit.Denot) → Type 0 = λ l. All P l in
    subst Q (take_all at.session-index xs (omega (arith, end))) at.invariant
