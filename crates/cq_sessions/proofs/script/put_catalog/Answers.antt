use Rattle.std.proofs.Common.{◌+◌, drop}
use Rattle.std.specs.Prelude.{string_bytes}
use Rattle.std.specs.List.{flat_map}
use Rattle.cq_rel.specs.Tables.{declaration}
use Rattle.cq_sessions.specs.Script.{declaration_line}
use Rattle.cq_board.proofs.CallerLemmas.{pieces_at}
use Rattle.cq_render.proofs.CallerLemmas.{put_on}
use Rattle.cq_sessions.proofs.script.put_catalog.Goals as goal

pub loop-place-preserved : goal.loop-place-preserved
loop-place-preserved g c =
    let i = c.loop-place.place in
    let declared = declaration c.in-Some.relation.now c.in-Some.arity in
    put_on (string_bytes c.loop-place.page) (string_bytes c.put.new.page) (declaration_line declared) _ (flat_map declaration_line (drop (i + 1) c.args.catalog.now)) _
    (pieces_at declaration_line c.args.catalog.now i declared c.in-Some.ensures) c.loop-place.invariant (c.in_ok-put.ensures (declaration_line declared) c.declaration_line.ensures)
