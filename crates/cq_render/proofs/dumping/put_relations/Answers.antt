use Rattle.std.proofs.Common.{◌≡◌, ◌+◌, ℕ, List, length, drop, ap, arith}
use Rattle.std.specs.Prelude.{string_bytes}
use Rattle.std.specs.List.{flat_map}
use Rattle.cq_rel.specs.Tables.{Declaration, declaration}
use Rattle.cq_render.specs.Dump.{command_line, relation_command}
use Rattle.cq_render.proofs.Pieces.{pieces_at, nothing_left}
use Rattle.cq_render.proofs.Pages.{put_on, put_end}
use Rattle.cq_render.proofs.Present.{not_missed}
use Rattle.cq_render.proofs.dumping.put_relations.Goals as goal

pub unreachable-requires : goal.unreachable-requires
unreachable-requires g c = not_missed c.args.catalog.now c.len-place-end.result c.loop-place.place c.len-place-end.ensures.value c.loop-place-test.true c.in-None.ensures

pub loop-place-preserved : goal.loop-place-preserved
loop-place-preserved g c =
    let i = c.loop-place.place in
    let catalog = c.args.catalog.now in
    let declared = declaration c.in-Some.entry.0.now c.in-Some.entry.1 in
    let f : Declaration → List ℕ = λ declared. command_line (relation_command declared) in
    put_on (string_bytes c.loop-place.script) (string_bytes c.put_relation.new.script) (f declared) _ (flat_map f (drop (i + 1) catalog)) _
    (pieces_at f catalog i declared c.in-Some.ensures) c.loop-place.invariant c.in_ok-put_relation.ensures

pub returns : goal.returns
returns g c =
    let catalog = c.args.catalog.now in
    let f : Declaration → List ℕ = λ declared. command_line (relation_command declared) in
    let has : c.len-place-end.result ≡ length catalog = c.len-place-end.ensures.value in
    put_end (string_bytes c.loop-place.script) (flat_map f (drop c.loop-place.place catalog)) _ (ap (flat_map f) (nothing_left catalog c.loop-place.place (omega (arith, has)))) c.loop-place.invariant
