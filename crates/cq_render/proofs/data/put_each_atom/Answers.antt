use Rattle.std.proofs.Common.{◌+◌, drop, ap, arith}
use Rattle.json.specs.Tree.{json_tokens}
use Rattle.cq_render.specs.Json.{atom_json}
use Rattle.cq_render.proofs.Pieces.{read_at, nothing_left}
use Rattle.cq_render.proofs.Arrays.{listed, listed_at, put_array}
use Rattle.cq_render.proofs.Pages.{put_on}
use Rattle.cq_render.proofs.data.put_each_atom.Goals as goal

pub loop-atom-preserved : goal.loop-atom-preserved
loop-atom-preserved g c =
    let i = c.loop-atom.atom-index in
    let atoms = c.args.atoms.now in
    let item = c.atom-item.result in
    put_on c.loop-atom.sheet c.put_atom.new.sheet (json_tokens (atom_json item)) _ (listed atom_json (drop (i + 1) atoms)) _
    (listed_at atom_json atoms i item (read_at atoms i item (omega arith) c.atom-item.is)) c.loop-atom.invariant c.in_ok-put_atom.ensures

pub returns : goal.returns
returns g c =
    put_array _ _ c.loop-atom.sheet c.end_array.new.self _ (listed atom_json (drop c.loop-atom.atom-index c.args.atoms.now)) c.end_array.result
    c.in_ok-begin_array.ensures c.loop-atom.invariant (ap (listed atom_json) (nothing_left c.args.atoms.now c.loop-atom.atom-index (omega arith))) c.end_array.ensures
