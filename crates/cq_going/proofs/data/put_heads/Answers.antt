use Rattle.std.proofs.Common.{◌≡◌, ◌+◌, ◌++◌, List, length, map, drop, ap, arith}
use Rattle.json.specs.Tree.{json_tokens}
use Rattle.cq_atom.specs.Atom.{AtomRecord}
use Rattle.cq_atom.specs.Valuation.{under}
use Rattle.cq_board.specs.Choice.{bound}
use Rattle.cq_board.proofs.CallerLemmas.{read_at}
use Rattle.cq_render.specs.Json.{atom_json}
use Rattle.cq_render.proofs.CallerLemmas.{nothing_left, put_on, listed, listed_of, put_array}
use Rattle.cq_going.proofs.data.put_heads.Goals as goal

pub loop-head-preserved : goal.loop-head-preserved
loop-head-preserved g c =
    let i = c.loop-head.head-index in
    let heads = c.args.query.now.heads in
    let head = c.head-item.result in
    let h : AtomRecord → AtomRecord = under (bound c.args.query.now c.args.values.now) in
    let got = rw c.heads-head-items.ensures.value at (read_at c.heads-head-items.result.now i head c.loop-head-test.true c.head-item.is) in
    put_on c.loop-head.sheet c.put_atom.new.sheet (json_tokens (atom_json (h head))) (listed atom_json (map h (drop i heads))) (listed atom_json (map h (drop (i + 1) heads)))
    (c.begin_array.new.self ++ listed atom_json (map h heads))
    (listed_of atom_json h heads i head got) c.loop-head.invariant c.in_ok-put_atom.ensures

pub returns : goal.returns
returns g c =
    let i = c.loop-head.head-index in
    let heads = c.args.query.now.heads in
    let h : AtomRecord → AtomRecord = under (bound c.args.query.now c.args.values.now) in
    let has : length c.heads-head-items.result.now ≡ length heads = ap length c.heads-head-items.ensures.value in
    put_array _ _ c.loop-head.sheet c.end_array.new.self (listed atom_json (map h heads)) (listed atom_json (map h (drop i heads))) c.end_array.result
    c.in_ok-begin_array.ensures c.loop-head.invariant (ap (λ (l : List AtomRecord). listed atom_json (map h l)) (nothing_left heads i (omega arith))) c.end_array.ensures
