use Rattle.std.proofs.Common.{ℕ, Bool, List}
use Rattle.std.specs.Prelude.{IfOk}
use Rattle.std.specs.List.{Contains}
use Rattle.std.proofs.lemmas.Result.{IfOk-weaker}
use Rattle.cq_match.specs.Falling.{fallen, IsFalling}
use Rattle.cq_match.specs.Resting.{EndsWith, IsPartFor}
use Rattle.cq_board.specs.Edges.{edges_of}
use Rattle.cq_board.specs.Board.{nodes_of}
use Rattle.cq_board.proofs.Told.{part-low, if_ok_three}
use Rattle.cq_board.proofs.Waiters.{edges-grouped}
use Rattle.cq_board.proofs.board.Board.part_at.Goals as goal

pub part_for-requires-clause-grouped : goal.part_for-requires-clause-grouped
part_for-requires-clause-grouped g c =
    rw (c.deref.ensures.value, c.in_ok-edges.ensures) (edges-grouped c.args.self.now.pending)

pub part_for-requires-clause-falling : goal.part_for-requires-clause-falling
part_for-requires-clause-falling g c =
    rw (c.deref.ensures.value, c.deref-2.ensures.value, c.in_ok-edges.ensures) (nodes_of c.args.self.now, c.in_ok-falls.ensures.falls)

pub part_for-requires-clause-once : goal.part_for-requires-clause-once
part_for-requires-clause-once g c = rw c.deref-2.ensures.value c.in_ok-falls.ensures.once

pub returns-clause-low : goal.returns-clause-low
returns-clause-low g c =
    let pool = c.args.self.now in
    let falling : IfOk c.part_for.result (λ part. (nodes : List (ℕ × ℕ × Bool)) → IsFalling nodes (edges_of pool.pending) c.in_ok-falls.falls.items → IsFalling nodes (edges_of pool.pending) part.items) =
    rw (c.deref.ensures.value, c.deref-2.ensures.value, c.in_ok-edges.ensures) at c.part_for.ensures.falling in
    IfOk-weaker c.part_for.result _ _ (λ part falls. part-low pool part.items (falls (nodes_of pool) c.in_ok-falls.ensures.falls)) falling

pub returns-clause-part : goal.returns-clause-part
returns-clause-part g c =
    let pool = c.args.self.now in
    let edges = edges_of pool.pending in
    let all = c.in_ok-falls.falls.items in
    let part_is : IfOk c.part_for.result (λ part. IsPartFor edges all c.args.number part.items) = rw (c.deref.ensures.value, c.deref-2.ensures.value, c.in_ok-edges.ensures) at c.part_for.ensures.part in
    let falling : IfOk c.part_for.result (λ part. (nodes : List (ℕ × ℕ × Bool)) → IsFalling nodes edges all → IsFalling nodes edges part.items) = rw (c.deref.ensures.value, c.deref-2.ensures.value, c.in_ok-edges.ensures) at c.part_for.ensures.falling in
    let last : IfOk c.part_for.result (λ part. Contains (fallen all) c.args.number → EndsWith part.items c.args.number) = rw c.deref-2.ensures.value at c.part_for.ensures.last in
    if_ok_three c.part_for.result _ _ _ _
    (λ part is falls ends unmatched. record {
      falls = all;
      rounds = c.in_ok-falls.ensures.rounds;
      rests = is;
      falling = falls (nodes_of pool) c.in_ok-falls.ensures.falls;
      last = ends ((c.in_ok-falls.ensures.unmatched c.args.number).1 unmatched);
    })
    part_is
    falling
    last
