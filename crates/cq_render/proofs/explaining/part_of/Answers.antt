use Rattle.std.proofs.Common.{◌≡◌, ℕ, Bool, List, length}
use Rattle.std.specs.Prelude.{IfOk}
use Rattle.std.proofs.lemmas.Result.{IfOk-weaker}
use Rattle.cq_match.specs.Falling.{IsFalling}
use Rattle.cq_match.specs.Resting.{IsPartFor}
use Rattle.cq_board.specs.Edges.{edges_of}
use Rattle.cq_board.specs.Board.{nodes_of}
use Rattle.cq_render.proofs.Walked.{as_many, names_of_shown}
use Rattle.cq_render.specs.Steps.Walking.{shown_read}
use Rattle.cq_render.proofs.Numbers.{all_three, part_low}
use Rattle.cq_render.proofs.explaining.part_of.Goals as goal

pub returns-clause-low : goal.returns-clause-low
returns-clause-low g c =
    let all = c.args.fallen.now in
    let pool = all.listing.now.board.now in
    let items = all.listing.now.queries.items in
    let falls = all.parts.now.falls in
    let many : length items ≡ length pool.pending = as_many (λ shown. shown.name.now) items pool.pending (names_of_shown shown_read items pool all.listing.now.walked) in
    let part_is : IfOk c.part.result (λ part. IsPartFor (edges_of pool.pending) falls c.args.number part.items) = rw all.linked at c.part.ensures.part in
    IfOk-weaker c.part.result _ _ (λ part is. rw many (part_low pool falls c.requires.fell c.args.number part.items is)) part_is

pub returns-clause-part : goal.returns-clause-part
returns-clause-part g c =
    let all = c.args.fallen.now in
    let pool = all.listing.now.board.now in
    let edges = edges_of pool.pending in
    let falls = all.parts.now.falls in
    let part_is : IfOk c.part.result (λ part. IsPartFor edges falls c.args.number part.items) = rw all.linked at c.part.ensures.part in
    let falling : IfOk c.part.result (λ part. (nodes : List (ℕ × ℕ × Bool)) → IsFalling nodes edges falls → IsFalling nodes edges part.items) = rw all.linked at c.part.ensures.falling in
    all_three c.part.result _ _ _ _
    (λ part is falls_too ends. record {
      falls = falls;
      rounds = c.requires.fell.rounds;
      rests = is;
      falling = falls_too (nodes_of pool) c.requires.fell.falling;
      last = ends ((c.requires.fell.unmatched c.args.number).1 c.requires.waits);
    })
    part_is falling c.part.ensures.last
