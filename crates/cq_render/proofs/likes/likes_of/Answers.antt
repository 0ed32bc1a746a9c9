use Rattle.std.proofs.Common.{◌≡◌, ◌+◌, ◌<◌, ◌++◌, ◌∙◌, ℕ, List, [], length, drop, ap, sym, arith, if◌then◌else◌}
use Rattle.std.specs.Prelude.{◌==◌}
use Rattle.std.specs.List.{flat_map, enumerate_from}
use Rattle.cq_atom.specs.Atom.{AtomRecord}
use Rattle.cq_board.specs.Pool.{PendingQuery}
use Rattle.cq_render.specs.Hints.{like_if}
use Rattle.cq_render.specs.Steps.Walking.{shown_read}
use Rattle.cq_render.proofs.Liked.{query_read}
use Rattle.cq_render.proofs.Pieces.{numbered_at, nothing_left}
use Rattle.cq_render.proofs.Pages.{put_on, put_end}
use Rattle.cq_render.proofs.Walked.{as_many, names_of_shown}
use Rattle.cq_render.proofs.likes.likes_of.Goals as goal

pub loop-number-preserved : goal.loop-number-preserved
loop-number-preserved g c =
    let listing = c.args.listing.now in
    let pool = listing.board.now in
    let items = listing.queries.items in
    let i = c.loop-number.number in
    let waiter = c.args.waiter in
    let wanted = c.args.wanted.now in
    let f = λ (p : ℕ × PendingQuery). if p.0 == waiter then [] else flat_map (like_if wanted p.0) (enumerate_from 0 p.1.query.heads) in
    let end = c.len-number-end.ensures in
    let test = c.loop-number-test.true in
    let low : i < length items = omega arith in
    let found = query_read shown_read items pool listing.walked i c.index.result.now low c.index.ensures in
    let heads : c.heads-heads.result.now ≡ found.0.query.heads = c.heads-heads.ensures.value ∙ ap (λ q. q.heads) (sym found.2) in
    put_on c.loop-number.likes.items c.put_others.new.likes.items (f (i, found.0)) _ (flat_map f (enumerate_from (i + 1) (drop (i + 1) pool.pending))) _
    (numbered_at f pool.pending i found.0 found.1) c.loop-number.invariant
    (c.in_ok-put_others.ensures ∙ ap (λ (hs : List AtomRecord). c.loop-number.likes.items ++ (if i == waiter then [] else flat_map (like_if wanted i) (enumerate_from 0 hs))) heads)

pub returns : goal.returns
returns g c =
    let listing = c.args.listing.now in
    let pool = listing.board.now in
    let items = listing.queries.items in
    let i = c.loop-number.number in
    let waiter = c.args.waiter in
    let wanted = c.args.wanted.now in
    let f = λ (p : ℕ × PendingQuery). if p.0 == waiter then [] else flat_map (like_if wanted p.0) (enumerate_from 0 p.1.query.heads) in
    let end = c.len-number-end.ensures in
    let over = c.loop-number-test.false in
    let auto = c.loop-number.auto.number-end in
    let many = as_many (λ shown. shown.name.now) items pool.pending (names_of_shown shown_read items pool listing.walked) in
    put_end c.loop-number.likes.items (flat_map f (enumerate_from i (drop i pool.pending))) _ (ap (λ (ps : List PendingQuery). flat_map f (enumerate_from i ps)) (nothing_left pool.pending i (omega arith))) c.loop-number.invariant
