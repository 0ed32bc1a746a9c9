use Rattle.std.proofs.Common.{◌+◌, ◌<◌, ◌++◌, ◌∙◌, [], ◌∷◌, List, length, map, drop, ap, arith}
use Rattle.std.specs.List.{enumerate_from}
use Rattle.cq_board.specs.Pool.{PendingQuery}
use Rattle.cq_render.specs.Steps.Walking.{ShownRecord, shown_of, shown_read}
use Rattle.cq_render.proofs.Pieces.{item_at, nothing_left}
use Rattle.cq_render.proofs.Pages.{put_on, put_end}
use Rattle.cq_render.proofs.Walked.{as_many, map_behind, name_read, shown_at}
use Rattle.cq_render.proofs.walking.look_at_each.Goals as goal

pub look_at-requires : goal.look_at-requires
look_at-requires g c =
    name_read (λ name. name.now) c.args.names.now c.args.board.now.pending c.requires c.loop-number.number c.index-names-number.result c.loop-number-test.true c.index-names-number.is

pub loop-number-preserved : goal.loop-number-preserved
loop-number-preserved g c =
    let pool = c.args.board.now in
    let i = c.loop-number.number in
    let many = as_many (λ name. name.now) c.args.names.now pool.pending c.requires in
    let low : i < length pool.pending = omega (arith, many) in
    let posted = item_at pool.pending i low in
    let so_far = c.loop-number.queries.items in
    put_on (map shown_read so_far) (map shown_read c.push.new.self.items) (shown_of pool (i, posted.item) ∷ []) _ (map (shown_of pool) (enumerate_from (i + 1) (drop (i + 1) pool.pending))) _
    (shown_at pool i posted.item posted.got) c.loop-number.invariant
    (ap (map shown_read) c.in_ok-push.ensures.items ∙ map_behind shown_read so_far c.look_at.result ∙ ap (λ (shown : ShownRecord). map shown_read so_far ++ shown ∷ []) (c.look_at.ensures posted.item posted.got))

pub returns : goal.returns
returns g c =
    let pool = c.args.board.now in
    let i = c.loop-number.number in
    let many = as_many (λ name. name.now) c.args.names.now pool.pending c.requires in
    put_end (map shown_read c.loop-number.queries.items) (map (shown_of pool) (enumerate_from i (drop i pool.pending))) _
    (ap (λ (ps : List PendingQuery). map (shown_of pool) (enumerate_from i ps)) (nothing_left pool.pending i (omega (arith, many)))) c.loop-number.invariant
