use Rattle.cq_render.proofs.Walked.{never, shown_is}
use Rattle.cq_render.proofs.walking.look_at.Goals as goal

pub unreachable-requires : goal.unreachable-requires
unreachable-requires g c = never c.args.board.now c.len-good.ensures.valid c.args.number c.args.name.now c.requires c.in_default.ensures.query

pub returns : goal.returns
returns g c posted here =
    let view = c.in-Some.view in
    shown_is c.args.board.now c.len-good.ensures.valid c.args.number c.args.name.now c.requires posted view.matched view.query.now view.groundings.now here
    c.in-Some.ensures.query c.in-Some.ensures.matched c.in-Some.ensures.groundings
