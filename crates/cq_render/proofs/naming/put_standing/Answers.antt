use Rattle.cq_render.specs.Data.{standing_members}
use Rattle.cq_render.proofs.Telling.{put_object}
use Rattle.cq_render.proofs.naming.put_standing.Goals as goal

pub returns : goal.returns
returns g c =
    put_object c.args.sheet.now c.begin_object.new.self c.put_state.new.sheet c.end_object.new.self (standing_members c.args.board.now c.args.name.now) c.end_object.result
    c.in_ok-begin_object.ensures c.in_ok-put_state.ensures c.end_object.ensures
