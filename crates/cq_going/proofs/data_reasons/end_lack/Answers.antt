use Rattle.std.proofs.Common.{◌++◌, ◌∷◌, []}
use Rattle.std.specs.Prelude.{codes, filter}
use Rattle.json.specs.Token.{end_object, key}
use Rattle.json.specs.Tree.{json_tokens}
use Rattle.cq_board.specs.Board.{links_of}
use Rattle.cq_render.proofs.CallerLemmas.{put_then}
use Rattle.cq_going.specs.Reasons.{leads_there}
use Rattle.cq_going.specs.Data.{first_json}
use Rattle.cq_going.proofs.data_reasons.end_lack.Goals as goal

pub returns : goal.returns
returns g c =
    let pool = c.args.board.now in
    let offer = json_tokens (first_json pool (filter (leads_there pool c.args.name.now c.args.post) (links_of pool.pending))) in
    put_then c.args.sheet.now c.key.new.self c.end_object.new.self (key (codes "offered") ∷ []) (offer ++ end_object ∷ []) c.end_object.result c.in_ok-key.ensures
    (put_then c.key.new.self c.put_near.new.sheet c.end_object.new.self offer (end_object ∷ []) c.end_object.result
    (rw (c.deref.ensures.value, c.in_ok-links.ensures) at c.in_ok-put_near.ensures) c.end_object.ensures)
