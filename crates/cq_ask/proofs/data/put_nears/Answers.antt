use Rattle.std.proofs.Common.{ℕ, List, subst, arith}
use Rattle.std.proofs.lemmas.List.{take_all}
use Rattle.cq_render.specs.Data.{IsPut, IsNearOf}
use Rattle.cq_render.specs.Steps.Telling.{AreListed}
use Rattle.cq_render.proofs.CallerLemmas.{listed_none, listed_step, listed_closed}
use Rattle.cq_ask.proofs.data.put_nears.Goals as goal

pub loop-name-init : goal.loop-name-init
loop-name-init g c = listed_none (IsNearOf c.args.board.now c.args.post) _

pub loop-name-preserved : goal.loop-name-preserved
loop-name-preserved g c =
    let tells = IsNearOf c.args.board.now c.args.post in
    let name = c.name-item.result in
    listed_step tells c.args.names.now c.loop-name.name-index name _ c.loop-name.sheet c.put_near.new.sheet c.loop-name-test.true c.loop-name.invariant
    (subst (λ (n : List ℕ). IsPut (tells n) c.loop-name.sheet c.put_near.new.sheet) c.name-item.is c.in_ok-put_near.ensures)

pub returns : goal.returns
returns g c =
    let tells = IsNearOf c.args.board.now c.args.post in
    let names = c.args.names.now in
    listed_closed tells names c.args.sheet.now c.begin_array.new.self c.loop-name.sheet c.end_array.new.self c.end_array.result c.in_ok-begin_array.ensures
    (subst (λ (ns : List (List ℕ)). AreListed tells ns c.begin_array.new.self c.loop-name.sheet) (take_all c.loop-name.name-index names (omega arith)) c.loop-name.invariant) c.end_array.ensures
