use Rattle.std.proofs.Common.{ℕ, List, map, subst, ap, arith}
use Rattle.std.proofs.lemmas.List.{take_all}
use Rattle.cq_render.specs.Data.{IsPut, IsWhyJson}
use Rattle.cq_render.specs.Steps.Telling.{AreListed}
use Rattle.cq_render.proofs.Telling.{listed_none, listed_read, listed_closed}
use Rattle.cq_render.proofs.reasons.put_whys.Goals as goal

pub loop-name-init : goal.loop-name-init
loop-name-init g c = listed_none (IsWhyJson c.args.fallen.now.listing.now.board.now) _

pub loop-name-preserved : goal.loop-name-preserved
loop-name-preserved g c =
    let pool = c.args.fallen.now.listing.now.board.now in
    let name = c.name-item.result in
    listed_read (IsWhyJson pool) (λ name. name.now) c.args.names.now c.loop-name.name-index name _ c.loop-name.sheet c.put_why.new.sheet c.loop-name-test.true c.loop-name.invariant
    (subst (λ (n : List ℕ). IsPut (IsWhyJson pool n) c.loop-name.sheet c.put_why.new.sheet) (ap (λ name. name.now) c.name-item.is) c.in_ok-put_why.ensures)

pub returns : goal.returns
returns g c =
    let pool = c.args.fallen.now.listing.now.board.now in
    let names = c.args.names.now in
    listed_closed (IsWhyJson pool) (map (λ name. name.now) names) c.args.sheet.now c.begin_array.new.self c.loop-name.sheet c.end_array.new.self c.end_array.result c.in_ok-begin_array.ensures
    (subst (λ those. AreListed (IsWhyJson pool) (map (λ name. name.now) those) c.begin_array.new.self c.loop-name.sheet) (take_all c.loop-name.name-index names (omega arith)) c.loop-name.invariant) c.end_array.ensures
