use Rattle.std.specs.Prelude.{OnOk}
use Rattle.std.proofs.lemmas.Result.{on_ok_weaker}
use Rattle.cq_render.specs.Data.{IsPut}
use Rattle.cq_render.specs.Steps.Telling.{IsPartJson}
use Rattle.cq_render.proofs.Numbers.{unmatched_at}
use Rattle.cq_render.proofs.reasons.put_waiting.Goals as goal

pub part_of-requires-clause-waits : goal.part_of-requires-clause-waits
part_of-requires-clause-waits g c = unmatched_at c.args.fallen.now.listing.now.board.now c.args.name.now c.args.number c.requires.waits c.requires.there

pub put_part-requires : goal.put_part-requires
put_part-requires g c = rw c.deref.ensures.value c.in_ok-part.ensures.low

pub returns : goal.returns
returns g c =
    let pool = c.args.fallen.now.listing.now.board.now in
    let part = c.in_ok-part.part.items in
    let put : OnOk c.put_part.result (IsPut (IsPartJson pool c.args.name.now part) c.args.sheet.now c.put_part.new.sheet) = rw c.deref.ensures.value at c.put_part.ensures in
    on_ok_weaker c.put_part.result (λ put. (
      put.0,
      record {
        place = c.args.number;
        there = c.requires.there;
        part = part;
        reason = c.in_ok-part.ensures.part;
        steps = put.1.0;
        told = put.1.1;
        is = put.1.2;
      },
      put.2,
    )) put
