use Rattle.std.proofs.Common.{◌≡◌, ◌++◌, ◌∙◌, map, true, false, ap, subst, sym, length, arith}
use Rattle.std.specs.Prelude.{OnOk}
use Rattle.std.specs.Str.{bytes_eq}
use Rattle.json.specs.Json.{Json}
use Rattle.json.specs.Tree.{json_tokens}
use Rattle.cq_render.specs.Data.{standing_json, named_json}
use Rattle.cq_render.specs.Steps.Walking.{shown_read, shown_json}
use Rattle.cq_render.specs.Steps.Telling.{first_shown}
use Rattle.cq_render.proofs.Pieces.{read_at, nothing_left}
use Rattle.cq_render.proofs.Telling.{first_is, first_here, first_later}
use Rattle.cq_render.proofs.naming.put_first.Goals as goal

pub loop-shown-preserved : goal.loop-shown-preserved
loop-shown-preserved g c =
    let listing = c.args.listing.now in
    let items = listing.queries.items in
    let name = c.args.name.now in
    let shown = c.shown-item.result in
    let got = rw c.deref-shown-items.ensures.value at (read_at c.deref-shown-items.result.now c.loop-shown.shown-index shown c.loop-shown-test.true c.shown-item.is) in
    let other : bytes_eq shown.name.now name ≡ false = rw (c.as_str.ensures.bytes, c.as_str-in-loop-shown.ensures.bytes) at (sym c.eq.ensures ∙ c.if-eq.false) in
    record {
      sheet = c.loop-shown.invariant.sheet;
      others = first_later listing.board.now name shown_read items c.loop-shown.shown-index shown got other ∙ c.loop-shown.invariant.others;
    }

pub returns-then-eq : goal.returns-then-eq
returns-then-eq g c =
    let listing = c.args.listing.now in
    let pool = listing.board.now in
    let items = listing.queries.items in
    let name = c.args.name.now in
    let shown = c.shown-item.result in
    let got = rw c.deref-shown-items.ensures.value at (read_at c.deref-shown-items.result.now c.loop-shown.shown-index shown c.loop-shown-test.true c.shown-item.is) in
    let here : bytes_eq shown.name.now name ≡ true = rw (c.as_str.ensures.bytes, c.as_str-in-loop-shown.ensures.bytes) at (sym c.eq.ensures ∙ c.if-eq.true) in
    let found : shown_json pool.pending (shown_read shown) ≡ named_json pool name =
    first_here pool name shown_read items c.loop-shown.shown-index shown got here ∙ c.loop-shown.invariant.others ∙ ap (first_shown pool name) listing.walked ∙ first_is pool name 0 pool.pending in
    subst (λ (value : Json). OnOk c.put_query.result (c.put_query.new.sheet ≡ c.args.sheet.now ++ json_tokens value)) found (rw c.loop-shown.invariant.sheet at c.put_query.ensures)

pub returns : goal.returns
returns g c =
    let listing = c.args.listing.now in
    let pool = listing.board.now in
    let items = listing.queries.items in
    let name = c.args.name.now in
    let has : length c.deref-shown-items.result.now ≡ length items = ap length c.deref-shown-items.ensures.value in
    let found : standing_json pool name ≡ named_json pool name =
    ap (λ left. first_shown pool name (map shown_read left)) (sym (nothing_left items c.loop-shown.shown-index (omega arith))) ∙ c.loop-shown.invariant.others ∙ ap (first_shown pool name) listing.walked ∙ first_is pool name 0 pool.pending in
    subst (λ (value : Json). OnOk c.put_standing.result (c.put_standing.new.sheet ≡ c.args.sheet.now ++ json_tokens value)) found (rw c.loop-shown.invariant.sheet at c.put_standing.ensures)
