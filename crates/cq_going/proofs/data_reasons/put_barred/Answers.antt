use Rattle.std.proofs.Common.{◌++◌, ◌∙◌, List, ap, sym, append-nil}
use Rattle.json.specs.Token.{Token}
use Rattle.cq_board.specs.Named.{matched_named}
use Rattle.cq_going.proofs.JsonTellings.{matched_alone, barred_alone}
use Rattle.cq_going.proofs.Tellings.{on_ok}
use Rattle.cq_going.proofs.data_reasons.put_barred.Goals as goal

pub returns-then-is_matched : goal.returns-then-is_matched
returns-then-is_matched g c =
    let pool = c.args.board.now in
    let name = c.args.name.now in
    sym (append-nil c.args.sheet.now) ∙ ap (λ (z : List Token). c.args.sheet.now ++ z) (sym (matched_alone pool name (matched_named name pool) (sym c.is_matched.ensures ∙ c.if-is_matched.true)))

pub returns : goal.returns
returns g c =
    let pool = c.args.board.now in
    let name = c.args.name.now in
    on_ok c.put_standing.result
    (λ is. is ∙ ap (λ (z : List Token). c.args.sheet.now ++ z) (sym (barred_alone pool name (matched_named name pool) (sym c.is_matched.ensures ∙ c.if-is_matched.false)))) c.put_standing.ensures
