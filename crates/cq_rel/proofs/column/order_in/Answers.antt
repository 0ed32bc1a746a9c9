use Rattle.std.proofs.Common.{map, ap, sym, ◌∙◌}
use Rattle.std.specs.declared.cmp.Ordering.{Ordering}
use Rattle.std.specs.Ordering.{ordering_then}
use Rattle.cq_rel.specs.Tables.{turned, first_order}
use Rattle.cq_rel.proofs.Firsts.{on_equal, on_other}
use Rattle.cq_rel.proofs.column.order_in.Goals as goal

pub returns-then-not-is_eq : goal.returns-then-not-is_eq
returns-then-not-is_eq g c =
    let rest = first_order (map (λ v. v.now) c.args.firsts.now) (turned c.args.place c.args.values.now) in
    sym (on_other c.cmp-counts.result rest (sym c.is_eq.ensures ∙ c.if-not-is_eq.true)) ∙ ap (λ (o : Ordering). ordering_then o rest) c.cmp-counts.ensures

pub returns : goal.returns
returns g c =
    let rest = first_order (map (λ v. v.now) c.args.firsts.now) (turned c.args.place c.args.values.now) in
    c.order_of_turned.ensures
    ∙ sym (on_equal c.cmp-counts.result rest (sym c.is_eq.ensures ∙ c.if-not-is_eq.false)) ∙ ap (λ (o : Ordering). ordering_then o rest) c.cmp-counts.ensures
