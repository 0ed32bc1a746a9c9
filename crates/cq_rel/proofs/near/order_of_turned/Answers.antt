use Rattle.std.proofs.Common.{map, ap, sym, ◌∙◌}
use Rattle.std.specs.Ordering.{is_eq}
use Rattle.cq_rel.specs.Tables.{first_order}
use Rattle.cq_rel.proofs.Firsts.{on_equal, on_other}
use Rattle.cq_rel.proofs.Turned.{run-near, run-far}
use Rattle.cq_rel.proofs.near.order_of_turned.Goals as goal

pub returns-then-firsts-from : goal.returns-then-firsts-from
returns-then-firsts-from g c = c.order_of_first.ensures ∙ run-near (λ v. v.now) c.args.firsts.now c.args.column c.args.values.now c.turn.result.0.now c.turn.ensures.from c.if-firsts-from.true

pub returns-then-is_eq : goal.returns-then-is_eq
returns-then-is_eq g c =
    let near = map (λ v. v.now) c.split_at.result.0.now in
    let far = map (λ v. v.now) c.split_at.result.1.now in
    c.order_of_first-then-is_eq.ensures
    ∙ sym (on_equal (first_order near c.turn.result.0.now) (first_order far c.turn.result.1.now) (sym (ap is_eq c.order_of_first-order.ensures) ∙ sym c.is_eq.ensures ∙ c.if-is_eq.true))
    ∙ run-far (λ v. v.now) c.args.firsts.now c.split_at.result.0.now c.split_at.result.1.now c.args.column c.args.values.now c.turn.result.0.now c.turn.result.1.now c.split_at.ensures.front c.split_at.ensures.back c.turn.ensures.from c.turn.ensures.before c.split_at.ensures.front_len

pub returns : goal.returns
returns g c =
    let near = map (λ v. v.now) c.split_at.result.0.now in
    let far = map (λ v. v.now) c.split_at.result.1.now in
    c.order_of_first-order.ensures
    ∙ sym (on_other (first_order near c.turn.result.0.now) (first_order far c.turn.result.1.now) (sym (ap is_eq c.order_of_first-order.ensures) ∙ sym c.is_eq.ensures ∙ c.if-is_eq.false))
    ∙ run-far (λ v. v.now) c.args.firsts.now c.split_at.result.0.now c.split_at.result.1.now c.args.column c.args.values.now c.turn.result.0.now c.turn.result.1.now c.split_at.ensures.front c.split_at.ensures.back c.turn.ensures.from c.turn.ensures.before c.split_at.ensures.front_len
