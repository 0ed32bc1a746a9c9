use Rattle.std.proofs.Common.{◌≡◌, ◌≤◌, ℕ, zero-le, Bool, length, vec_len, Ok, sym, ap, subst, ◌∙◌, arith}
use Rattle.std.proofs.lemmas.Result.{err_from_is_err_and}
use Rattle.cq_text.specs.Steps.Lists.{value_at, values_at}
use Rattle.cq_text.specs.Forms.{most_terms}
use Rattle.cq_text.proofs.Loops.{at_numbers, fails_at_numbers, value_needs, begins, step_fails, step_more, step_done, step_room, some_arity}
use Rattle.cq_text.proofs.reading.Reader.values.Goals as goal

pub values-init : goal.values-init
unfolding values_at
values-init g c = record {
  few = subst (λ (n : ℕ). n ≤ most_terms c.args.form) (sym c.in_ok-values.ensures.len) zero-le;
  goes_on = begins value_at (most_terms c.args.form) c.in_ok-values.values.items (vec_len c.in_ok-values.values) c.args.self.now c.in_ok-values.ensures.items c.in_ok-values.ensures.len;
}

pub returns-in_err-value-clause-values : goal.returns-in_err-value-clause-values
returns-in_err-value-clause-values g c =
    let p = err_from_is_err_and c.from_residual-in_err-value.result c.from_residual-in_err-value.ensures.1 in
    let h = fails_at_numbers value_at c.in_err-value.field-0.0 _ _ (vec_len c.values.values) (most_terms c.args.form) c.values.self c.len.ensures c.max_terms.ensures c.in_err-value.ensures in
    rw (p.1, p.2) (step_fails value_at c.in_err-value.field-0.0 (most_terms c.args.form) c.values.values.items (vec_len c.values.values) c.values.self (values_at c.args.form c.args.self.now) value_needs c.values.invariant.few c.values.invariant.goes_on h)

pub returns-then-not-has_more-clause-values : goal.returns-then-not-has_more-clause-values
returns-then-not-has_more-clause-values g c =
    let h = at_numbers value_at _ _ (vec_len c.values.values) (most_terms c.args.form) c.values.self _ c.len.ensures c.max_terms.ensures c.in_ok-value.ensures ∙ ap (λ (more : Bool). Ok (c.in_ok-value.value, more, c.value.new.self)) c.if-not-has_more.true in
    rw c.in_ok-push.ensures.items (step_done value_at (most_terms c.args.form) c.values.values.items (vec_len c.values.values) c.values.self c.value.new.self c.in_ok-value.value (values_at c.args.form c.args.self.now) value_needs c.values.invariant.few c.values.invariant.goes_on h)

pub values-smaller : goal.values-smaller
values-smaller g c =
    let h = at_numbers value_at _ _ (vec_len c.values.values) (most_terms c.args.form) c.values.self _ c.len.ensures c.max_terms.ensures c.in_ok-value.ensures in
    let lt = step_room value_at (most_terms c.args.form) (vec_len c.values.values) c.values.self _ value_needs c.values.invariant.few h in
    omega (arith, lt, c.in_ok-push.ensures.len)

pub values-preserved : goal.values-preserved
values-preserved g c =
    let h = at_numbers value_at _ _ (vec_len c.values.values) (most_terms c.args.form) c.values.self _ c.len.ensures c.max_terms.ensures c.in_ok-value.ensures ∙ ap (λ (more : Bool). Ok (c.in_ok-value.value, more, c.value.new.self)) c.if-not-has_more.false in
    let lt = step_room value_at (most_terms c.args.form) (vec_len c.values.values) c.values.self _ value_needs c.values.invariant.few h in
    record {
      few = omega (arith, lt, c.in_ok-push.ensures.len);
      goes_on = rw (c.in_ok-push.ensures.len, c.in_ok-push.ensures.items) (step_more value_at (most_terms c.args.form) c.values.values.items (vec_len c.values.values) c.values.self c.value.new.self c.in_ok-value.value (values_at c.args.form c.args.self.now) value_needs c.values.invariant.few c.values.invariant.goes_on h);
    }

pub returns-then-not-has_more-clause-arity : goal.returns-then-not-has_more-clause-arity
returns-then-not-has_more-clause-arity g c =
    let h = at_numbers value_at _ _ (vec_len c.values.values) (most_terms c.args.form) c.values.self _ c.len.ensures c.max_terms.ensures c.in_ok-value.ensures in
    let lt = step_room value_at (most_terms c.args.form) (vec_len c.values.values) c.values.self _ value_needs c.values.invariant.few h in
    let count : length c.push.new.self.items ≡ vec_len c.push.new.self = sym c.push.new.self.ok.0 in
    rw (count, c.in_ok-push.ensures.len) (some_arity c.args.form (vec_len c.values.values) lt)
