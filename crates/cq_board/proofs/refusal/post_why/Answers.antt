use Rattle.std.proofs.Common.{◌≤◌, ◌<◌, ℕ, true, false, sym, ap, subst, ◌∙◌}
use Rattle.cq_board.specs.Pool.{PoolRecord}
use Rattle.cq_board.specs.Edits.{query_why}
use Rattle.cq_board.specs.Steps.Stores.{pending_of}
use Rattle.cq_board.proofs.Refusals.{pool-full, with-room}
use Rattle.cq_board.proofs.refusal.post_why.Goals as goal

pub returns-then-len-limits : goal.returns-then-len-limits
returns-then-len-limits g c =
    let pool : PoolRecord = record { limits = c.args.limits; tables = c.args.tables.now; pending = pending_of c.args.stores.now } in
    pool-full pool c.args.name.now c.args.query.now (subst (λ (n : ℕ). c.args.limits.pool ≤ n) c.len.ensures c.if-len-limits.true)

pub returns-then-is_taken : goal.returns-then-is_taken
returns-then-is_taken g c =
    let pool : PoolRecord = record { limits = c.args.limits; tables = c.args.tables.now; pending = pending_of c.args.stores.now } in
    with-room pool c.args.name.now c.args.query.now (subst (λ (n : ℕ). n < c.args.limits.pool) c.len.ensures c.if-len-limits.false) true (sym c.if-is_taken.true ∙ c.is_taken.ensures)

pub returns : goal.returns
returns g c =
    let pool : PoolRecord = record { limits = c.args.limits; tables = c.args.tables.now; pending = pending_of c.args.stores.now } in
    c.query_why.ensures ∙ ap (λ catalog. query_why catalog c.args.query.now) c.catalog.ensures.value
    ∙ with-room pool c.args.name.now c.args.query.now (subst (λ (n : ℕ). n < c.args.limits.pool) c.len.ensures c.if-len-limits.false) false (sym c.if-is_taken.false ∙ c.is_taken.ensures)
