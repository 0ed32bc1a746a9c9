use Rattle.std.proofs.Common.{ℕ, ◌+◌, ◌∷◌, [], length, length-append, ap, ◌∙◌, arith}
use Rattle.cq_rel.proofs.Whole.{kept-begun, begun, none-more}
use Rattle.cq_rel.proofs.tables.Tables.begin.Goals as goal

pub invariant_of-result : goal.invariant_of-result
invariant_of-result g c = kept-begun c.args.catalog c.loop.tables.items c.len-count.ensures.valid c.loop.invariant.empty (omega (arith, c.loop.invariant.count, c.len-count.ensures.value))

pub returns : goal.returns
returns g c = begun c.args.catalog c.loop.tables.items c.loop.invariant.empty

pub loop-smaller : goal.loop-smaller
loop-smaller g c = omega (arith, c.loop-test.true)

pub loop-preserved : goal.loop-preserved
loop-preserved g c =
    let more = c.in_ok-push.ensures.items in
    record {
      empty = none-more c.loop.tables.items c.push.new.self.items c.in_ok-new.field-0 c.loop.invariant.empty c.in_ok-new.ensures more;
      count = ap length more ∙ length-append c.loop.tables.items (c.in_ok-new.field-0 ∷ []) ∙ ap (λ (n : ℕ). n + 1) c.loop.invariant.count;
    }
