use Rattle.std.proofs.Common.{◌≡◌, ◌∙◌, ◌+◌, ℕ, List, drop, length, ap, sym, subst, Some, arith}
use Rattle.std.specs.Prelude.{fold}
use Rattle.std.specs.List.{slice_get}
use Rattle.cq_rel.specs.Tables.{Declaration, declaration, rows_in}
use Rattle.cq_ask.proofs.Counted.{fold_at}
use Rattle.cq_ask.proofs.counts.row_count.Goals as goal

pub loop-place-preserved : goal.loop-place-preserved
loop-place-preserved g c =
    let tables = c.args.tables.now in
    let i = c.loop-place.place in
    let count = c.loop-place.count in
    let declared = declaration c.in-Some.entry.0.now c.in-Some.entry.1 in
    let more : ℕ → Declaration → ℕ = λ count declared. count + length (rows_in declared.relation tables) in
    let there = subst (λ (ds : List Declaration). slice_get ds i ≡ Some declared) c.catalog-catalog.ensures.value c.in-Some.ensures in
    record {
      sum = ap (λ (n : ℕ). fold more (count + n) (drop (i + 1) tables.catalog)) c.rows_of.ensures ∙ sym (fold_at more count tables.catalog i declared there) ∙ c.loop-place.invariant.sum;
      small = omega (arith, c.loop-place.invariant.small);
    }
