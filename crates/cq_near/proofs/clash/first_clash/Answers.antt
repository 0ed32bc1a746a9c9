use Rattle.std.proofs.Common.{◌≡◌, ◌∙◌, ◌<◌, ◌+◌, ◌∷◌, ℕ, Bool, true, List, [], length, take, drop, get_or, sym, ap, subst, arith}
use Rattle.std.specs.Prelude.{Option, Some, not}
use mathlib.Core.Bool.{cond}
use Rattle.std.specs.List.{enumerate_from, find}
use Rattle.std.proofs.lemmas.List.{at_drop_more}
use Rattle.cq_atom.specs.Atom.{AtomRecord}
use Rattle.cq_rel.specs.Tables.{TablesRecord}
use Rattle.cq_ground.specs.Grounding.{has_grounding}
use Rattle.cq_near.specs.Clash.{clashes}
use Rattle.cq_near.proofs.clash.first_clash.Goals as goal

abbrev from : TablesRecord → List AtomRecord → ℕ → List AtomRecord → Option (ℕ × AtomRecord)
from tables body i left = find (clashes tables body) (enumerate_from i left)

-- an atom that has a grounding with those before it is passed over
passed : (tables : TablesRecord) (body : List AtomRecord) (n : ℕ) → n < length body → true ≡ has_grounding (take (n + 1) body) tables.rows → from tables body n (drop n body) ≡ from tables body (n + 1) (drop (n + 1) body)
passed tables [] n low has = absurd (omega (arith, low))
passed tables (first ∷ more) n low has =
    let body = first ∷ more in
    let atom = get_or body n first in
    at_drop_more (from tables body n) body n first low
    ∙ ap (λ (b : Bool). cond (not b) (Some (n, atom)) (from tables body (n + 1) (drop (n + 1) body))) (sym has)

pub loop-place-preserved : goal.loop-place-preserved
loop-place-preserved g c =
    let low : c.loop-place.place < length c.args.query.now.body = subst (λ (body : List AtomRecord). c.loop-place.place < length body) c.body-body.ensures.value c.loop-place-test.true in
    sym (passed c.args.tables.now c.args.query.now.body c.loop-place.place low (sym c.if-not-branch.false ∙ c.in_ok-has_grounding.ensures)) ∙ c.loop-place.invariant
