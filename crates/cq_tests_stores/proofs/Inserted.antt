-- What was put at a place stands there.
use Rattle.std.proofs.Common.{◌≡◌, ℕ, Some, cond, ap, ◌∙◌}
use Rattle.std.specs.Ordering.{nat_cmp}
use Rattle.std.specs.FinMap.{FinMap, get, insert, get-insert}
use Rattle.std.proofs.lemmas.Cmp.{nat_cmp_total, eq_by_cmp_equiv}

pub got : {X : Type 0} (m n : FinMap nat_cmp X) (k : ℕ) (v : X) → n ≡ insert m k v → get n k ≡ Some v
got m n k v e =
    ap (λ o. get o k) e
    ∙ get-insert nat_cmp_total m k v k
    ∙ ap (λ b. cond b (Some v) (get m k)) ((eq_by_cmp_equiv nat_cmp_total).refl k)
