use Rattle.std.proofs.Common.{◌≡◌, cond, Some, is_some, not, ◌&&◌, nat_eq, sym, ap, ◌∙◌}
use Rattle.std.specs.Map.{lookup}
use Rattle.cq_index.specs.Steps.Keys.{KeyContent, same_key, asked_key}
use Rattle.cq_index.specs.Steps.Buckets.{has_place}
use Rattle.cq_index.proofs.Changes.{taken_out}
use Rattle.cq_index.proofs.buckets.take_place.Goals as goal

pub returns-in-Some-clause-rest : goal.returns-in-Some-clause-rest
returns-in-Some-clause-rest g c k f =
    let old = c.args.buckets.now.entries in
    let after = c.get_mut.follows.lender c.take.new.self in
    let changes : lookup (same_key k) after.entries ≡ cond (same_key (asked_key c.args.asked) k) (Some c.take.new.self) (lookup (same_key k) old)
    = ((c.get_mut.follows.holds c.take.new.self).3 (ap is_some (sym c.in-Some.ensures.value))).0 k in
    changes ∙ ap (λ b. cond b (Some c.take.new.self) (lookup (same_key k) old)) f

pub returns-in-Some-clause-left : goal.returns-in-Some-clause-left
returns-in-Some-clause-left g c left =
    let key = asked_key c.args.asked in
    let old = c.args.buckets.now.entries in
    let after = c.get_mut.follows.lender c.take.new.self in
    let found : lookup (same_key key) old ≡ Some c.in-Some.bucket.now = sym c.in-Some.ensures.value in
    let changes : (k : KeyContent) → lookup (same_key k) after.entries ≡ cond (same_key key k) (Some c.take.new.self) (lookup (same_key k) old)
    = ((c.get_mut.follows.holds c.take.new.self).3 (ap is_some found)).0 in
    taken_out old after.entries key c.args.place (Some c.take.new.self) changes
    (λ p. c.take.ensures.left left p ∙ ap (λ o. not (nat_eq c.args.place p) && has_place o p) (sym found))

pub returns-in-Some-clause-none : goal.returns-in-Some-clause-none
returns-in-Some-clause-none g c none p = ap (λ o. not (nat_eq c.args.place p) && has_place o p) (sym c.in-Some.ensures.value) ∙ c.take.ensures.none none p
