use Rattle.std.proofs.Common.{◌≡◌, cond, Some, is_some, ◌||◌, nat_eq, sym, ap, ◌∙◌}
use Rattle.std.specs.Map.{lookup}
use Rattle.cq_index.specs.Steps.Keys.{KeyContent, same_key, key_at, asked_key}
use Rattle.cq_index.specs.Steps.Buckets.{has_place}
use Rattle.cq_index.proofs.Changes.{put_in, kept_in, on_ok, on_err_of, changes_at}
use Rattle.cq_index.proofs.buckets.put.Goals as goal

pub returns-in-Some-clause-ok : goal.returns-in-Some-clause-ok
returns-in-Some-clause-ok g c =
    let key = key_at c.args.reach c.args.atom.now in
    let old = c.args.buckets.now.entries in
    let after = c.get_mut.follows.lender c.put.new.self in
    let found : lookup (same_key key) old ≡ Some c.in-Some.bucket.now = ap (λ (k : KeyContent). lookup (same_key k) old) (sym c.asked_of.ensures) ∙ sym c.in-Some.ensures.value in
    let changes : (k : KeyContent) → lookup (same_key k) after.entries ≡ cond (same_key key k) (Some c.put.new.self) (lookup (same_key k) old)
    = changes_at (asked_key c.asked_of.result) key c.asked_of.ensures old after.entries (Some c.put.new.self) ((c.get_mut.follows.holds c.put.new.self).3 (ap is_some (sym c.in-Some.ensures.value))).0 in
    on_ok c.put.result
    (λ inside. put_in old after.entries key c.args.place (Some c.put.new.self) changes (λ p. inside p ∙ ap (λ o. nat_eq c.args.place p || has_place o p) (sym found)))
    c.put.ensures.ok

pub returns-in-Some-clause-err : goal.returns-in-Some-clause-err
returns-in-Some-clause-err g c =
    let key = key_at c.args.reach c.args.atom.now in
    let old = c.args.buckets.now.entries in
    let after = c.get_mut.follows.lender c.put.new.self in
    let found : lookup (same_key key) old ≡ Some c.in-Some.bucket.now = ap (λ (k : KeyContent). lookup (same_key k) old) (sym c.asked_of.ensures) ∙ sym c.in-Some.ensures.value in
    let changes : (k : KeyContent) → lookup (same_key k) after.entries ≡ cond (same_key key k) (Some c.put.new.self) (lookup (same_key k) old)
    = changes_at (asked_key c.asked_of.result) key c.asked_of.ensures old after.entries (Some c.put.new.self) ((c.get_mut.follows.holds c.put.new.self).3 (ap is_some (sym c.in-Some.ensures.value))).0 in
    on_err_of c.put.result
    (λ inside. kept_in old after.entries key c.args.place (Some c.put.new.self) changes (λ p. inside p ∙ ap (λ o. has_place o p) (sym found)))
    c.put.ensures.err
