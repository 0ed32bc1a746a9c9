use Rattle.std.proofs.Common.{◌≡◌, cond, Some, ap, ◌∙◌}
use Rattle.std.specs.Map.{lookup}
use Rattle.std.specs.Cmp.{nat_eq_equiv}
use Rattle.cq_index.specs.declared.buckets.Bucket.TheVariants.{One}
use Rattle.cq_index.specs.Steps.Keys.{KeyContent, same_key, key_at}
use Rattle.cq_index.proofs.Changes.{put_in, began}
use Rattle.cq_index.proofs.buckets.begin_bucket.Goals as goal

pub returns-clause-ok : goal.returns-clause-ok
returns-clause-ok g c =
    let key = key_at c.args.reach c.args.atom.now in
    let changes : (k : KeyContent) → lookup (same_key k) c.insert.new.self.entries ≡ cond (same_key key k) (Some (One c.args.place)) (lookup (same_key k) c.args.buckets.now.entries)
    = λ k. c.in_ok-insert.ensures.updates.0 k ∙ ap (λ (l : KeyContent). cond (same_key l k) (Some (One c.args.place)) (lookup (same_key k) c.args.buckets.now.entries)) c.in_ok-key.ensures in
    put_in c.args.buckets.now.entries c.insert.new.self.entries key c.args.place (Some (One c.args.place)) changes
    (λ p. began p c.args.place _ (nat_eq_equiv.symm p c.args.place) (c.requires p))
