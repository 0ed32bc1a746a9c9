use Rattle.std.proofs.Common.{subst}
use Rattle.cq_index.specs.Steps.Keys.{KeyContent, key_of, group_of}
use Rattle.cq_index.specs.Steps.Buckets.{Takes}
use Rattle.cq_index.proofs.Changes.{takes_both}
use Rattle.cq_index.proofs.buckets.take_both.Goals as goal

pub returns : goal.returns
returns g c =
    takes_both c.args.buckets.now.entries c.take.new.buckets.entries c.take-2.new.buckets.entries (key_of c.args.atom.now) (group_of c.args.atom.now) c.args.place
    (subst (λ (k : KeyContent). Takes c.args.buckets.now.entries k c.args.place c.take.new.buckets.entries) c.asked_of.ensures c.take.ensures)
    (subst (λ (k : KeyContent). Takes c.take.new.buckets.entries k c.args.place c.take-2.new.buckets.entries) c.asked_of-2.ensures c.take-2.ensures)
