use Rattle.std.proofs.Common.{subst}
use Rattle.cq_index.specs.Steps.Keys.{KeyContent, key_of, group_of}
use Rattle.cq_index.specs.Steps.Buckets.{Takes}
use Rattle.cq_index.proofs.Changes.{puts_both, put_undone}
use Rattle.cq_index.proofs.buckets.put_both.Goals as goal

pub returns-in-Ok-clause-ok : goal.returns-in-Ok-clause-ok
returns-in-Ok-clause-ok g c =
    puts_both c.args.buckets.now.entries c.put.new.buckets.entries c.put-2.new.buckets.entries (key_of c.args.atom.now) (group_of c.args.atom.now) c.args.place
    c.in_ok-put.ensures.ok c.in-Ok.ensures.ok

pub returns-in-Err-clause-err : goal.returns-in-Err-clause-err
returns-in-Err-clause-err g c =
    put_undone c.args.buckets.now.entries c.put.new.buckets.entries c.put-2.new.buckets.entries c.take.new.buckets.entries (key_of c.args.atom.now) c.args.place
    c.requires c.in_ok-put.ensures.ok c.in-Err.ensures.err
    (subst (λ (k : KeyContent). Takes c.put-2.new.buckets.entries k c.args.place c.take.new.buckets.entries) c.asked_of.ensures c.take.ensures)
