use Rattle.std.proofs.Common.{refl}
use Rattle.cq_index.proofs.Indexed.{indexed_alike, indexed_kept, nowhere_of, sets_after, from_ok}
use Rattle.cq_index.proofs.kept.keep.Goals as goal

pub returns-clause-ok : goal.returns-clause-ok
returns-clause-ok g c =
    sets_after c.args.places.now.entries c.reserve.new.self.entries c.insert.new.self.entries c.args.place c.args.atom.now c.in_ok-kept.kept c.reserve.ensures.entries
    (from_ok c.insert.result c.unwrap-none.result c.unwrap-none.ensures c.insert.ensures.updates).0 c.in_ok-kept.ensures

pub returns-clause-indexed : goal.returns-clause-indexed
returns-clause-indexed g c =
    indexed_kept c.args.places.now.entries c.insert.new.self.entries c.args.buckets.now.entries c.put_both.new.buckets.entries c.args.place c.args.atom.now
    c.requires.indexed c.requires.absent (returns-clause-ok g c) c.in_ok-put_both.ensures.ok

pub returns-clause-err : goal.returns-clause-err
returns-clause-err g c = tt

pub put_both-requires : goal.put_both-requires
put_both-requires g c = nowhere_of c.args.places.now.entries c.args.buckets.now.entries c.args.place c.requires.indexed c.requires.absent

pub returns-in_err-reserve-clause-indexed : goal.returns-in_err-reserve-clause-indexed
returns-in_err-reserve-clause-indexed g c =
    indexed_alike c.args.places.now.entries c.reserve.new.self.entries c.args.buckets.now.entries c.args.buckets.now.entries c.requires.indexed c.reserve.ensures.entries (λ k p. refl)

pub returns-in_err-kept-clause-indexed : goal.returns-in_err-kept-clause-indexed
returns-in_err-kept-clause-indexed g c =
    indexed_alike c.args.places.now.entries c.reserve.new.self.entries c.args.buckets.now.entries c.args.buckets.now.entries c.requires.indexed c.reserve.ensures.entries (λ k p. refl)

pub returns-in_err-put_both-clause-indexed : goal.returns-in_err-put_both-clause-indexed
returns-in_err-put_both-clause-indexed g c =
    indexed_alike c.args.places.now.entries c.reserve.new.self.entries c.args.buckets.now.entries c.put_both.new.buckets.entries c.requires.indexed c.reserve.ensures.entries c.in_err-put_both.ensures.err

pub unwrap-none-requires : goal.unwrap-none-requires
unwrap-none-requires g c = c.insert.ensures.succeeds c.in_ok-reserve.ensures.ok
