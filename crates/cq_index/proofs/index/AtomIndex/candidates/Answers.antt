use Rattle.std.proofs.Common.{sym, subst}
use Rattle.std.specs.List.Sorted.{IsStrictlyIncreasing}
use Rattle.cq_index.proofs.Gathered.{listed_sorted, candidates_exact, candidates_increase}
use Rattle.cq_index.proofs.index.AtomIndex.candidates.Goals as goal

pub returns-clause-listed : goal.returns-clause-listed
returns-clause-listed g c = listed_sorted c.args.self.now c.args.atom.now c.in_ok-places.places.items c.sort_unstable.new.self.items
    c.in_ok-places.ensures.members c.in_ok-places.ensures.distinct c.sort_unstable.ensures.permutation c.sort_unstable.ensures.sorted

pub returns-clause-exact : goal.returns-clause-exact
returns-clause-exact g c p = rw (returns-clause-listed g c) (candidates_exact c.args.self.now c.args.atom.now p)

pub returns-clause-rising : goal.returns-clause-rising
returns-clause-rising g c = subst IsStrictlyIncreasing (sym (returns-clause-listed g c)) (candidates_increase c.args.self.now c.args.atom.now)
