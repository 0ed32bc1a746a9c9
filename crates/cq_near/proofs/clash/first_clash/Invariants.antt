use Rattle.std.proofs.Common.{◌≡◌, drop}
use Rattle.std.specs.List.{enumerate_from, find}
use Rattle.cq_near.specs.Clash.{clashes}
use Rattle.cq_near.proofs.clash.first_clash.Given as goal

-- the first of all atoms is the first of those to come
abbrev pub invariant-loop-place : goal.invariant-loop-place
invariant-loop-place g l =
    find (clashes l.tables l.query.body) (enumerate_from l.place (drop l.place l.query.body)) ≡ find (clashes l.tables l.query.body) (enumerate_from 0 l.query.body)
