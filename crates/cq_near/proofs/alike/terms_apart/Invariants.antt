use Rattle.std.proofs.Common.{◌≡◌, ◌≤◌, ◌+◌, ◌*◌, ◌-◌, map, take, length}
use Rattle.std.specs.Prelude.{max, min, zip, fold}
use Rattle.cq_atom.specs.Atom.{constant_of}
use Rattle.cq_near.specs.Alike.{apart_at}
use Rattle.cq_near.proofs.alike.terms_apart.Given as goal

-- the places so far are counted
abbrev pub invariant-loop-place : goal.invariant-loop-place
invariant-loop-place g l = record {
  so_far : l.changes
      ≡ fold (λ changes places. changes + apart_at places.0 places.1) (max (length l.wanted) (length l.there) - min (length l.wanted) (length l.there)) (take l.place (zip (map constant_of l.wanted) (map constant_of l.there)));
  few : l.changes ≤ 16 + l.place * 18446744073709551615;
}
