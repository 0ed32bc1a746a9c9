use Rattle.std.proofs.Common.{◌≡◌, ℕ, ◌+◌, min, List, ◌++◌, drop}
use Rattle.cq_index.specs.Index.{IsPartnerAt}
use Rattle.cq_index.specs.Steps.Picks.{Picks}
use Rattle.cq_index.proofs.index.AtomIndex.partners.Given as goal

abbrev pub invariant-loop-place : goal.invariant-loop-place
invariant-loop-place g l = record {
  counted : l.meter ≡ min (l.fn.meter + l.place-index) 18446744073709551615;
  picks : (rest : List ℕ) → Picks (IsPartnerAt l.self l.atom) (drop l.place-index l.place-items) rest → Picks (IsPartnerAt l.self l.atom) l.place-items (l.partners.items ++ rest);
}
