use Rattle.std.proofs.Common.{◌≡◌, ℕ, ◌||◌, nat_eq, take}
use Rattle.std.specs.BTreeSet.{contains}
use Rattle.std.specs.HashMap.{get}
use Rattle.std.specs.Ordering.{nat_cmp}
use Rattle.cq_match.specs.Steps.Resting.{is_sender_at}
use Rattle.cq_match.proofs.resting.want_providers.Given as goal

-- the places of the providers of the edges so far are wanted
abbrev pub invariant-loop-edge : goal.invariant-loop-edge
invariant-loop-edge g l = (n : ℕ) → contains nat_cmp l.wanted n ≡ (contains nat_cmp l.fn.wanted n || is_sender_at (get nat_eq l.places) l.post (take l.edge-index l.edges) n)
