use Rattle.std.proofs.Common.{◌≡◌, ℕ, List, take, bytes_eq}
use Rattle.std.specs.HashMap.{get_by}
use Rattle.std.specs.List.{position}
use Rattle.cq_render.proofs.numbering.numbers_of.Given as goal

-- the names so far have their numbers
abbrev pub invariant-loop-number : goal.invariant-loop-number
invariant-loop-number g l = (wanted : List ℕ) → get_by (λ k. bytes_eq wanted k.now) l.numbers ≡ position (λ shown. bytes_eq wanted shown.name.now) (take l.number l.listing.queries.items)
