use Rattle.std.proofs.Common.{◌≡◌, ◌++◌, drop}
use Rattle.std.specs.Prelude.{string_bytes}
use Rattle.std.specs.List.{flat_map}
use Rattle.cq_going.specs.Going.{offer_lines}
use Rattle.cq_going.proofs.listing.put_all_offers.Given as goal

-- the page, and the choices that are left
abbrev pub invariant-loop-choice : goal.invariant-loop-choice
invariant-loop-choice g l = string_bytes l.page ++ flat_map (offer_lines l.board.pending) (drop l.choice-index l.choices) ≡ string_bytes l.initial.page ++ flat_map (offer_lines l.board.pending) l.choices
