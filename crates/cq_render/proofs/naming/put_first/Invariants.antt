use Rattle.std.proofs.Common.{◌≡◌, map, drop}
use Rattle.cq_render.specs.Steps.Walking.{shown_read}
use Rattle.cq_render.specs.Steps.Telling.{first_shown}
use Rattle.cq_render.proofs.naming.put_first.Given as goal

-- nothing is put, and none of the queries so far has the name
abbrev pub invariant-loop-shown : goal.invariant-loop-shown
invariant-loop-shown g l = record {
  sheet : l.sheet ≡ l.initial.sheet;
  others : first_shown l.listing.board.now l.name (map shown_read (drop l.shown-index l.listing.queries.items)) ≡ first_shown l.listing.board.now l.name (map shown_read l.listing.queries.items);
}
