use Rattle.std.proofs.Common.{◌≡◌, ◌++◌, ℕ, List, map, drop}
use Rattle.std.specs.Prelude.{string_bytes}
use Rattle.std.specs.List.{flat_map}
use Rattle.cq_board.specs.Named.{matched_named}
use Rattle.cq_ask.specs.Answer.{went_line}
use Rattle.cq_ask.proofs.changing.put_gone.Given as goal

abbrev pub invariant-loop-name : goal.invariant-loop-name
invariant-loop-name g l =
    string_bytes l.page ++ flat_map (λ (name : List ℕ). went_line name (matched_named name l.now)) (map (λ name. name.now) (drop l.name-index l.names))
    ≡ string_bytes l.initial.page ++ flat_map (λ (name : List ℕ). went_line name (matched_named name l.now)) (map (λ name. name.now) l.names)
