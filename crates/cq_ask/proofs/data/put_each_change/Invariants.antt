use Rattle.std.proofs.Common.{◌≡◌, ◌++◌, ℕ, List, map, drop}
use Rattle.std.specs.List.{flat_map}
use Rattle.cq_board.specs.Named.{matched_named}
use Rattle.cq_ask.specs.Data.{change_word, changed_json}
use Rattle.cq_ask.specs.Steps.Several.{all_tokens}
use Rattle.cq_ask.proofs.data.put_each_change.Given as goal

abbrev pub invariant-loop-name : goal.invariant-loop-name
invariant-loop-name g l =
    l.sheet ++ all_tokens (flat_map (λ (name : List ℕ). changed_json l.now name (change_word (matched_named name l.before) (matched_named name l.now))) (map (λ name. name.now) (drop l.name-index l.names)))
    ≡ l.initial.sheet ++ all_tokens (flat_map (λ (name : List ℕ). changed_json l.now name (change_word (matched_named name l.before) (matched_named name l.now))) (map (λ name. name.now) l.names))
