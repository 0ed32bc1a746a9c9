use Rattle.std.proofs.Common.{◌≡◌, ◌++◌, drop}
use Rattle.cq_board.specs.Named.{matched_named}
use Rattle.cq_going.specs.Data.{barred_if}
use Rattle.cq_going.proofs.Tokens.{spread}
use Rattle.cq_going.proofs.data_reasons.put_all_barred.Given as goal

-- the tokens, and the names that are left
abbrev pub invariant-loop-name : goal.invariant-loop-name
invariant-loop-name g l =
    l.sheet ++ spread (λ name. barred_if l.board name (matched_named name l.board)) (drop l.name-index l.names) ≡ l.initial.sheet ++ spread (λ name. barred_if l.board name (matched_named name l.board)) l.names
