use Rattle.std.proofs.Common.{◌≡◌, ◌++◌, take, codes}
use Rattle.std.specs.Prelude.{string_bytes}
use Rattle.std.specs.List.{join_by}
use Rattle.cq_going.specs.Going.{choice_word}
use Rattle.cq_going.proofs.listing.put_words.Given as goal

-- the page has the choices so far
abbrev pub invariant-loop-place : goal.invariant-loop-place
invariant-loop-place g l = string_bytes l.page ≡ string_bytes l.initial.page ++ join_by choice_word (codes " ") (take l.place l.choices)
