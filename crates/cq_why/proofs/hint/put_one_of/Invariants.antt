use Rattle.std.proofs.Common.{◌≡◌, ◌++◌, map, drop, length}
use Rattle.std.specs.Prelude.{string_bytes}
use Rattle.std.specs.List.{enumerate_from, flat_map}
use Rattle.cq_why.specs.Why.{separator}
use Rattle.cq_why.proofs.hint.put_one_of.Given as goal

-- the page, and the words that are left
abbrev pub invariant-loop-place : goal.invariant-loop-place
invariant-loop-place g l =
    string_bytes l.page ++ flat_map (λ word. separator (length l.words) word.0 ++ word.1) (enumerate_from l.place (map (λ word. word.now) (drop l.place l.words)))
    ≡ string_bytes l.initial.page ++ flat_map (λ word. separator (length l.words) word.0 ++ word.1) (enumerate_from 0 (map (λ word. word.now) l.words))
