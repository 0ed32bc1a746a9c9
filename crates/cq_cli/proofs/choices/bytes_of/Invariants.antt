use Rattle.std.proofs.Common.{◌≡◌, map, take}
use Rattle.cq_cli.proofs.choices.bytes_of.Given as goal

-- the words so far
abbrev pub invariant-loop-word : goal.invariant-loop-word
invariant-loop-word g l = map (λ word. word.now) l.bytes.items ≡ map (λ word. word.now) (take l.word-index l.words)
