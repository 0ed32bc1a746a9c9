use Rattle.std.proofs.Common.{◌≡◌, map, take}
use Rattle.cq_cli.proofs.choices.read_names.Given as goal

-- the names so far are those of the words so far
abbrev pub invariant-loop-word : goal.invariant-loop-word
invariant-loop-word g l = l.names.items ≡ map (λ word. word.now) (take l.word-index l.words)
