use Rattle.std.proofs.Common.{◌≡◌, map, take}
use Rattle.cq_render.proofs.explaining.words_of.Given as goal

-- the words so far are the names so far
abbrev pub invariant-loop-name : goal.invariant-loop-name
invariant-loop-name g l = map (λ word. word.now) l.words.items ≡ map (λ name. name.now) (take l.name-index l.names)
