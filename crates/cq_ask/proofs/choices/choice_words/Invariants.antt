use Rattle.std.proofs.Common.{map}
use Rattle.cq_ask.proofs.Words.{AreBegun}
use Rattle.cq_ask.proofs.choices.choice_words.Given as goal

-- the words so far, and the one that is begun
abbrev pub invariant-loop-i : goal.invariant-loop-i
invariant-loop-i g l = AreBegun l.text l.start l.i l.place (map (λ word. word.now) l.words.items)
