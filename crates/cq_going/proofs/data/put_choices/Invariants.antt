use Rattle.std.proofs.Common.{◌≡◌, ◌++◌, drop}
use Rattle.cq_render.proofs.CallerLemmas.{listed}
use Rattle.cq_going.specs.Data.{choice_json}
use Rattle.cq_going.proofs.data.put_choices.Given as goal

-- the tokens, and the choices that are left
abbrev pub invariant-loop-choice : goal.invariant-loop-choice
invariant-loop-choice g l = l.sheet ++ listed (choice_json l.board.pending) (drop l.choice-index l.choices) ≡ l.initial.sheet ++ listed (choice_json l.board.pending) l.choices
