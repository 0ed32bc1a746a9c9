use Rattle.std.proofs.Common.{◌≡◌, [], take}
use Rattle.std.specs.Prelude.{string_bytes}
use Rattle.cq_render.specs.Explain.{ArePieces}
use Rattle.cq_cli.specs.Noted.{IsNoted}
use Rattle.cq_cli.proofs.noting.put_notes.Given as goal

-- the page has what is told of the choices so far
abbrev pub invariant-loop-choice : goal.invariant-loop-choice
invariant-loop-choice g l = string_bytes l.initial.page ≡ [] → ArePieces (IsNoted l.board) (take l.choice-index l.choices) (string_bytes l.page)
