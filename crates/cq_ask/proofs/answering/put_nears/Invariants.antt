use Rattle.std.proofs.Common.{◌≡◌, [], take}
use Rattle.std.specs.Prelude.{string_bytes}
use Rattle.cq_render.specs.Explain.{ArePieces, IsNearTold}
use Rattle.cq_ask.proofs.answering.put_nears.Given as goal

-- the page has what is reported about the names so far
abbrev pub invariant-loop-name : goal.invariant-loop-name
invariant-loop-name g l = string_bytes l.initial.page ≡ [] → ArePieces (λ name. IsNearTold l.board.pending name l.post) (take l.name-index l.names) (string_bytes l.page)
