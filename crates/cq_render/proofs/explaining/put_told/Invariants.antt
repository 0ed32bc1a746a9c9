use Rattle.std.proofs.Common.{◌≡◌, [], map, take}
use Rattle.std.specs.Prelude.{string_bytes}
use Rattle.cq_render.specs.Explain.{ArePieces, IsTold}
use Rattle.cq_render.proofs.explaining.put_told.Given as goal

-- the page has what is reported about the words so far
abbrev pub invariant-loop-word : goal.invariant-loop-word
invariant-loop-word g l = string_bytes l.initial.page ≡ [] → ArePieces (IsTold l.extent l.fallen.listing.now.board.now) (map (λ word. word.now) (take l.word-index l.words)) (string_bytes l.page)
