use Rattle.std.proofs.Common.{◌≡◌, [], take}
use Rattle.std.specs.Prelude.{string_bytes}
use Rattle.cq_render.specs.Explain.{AreReasonLines}
use Rattle.cq_render.proofs.explaining.put_lines.Given as goal

-- the page has the lines so far
abbrev pub invariant-loop-fall : goal.invariant-loop-fall
invariant-loop-fall g l = string_bytes l.initial.page ≡ [] → AreReasonLines l.layout.front.now l.layout.separator.now l.layout.hints l.extent l.fallen.listing.now.board.now (take l.fall-index l.falls) (string_bytes l.page)
