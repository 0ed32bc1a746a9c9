use Rattle.std.proofs.Common.{◌≡◌, ◌+◌, ◌≤◌, ◌++◌, ℕ, List, length}
use Rattle.cq_report.specs.Steps.Count.{lines_before}
use Rattle.cq_report.specs.Steps.Serving.{ServesOn, IsSound}
use Rattle.cq_report.proofs.serving.feed.Given as goal

-- what was served so far, and what is left of the piece
abbrev pub invariant-loop-last : goal.invariant-loop-last
invariant-loop-last g l = record {
  done : List ℕ;
  cut : done ++ l.rest ≡ l.piece;
  on : ServesOn l.manner g.W.Sink.taken g.W.Sink.write_failures l.fn.output l.output l.fn.script l.script l.fn.line l.line done;
  counted : lines_before l.script + length l.rest ≤ lines_before l.fn.script + length l.piece;
  sound : IsSound g.W.Sink.write_failures l.fn.output l.output;
}

abbrev pub decreases-loop-last : goal.decreases-loop-last
decreases-loop-last g l = length l.rest
