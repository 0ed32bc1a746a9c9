use Rattle.std.proofs.Common.{◌≡◌, ◌++◌, ℕ, List, drop}
use Rattle.std.specs.List.{flat_map}
use Rattle.cq_ask.specs.Answer.{part_bytes}
use Rattle.cq_report.specs.Steps.Written.{Puts}
use Rattle.cq_report.proofs.output.Output.put_counts.Given as goal

-- what was put so far, and the pieces that are left
abbrev pub invariant-loop-part : goal.invariant-loop-part
invariant-loop-part g l = record {
  done : List ℕ;
  put : Puts g.W.Sink.taken g.W.Sink.write_failures l.initial.self l.self done;
  cut : done ++ flat_map part_bytes (drop l.part-index l.parts) ≡ flat_map part_bytes l.parts;
}
