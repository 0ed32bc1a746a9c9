use Rattle.std.proofs.Common.{◌≡◌, ◌++◌, drop}
use Rattle.std.specs.Prelude.{string_bytes}
use Rattle.std.specs.List.{flat_map}
use Rattle.cq_ask.specs.Answer.{part_bytes}
use Rattle.cq_ask.proofs.counts.parts_text.Given as goal

abbrev pub invariant-loop-part : goal.invariant-loop-part
invariant-loop-part g l = string_bytes l.page ++ flat_map part_bytes (drop l.part-index l.parts) ≡ string_bytes l.initial.page ++ flat_map part_bytes l.parts
