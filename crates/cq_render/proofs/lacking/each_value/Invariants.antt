use Rattle.std.proofs.Common.{◌≡◌, map, take}
use Rattle.std.specs.Prelude.{string_bytes}
use Rattle.cq_text.specs.Print.{printed_value}
use Rattle.cq_render.proofs.lacking.each_value.Given as goal

-- the words so far are those of the values so far
abbrev pub invariant-loop-value : goal.invariant-loop-value
invariant-loop-value g l = map string_bytes l.words.items ≡ map printed_value (map (λ value. value.now) (take l.value-index l.values))
