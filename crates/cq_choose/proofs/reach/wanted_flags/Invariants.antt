use Rattle.std.proofs.Common.{◌≡◌, map, take}
use Rattle.std.specs.List.{list_any}
use Rattle.std.specs.Str.{bytes_eq}
use Rattle.cq_choose.proofs.reach.wanted_flags.Given as goal

abbrev pub invariant-loop-name : goal.invariant-loop-name
invariant-loop-name g l = l.flags.items ≡ map (λ name. list_any (bytes_eq name.now) l.wanted) (take l.name-index l.names)
