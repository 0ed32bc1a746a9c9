use Rattle.std.proofs.Common.{◌≡◌, map, take}
use Rattle.std.specs.List.{list_any}
use Rattle.std.specs.Str.{bytes_eq}
use Rattle.cq_render.proofs.keeping.named.Given as goal

-- the flags so far are those of the names so far
abbrev pub invariant-loop-name : goal.invariant-loop-name
invariant-loop-name g l = l.flags.items ≡ map (λ name. list_any (λ word. bytes_eq name.now word.now) l.words) (take l.name-index l.names)
