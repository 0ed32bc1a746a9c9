use Rattle.std.proofs.Common.{◌≡◌, [], map, take}
use Rattle.std.specs.Prelude.{string_bytes}
use Rattle.cq_cli.specs.Explained.{absent_lines}
use Rattle.cq_cli.proofs.absent.put_absent.Given as goal

-- the page has the lines of the names so far
abbrev pub invariant-loop-name : goal.invariant-loop-name
invariant-loop-name g l = string_bytes l.initial.page ≡ [] → string_bytes l.page ≡ absent_lines l.board (map (λ name. name.now) (take l.name-index l.names))
