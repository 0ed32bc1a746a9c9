use Rattle.std.proofs.Common.{map, take}
use Rattle.cq_ask.specs.Choices.{ArePaired}
use Rattle.cq_cli.proofs.sessions.read_files.Given as goal

-- the bytes of the files so far
abbrev pub invariant-loop-path : goal.invariant-loop-path
invariant-loop-path g l = ArePaired (g.S.Shelf.held l.shelf) (map (λ path. path.now) (take l.path-index l.paths)) (map (λ file. file.items) l.files.items)
