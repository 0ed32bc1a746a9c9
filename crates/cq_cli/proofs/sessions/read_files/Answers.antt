use Rattle.std.proofs.Common.{Bor, List, ℕ, subst, map}
use Rattle.std.proofs.lemmas.List.{take_all}
use Rattle.cq_ask.specs.Choices.{ArePaired}
use Rattle.cq_ask.proofs.CallerLemmas.{paired-length, paired-next}
use Rattle.cq_cli.proofs.sessions.read_files.Goals as goal

pub loop-path-preserved : goal.loop-path-preserved
loop-path-preserved g c =
    rw c.in-Ok.ensures.items
    (paired-next (g.S.Shelf.held c.args.shelf.now) (λ path. path.now) (λ file. file.items) c.args.paths.now c.loop-path.path-index _ c.loop-path.files.items c.in_ok-bytes.bytes c.loop-path-test.true c.loop-path.invariant c.in_ok-bytes.ensures)

pub returns-clause-held : goal.returns-clause-held
returns-clause-held g c =
    subst (λ (paths : List (Bor (List ℕ))). ArePaired (g.S.Shelf.held c.args.shelf.now) (map (λ path. path.now) paths) (map (λ file. file.items) c.loop-path.files.items))
    (take_all c.loop-path.path-index c.args.paths.now c.loop-path-test.false) c.loop-path.invariant

pub returns-clause-count : goal.returns-clause-count
returns-clause-count g c = paired-length (g.S.Shelf.held c.args.shelf.now) (λ path. path.now) (λ file. file.items) c.args.paths.now c.loop-path.files.items (returns-clause-held g c)
