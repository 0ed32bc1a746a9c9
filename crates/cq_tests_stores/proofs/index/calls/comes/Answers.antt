use Rattle.cq_tests_stores.proofs.Inserted.{got}
use Rattle.cq_tests_stores.proofs.index.calls.comes.Goals as goal

pub remove-requires : goal.remove-requires
remove-requires g c = got _ c.add.new.self c.args.place c.args.atom.now c.in_ok-add.ensures.ok
