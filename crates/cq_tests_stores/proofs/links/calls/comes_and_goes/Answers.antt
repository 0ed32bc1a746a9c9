use Rattle.cq_links.specs.Links.{ends_of}
use Rattle.cq_tests_stores.proofs.Inserted.{got}
use Rattle.cq_tests_stores.proofs.links.calls.comes_and_goes.Goals as goal

pub remove-requires : goal.remove-requires
remove-requires g c = got _ c.add.new.self c.args.place (ends_of c.args.query.now) c.in_ok-_edges.ensures.ok
