use Rattle.std.proofs.Common.{◌++◌, [], ap, sym, ◌∙◌}
use Rattle.cq_desk.specs.History.{edits_of}
use Rattle.cq_room.proofs.Marked.{edits_split}
use Rattle.cq_room.proofs.pair.PairWatched.logged.Goals as goal

pub returns : goal.returns
returns g c = sym (edits_split [] c.self.inside.trail) ∙ ap (λ p. edits_of p.history ++ p.pending) c.self.view_is
