use Rattle.std.proofs.Common.{sym, ◌∙◌}
use Rattle.cq_index.proofs.Indexed.{indexed_forgotten}
use Rattle.cq_index.proofs.kept.forget.Goals as goal

pub returns-clause-indexed : goal.returns-clause-indexed
returns-clause-indexed g c =
    indexed_forgotten c.args.places.now.entries c.swap_remove.new.self.entries c.args.buckets.now.entries c.take_both.new.buckets.entries c.args.place c.unwrap-atom.result
    c.requires.indexed (sym c.swap_remove.ensures.value ∙ c.unwrap-atom.ensures) c.swap_remove.ensures.updates.0 c.take_both.ensures
