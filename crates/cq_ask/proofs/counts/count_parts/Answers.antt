use Rattle.cq_ask.proofs.Counted.{line_pieces}
use Rattle.cq_ask.proofs.counts.count_parts.Goals as goal

pub returns : goal.returns
returns c = line_pieces c.args.counts.now _ _ _ _ _ _ _ _ _ _ _ c.part.ensures c.part-2.ensures c.part-3.ensures c.part-4.ensures c.part-5.ensures c.part-6.ensures c.part-7.ensures c.part-8.ensures c.part-9.ensures c.part-10.ensures c.last_part.ensures
