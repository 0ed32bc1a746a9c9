use Rattle.cq_ask.proofs.Counted.{member_pieces}
use Rattle.cq_ask.proofs.counts.count_members.Goals as goal

pub returns : goal.returns
returns c = member_pieces c.args.counts.now _ _ _ _ _ _ _ _ _ _ _ c.value_part.ensures c.value_part-2.ensures c.value_part-3.ensures c.value_part-4.ensures c.value_part-5.ensures c.value_part-6.ensures c.value_part-7.ensures c.value_part-8.ensures c.value_part-9.ensures c.value_part-10.ensures c.last_part.ensures
