use Rattle.cq_render.proofs.reasons.put_given.Goals as goal

pub returns : goal.returns
returns g c = rw (c.deref.ensures.value, c.in_ok-each.ensures) at c.put_each.ensures
