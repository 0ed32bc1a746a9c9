use Rattle.cq_render.proofs.reasons.put_unmet_by.Goals as goal

pub returns : goal.returns
returns g c = rw (c.deref.ensures.value, c.in_ok-names.ensures) at c.put_unmet_post.ensures
