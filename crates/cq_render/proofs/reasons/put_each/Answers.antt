use Rattle.cq_render.proofs.reasons.put_each.Goals as goal

pub parts-requires : goal.parts-requires
parts-requires g c = c.in_ok-looked.ensures.fell

pub put_whys-requires : goal.put_whys-requires
put_whys-requires g c = rw (c.fallen_of.ensures.board, c.fallen_of.ensures.parts, c.in_ok-parts.ensures.falls) (record { fell = c.in_ok-looked.ensures.fell })

pub returns : goal.returns
returns g c = rw (c.fallen_of.ensures.board, c.in_ok-looked.ensures.listing) at c.put_whys.ensures
