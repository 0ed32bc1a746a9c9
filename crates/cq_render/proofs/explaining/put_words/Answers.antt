use Rattle.cq_render.proofs.explaining.put_words.Goals as goal

pub parts-requires : goal.parts-requires
parts-requires g c = c.in_ok-looked.ensures.fell

pub put_told-requires : goal.put_told-requires
put_told-requires g c = rw (c.fallen_of.ensures.board, c.fallen_of.ensures.parts, c.in_ok-parts.ensures.falls) (record { fell = c.in_ok-looked.ensures.fell })
