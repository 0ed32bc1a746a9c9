use Rattle.cq_render.proofs.once.explain_once.Goals as goal

pub returns : goal.returns
returns g c =
    record {
      falls = c.in_ok-looked.looked.falls.items;
      rounds = (rw c.in_ok-looked.ensures.listing at c.in_ok-looked.ensures.fell).rounds;
      told = rw c.in_ok-looked.ensures.listing at (c.in_ok-put_all.ensures c.new-page.ensures.bytes);
    }
