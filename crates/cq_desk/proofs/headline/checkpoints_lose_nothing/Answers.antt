use Rattle.cq_desk.proofs.Lasting.{works_from, shows_from, counts_from}
use Rattle.cq_desk.proofs.headline.checkpoints_lose_nothing.Goals as goal

pub returns-clause-working : goal.returns-clause-working
returns-clause-working g c opening limit sessions events = works_from g.L.Live.after g.L.Live.why opening limit sessions events

pub returns-clause-shown : goal.returns-clause-shown
returns-clause-shown g c opening limit sessions events = shows_from g.L.Live.after g.L.Live.why opening limit sessions events

pub returns-clause-count : goal.returns-clause-count
returns-clause-count g c opening limit sessions events = counts_from g.L.Live.after g.L.Live.why opening limit sessions events
