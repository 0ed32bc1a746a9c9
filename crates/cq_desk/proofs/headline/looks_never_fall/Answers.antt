use Rattle.cq_desk.proofs.Looking.{seen_grows, looked_on, published_front}
use Rattle.cq_desk.proofs.headline.looks_never_fall.Goals as goal

pub returns-clause-seen : goal.returns-clause-seen
returns-clause-seen g c opening limit sessions session events more = seen_grows g.L.Live.after g.L.Live.why opening limit sessions session events more

pub returns-clause-looked : goal.returns-clause-looked
returns-clause-looked g c opening limit sessions session count events is = looked_on g.L.Live.after g.L.Live.why opening limit sessions session count events is

pub returns-clause-front : goal.returns-clause-front
returns-clause-front g c opening limit sessions events = published_front g.L.Live.after g.L.Live.why opening limit sessions events
