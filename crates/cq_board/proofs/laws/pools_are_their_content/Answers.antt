use Rattle.cq_board.proofs.Contents.{content_leads}
use Rattle.cq_board.proofs.laws.pools_are_their_content.Goals as goal

pub returns-clause-accepted : goal.returns-clause-accepted
returns-clause-accepted c pool good = (content_leads pool good).accepted

pub returns-clause-same : goal.returns-clause-same
returns-clause-same c pool good = (content_leads pool good).made
