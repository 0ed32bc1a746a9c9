use Rattle.cq_text.proofs.Refusals.{no_refusal}
use Rattle.cq_text.proofs.reading.lists.new_query.Goals as goal

pub bound-requires-clause-parts : goal.bound-requires-clause-parts
bound-requires-clause-parts g c = no_refusal c.args.posts.items c.args.heads.items c.args.body.items c.requires.posts c.requires.some c.requires.heads c.requires.body c.requires.bound
