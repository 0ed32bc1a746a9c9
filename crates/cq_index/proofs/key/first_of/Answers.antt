use Rattle.std.proofs.Common.{Some, None, sym, ap}
use Rattle.cq_index.specs.Steps.Keys.{first_at}
use Rattle.cq_index.proofs.Firsts.{has-first, first-is, own-first}
use Rattle.cq_index.proofs.key.first_of.Goals as goal

pub bounds-terms-0 : goal.bounds-terms-0
bounds-terms-0 g c = has-first c.terms.result.now c.args.atom.now.terms c.terms.ensures.value c.terms.ensures.some

pub returns-in-Some : goal.returns-in-Some
returns-in-Some g c =
    own-first c.args.reach c.args.atom.now (Some c.in-Some.value.now) c.in-Own.is
    (first-is c.terms.result.now c.args.atom.now.terms c.index-terms-0.result (Some c.in-Some.value.now) c.terms.ensures.value c.terms.ensures.some c.index-terms-0.is c.in-Some.ensures.value)

pub returns-in-None : goal.returns-in-None
returns-in-None g c =
    own-first c.args.reach c.args.atom.now None c.in-Own.is
    (first-is c.terms.result.now c.args.atom.now.terms c.index-terms-0.result None c.terms.ensures.value c.terms.ensures.some c.index-terms-0.is c.in-None.ensures.value)

pub returns-in-Open : goal.returns-in-Open
returns-in-Open g c = sym (ap (λ r. first_at r c.args.atom.now) c.in-Open.is)

pub returns-in-Group : goal.returns-in-Group
returns-in-Group g c = sym (ap (λ r. first_at r c.args.atom.now) c.in-Group.is)
