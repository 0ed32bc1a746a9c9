use Rattle.std.proofs.Common.{◌≡◌, length, arith, subst}
use Rattle.cq_atom.specs.Steps.Labels.{Ties, EndsBelow}
use Rattle.cq_atom.proofs.Merges.{Ties-then}
use Rattle.cq_atom.proofs.unification.tie.Goals as goal

pub returns : goal.returns
returns g c =
    let e : c.loop-j.j ≡ length c.args.terms.now = omega arith in
    subst (λ n. Ties c.args.labels.now c.loop-j.labels c.args.terms.now (EndsBelow n)) e c.loop-j.invariant

pub loop-j-preserved : goal.loop-j-preserved
loop-j-preserved g c =
    Ties-then c.args.labels.now c.loop-j.labels c.tie_to_earlier.new.labels c.args.terms.now c.loop-j.j c.requires.fits c.loop-j.invariant c.tie_to_earlier.ensures
