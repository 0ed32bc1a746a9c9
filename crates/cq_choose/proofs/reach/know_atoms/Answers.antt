use Rattle.std.proofs.Common.{List, subst, arith}
use Rattle.std.specs.List.{All}
use Rattle.cq_atom.specs.Atom.{AtomRecord, TermContent}
use Rattle.cq_board.specs.Steps.Choices.{IsValid}
use Rattle.cq_choose.proofs.Reaching.{all-more, all-end}
use Rattle.cq_choose.proofs.reach.know_atoms.Goals as goal

pub loop-atom-preserved : goal.loop-atom-preserved
loop-atom-preserved g c =
    all-more (λ (a : AtomRecord). All IsValid a.terms) c.args.atoms.now c.loop-atom.atom-index c.atom-item.result (omega arith) c.atom-item.is c.loop-atom.invariant
    (subst (λ (terms : List TermContent). All IsValid terms) c.terms.ensures.value c.know_terms.ensures)

pub returns : goal.returns
returns g c = all-end (λ (a : AtomRecord). All IsValid a.terms) c.args.atoms.now c.loop-atom.atom-index (omega arith) c.loop-atom.invariant
