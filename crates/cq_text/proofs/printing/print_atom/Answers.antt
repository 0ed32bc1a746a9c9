use Rattle.cq_text.specs.Grammar.{FewTerms}
use Rattle.cq_text.specs.Print.{StandsForAtom}
use Rattle.cq_text.specs.declared.form.Form.TheVariants.{One, Two}
use Rattle.cq_text.proofs.PrintedBack.{atom_back, of_new}
use Rattle.cq_text.proofs.printing.print_atom.Goals as goal

pub returns-clause-reads_back : goal.returns-clause-reads_back
returns-clause-reads_back g c = of_new (λ text. StandsForAtom Two text c.args.atom.now) _ _ _ c.new-printed.ensures.bytes c.in_ok-push_atom.ensures.printed (atom_back Two _ c.in_ok-push_atom.ensures.sound c.in_ok-push_atom.ensures.sound.few)

pub returns-clause-reads_back_in_one : goal.returns-clause-reads_back_in_one
returns-clause-reads_back_in_one g c = of_new (λ text. FewTerms One c.args.atom.now → StandsForAtom One text c.args.atom.now) _ _ _ c.new-printed.ensures.bytes c.in_ok-push_atom.ensures.printed (λ few. atom_back One _ c.in_ok-push_atom.ensures.sound few)
