use Rattle.cq_text.specs.Grammar.{FitsQuery}
use Rattle.cq_text.specs.Grammar.{StandsForQuery}
use Rattle.cq_text.specs.declared.form.Form.TheVariants.{One, Two}
use Rattle.cq_text.proofs.PrintedBack.{of_new}
use Rattle.cq_text.proofs.printing.print_query.Goals as goal

pub returns-clause-reads_back : goal.returns-clause-reads_back
returns-clause-reads_back g c = of_new (λ text. StandsForQuery Two text c.args.query.now) _ _ _ c.new-printed.ensures.bytes c.in_ok-push_query.ensures.printed c.in_ok-push_query.ensures.reads_back

pub returns-clause-reads_back_in_one : goal.returns-clause-reads_back_in_one
returns-clause-reads_back_in_one g c = of_new (λ text. FitsQuery One c.args.query.now → StandsForQuery One text c.args.query.now) _ _ _ c.new-printed.ensures.bytes c.in_ok-push_query.ensures.printed c.in_ok-push_query.ensures.reads_back_in_one
