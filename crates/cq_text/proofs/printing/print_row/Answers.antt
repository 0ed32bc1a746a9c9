use Rattle.std.proofs.Common.{◌≤◌, length}
use Rattle.cq_text.specs.Forms.{most_terms}
use Rattle.cq_text.specs.Grammar.{StandsForRow}
use Rattle.cq_text.specs.declared.form.Form.TheVariants.{One, Two}
use Rattle.cq_text.proofs.PrintedBack.{row_back, of_new}
use Rattle.cq_text.proofs.printing.print_row.Goals as goal

pub returns-clause-reads_back : goal.returns-clause-reads_back
returns-clause-reads_back g c = of_new (λ text. StandsForRow Two text c.args.row.now) _ _ _ c.new-printed.ensures.bytes c.in_ok-push_row.ensures.printed (row_back Two _ c.in_ok-push_row.ensures.sound c.in_ok-push_row.ensures.sound.few)

pub returns-clause-reads_back_in_one : goal.returns-clause-reads_back_in_one
returns-clause-reads_back_in_one g c = of_new (λ text. length c.args.row.now.values ≤ most_terms One → StandsForRow One text c.args.row.now) _ _ _ c.new-printed.ensures.bytes c.in_ok-push_row.ensures.printed (λ few. row_back One _ c.in_ok-push_row.ensures.sound few)
