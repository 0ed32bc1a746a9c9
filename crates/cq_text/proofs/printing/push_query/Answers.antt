use Rattle.cq_text.specs.declared.form.Form.TheVariants.{One, Two}
use Rattle.cq_text.proofs.PrintedBack.{query_back, fits_two}
use Rattle.cq_text.proofs.printing.push_query.Goals as goal

pub returns-clause-reads_back : goal.returns-clause-reads_back
returns-clause-reads_back g c = query_back Two _ c.in_ok-push_query_parts.ensures.sound (fits_two _ c.in_ok-push_query_parts.ensures.sound)

pub returns-clause-reads_back_in_one : goal.returns-clause-reads_back_in_one
returns-clause-reads_back_in_one g c = λ few. query_back One _ c.in_ok-push_query_parts.ensures.sound few
