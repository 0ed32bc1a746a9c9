use Rattle.cq_text.specs.declared.form.Form.TheVariants.{Two}
use Rattle.cq_ask.proofs.Chosen.{choice_one, choices_one}
use Rattle.cq_ask.proofs.choices.one_choice.Goals as goal

pub returns-clause-word : goal.returns-clause-word
returns-clause-word c = choice_one (λ text row other stands too. (c.one_reading.ensures.rows Two text).one row other stands too)

pub returns-clause-words : goal.returns-clause-words
returns-clause-words c = choices_one (λ text row other stands too. (c.one_reading.ensures.rows Two text).one row other stands too)
