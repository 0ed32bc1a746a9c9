use Rattle.std.proofs.Common.{map, refl}
use Rattle.cq_cli.proofs.Telling.{choices_reported, said_of_words}
use Rattle.cq_cli.specs.Views.{ToldOn, IsShown, IsJudged}
use Rattle.cq_cli.proofs.looking.answer_choice.Goals as goal

pub returns-in-Ok-clause-told : goal.returns-in-Ok-clause-told
returns-in-Ok-clause-told g c told =
    said_of_words (g.R.Source.left c.args.source.now) (map (λ word. word.now) c.args.words.now) c.in-Ok.choices.items
    (λ marked left choices. IsShown (IsJudged choices) c.args.origin.now marked left c.answer_view.result (g.W.Sink.taken c.args.sink.now) (g.W.Sink.taken c.answer_view.new.sink)
    (ToldOn (g.E.Sink.write_failures c.args.errors.now) (g.E.Sink.write_failures c.answer_view.new.errors) (g.E.Sink.taken c.args.errors.now) (g.E.Sink.taken c.answer_view.new.errors)))
    c.in-Ok.ensures.found (rw c.deref.ensures.value at (c.answer_view.ensures.told told))

pub returns-in-Err-clause-failures : goal.returns-in-Err-clause-failures
returns-in-Err-clause-failures g c = rw c.of_choices.ensures (choices_reported _ c.in-Err.fault)

pub returns-in-Err-clause-refused : goal.returns-in-Err-clause-refused
returns-in-Err-clause-refused g c = record { refused = λ _. refl; unread = λ _. refl }
