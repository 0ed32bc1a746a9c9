use Rattle.std.proofs.Common.{◌≡◌, ◌∙◌, ℕ, List, ap, map}
use Rattle.std.proofs.lemmas.Result.{IfOk-weaker}
use Rattle.cq_ask.specs.Ask.{asked_of_names}
use Rattle.cq_ask.proofs.Unasked.{asked_as_names}
use Rattle.cq_ask.proofs.reading.asked_of_words.Goals as goal

pub returns : goal.returns
returns g c = IfOk-weaker c.asked_of_names.result _ _
    (λ ask is no_choice no_find place. is ∙ ap (λ words. asked_of_names c.args.kind (map (λ word. word.now) words)) c.deref-in_default.ensures.value ∙ ap (asked_of_names c.args.kind) c.in_ok-words.ensures ∙ asked_as_names c.args.kind place c.args.text.now c.in_default.not-Near no_choice no_find)
    c.asked_of_names.ensures
