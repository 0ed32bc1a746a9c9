use Rattle.std.proofs.Common.{sym, ◌∙◌}
use Rattle.std.proofs.lemmas.Result.{IfOk-weaker}
use Rattle.cq_ask.proofs.Unasked.{on_err, names_stay}
use Rattle.cq_ask.proofs.reading.asked_of.Goals as goal

pub returns-in_default : goal.returns-in_default
returns-in_default g c = record {
  ask = IfOk-weaker c.asked_of_words.result _ _ (λ ask is. is c.in_default.not-Choice c.in_default.not-Find c.args.place) c.asked_of_words.ensures;
  memory = on_err c.asked_of_words.result (names_stay c.args.kind c.args.place c.args.text.now (sym c.takes_no_names.ensures ∙ c.if-takes_no_names.false));
}
