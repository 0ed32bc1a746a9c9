use Rattle.std.proofs.Common.{◌<◌, ◌^◌, ◌∙◌, sym, subst}
use Rattle.std.proofs.lemmas.Result.{IfErr-weaker}
use Rattle.cq_cli.proofs.Telling.{ended_not_refused, ended_reported, ended_usage, not_refused}
use Rattle.cq_cli.proofs.looking.answer_view.Goals as goal

pub end_with-requires : goal.end_with-requires
end_with-requires g c =
    IfErr-weaker c.show-shown.result _ _ (λ fault same. subst (λ errors. g.E.Sink.write_failures errors < 2 ^ 62) (sym same) c.requires.errors) c.show-shown.ensures.errors

pub returns-clause-failures : goal.returns-clause-failures
returns-clause-failures g c = rw c.end_with.ensures.ended (ended_reported _ _ c.show-shown.result c.show-shown.ensures.status c.show-shown.ensures.failures)

pub returns-clause-refused : goal.returns-clause-refused
returns-clause-refused g c = rw c.end_with.ensures.ended (not_refused _ _ _ _ _ (ended_not_refused c.show-shown.result c.show-shown.ensures.status))

pub returns-clause-usage : goal.returns-clause-usage
returns-clause-usage g c e = ended_usage c.show-shown.result c.show-shown.ensures.status (sym c.end_with.ensures.ended ∙ e)
