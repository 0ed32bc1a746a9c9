use Rattle.std.proofs.Common.{◌∙◌, ℕ, sym, subst}
use Rattle.std.proofs.lemmas.Result.{on_ok_weaker}
use Rattle.cq_report.specs.Reply.{refusal}
use Rattle.cq_report.specs.Machine.{form_in, staged}
use Rattle.cq_report.proofs.CallerLemmas.{some_of}
use Rattle.cq_why.specs.Why.{IsWhy}
use Rattle.cq_why.proofs.Told.{told_last}
use Rattle.cq_why.proofs.whys.put_last.Goals as goal

pub returns : goal.returns
returns g c =
    let state = c.args.heard.now in
    let line = c.args.line.now in
    on_ok_weaker c.put_line.result
    (λ told. (
      told.3,
      told_last c.args.origin.now c.args.limits c.args.catalog.now state line told.0 told.3 c.requires.end (some_of line (sym c.is_empty.ensures ∙ c.if-is_empty.false)) told.1
          (subst (λ (n : ℕ). IsWhy c.args.origin.now n c.args.limits c.args.catalog.now (form_in state) line (refusal (staged state.stage state.heading told.0).1) told.0 told.3) (sym c.requires.number) told.4),
      told.5,
    ))
    c.put_line.ensures
