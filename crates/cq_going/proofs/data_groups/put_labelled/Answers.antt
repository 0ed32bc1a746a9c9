use Rattle.std.proofs.Common.{◌∙◌, ℕ, List, subst}
use Rattle.std.specs.Prelude.{OnOk}
use Rattle.cq_going.specs.Data.{IsGroupJson}
use Rattle.cq_going.specs.Steps.Tokens.{ArePut}
use Rattle.cq_going.proofs.data_groups.put_labelled.Goals as goal

pub returns : goal.returns
returns g c =
    subst (λ (names : List (List ℕ)). OnOk c.put_group.result (ArePut (IsGroupJson c.args.board.now names) c.args.sheet.now c.put_group.new.sheet)) (c.deref.ensures.value ∙ c.in_ok-names.ensures) c.put_group.ensures
