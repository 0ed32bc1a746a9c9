use Rattle.std.specs.Prelude.{string_bytes}
use Rattle.std.proofs.Common.{sym, ◌∙◌}
use Rattle.cq_atom.proofs.Firsts.{with_variable-old, with_variable-new}
use Rattle.cq_atom.proofs.variables.add_variable.Goals as goal

pub returns-in_ok-push : goal.returns-in_ok-push
returns-in_ok-push g c =
    let listed = rw c.deref.ensures.value at c.is_listed.ensures in
    let new = with_variable-new string_bytes c.args.variables.now.items c.in_ok-from_str.field-0 c.args.name.now (sym listed ∙ c.if-not-is_listed.true) c.in_ok-from_str.ensures.ok in
    rw c.in_ok-push.ensures.items new

pub returns-else-not-is_listed : goal.returns-else-not-is_listed
returns-else-not-is_listed g c =
    let listed = rw c.deref.ensures.value at c.is_listed.ensures in
    with_variable-old string_bytes c.args.variables.now.items c.args.name.now (sym listed ∙ c.if-not-is_listed.false)
