use Rattle.std.proofs.Common.{◌++◌, ◌∙◌, List, ℕ, sym, ap, append-nil}
use Rattle.std.specs.Prelude.{string_bytes}
use Rattle.cq_cli.proofs.AbsentNames.{line_absent, line_present}
use Rattle.cq_cli.proofs.absent.put_if_absent.Goals as goal

pub returns-then-branch : goal.returns-then-branch
returns-then-branch g c =
    sym (append-nil (string_bytes c.args.page.now))
    ∙ ap (λ (line : List ℕ). string_bytes c.args.page.now ++ line) (line_present c.args.board.now c.args.name.now (sym c.in_ok-is_pending.ensures ∙ c.if-branch.true))

pub returns : goal.returns
returns g c =
    c.in_ok-push_str.ensures.bytes
    ∙ ap (λ (line : List ℕ). string_bytes c.args.page.now ++ line) (c.as_str.ensures.value ∙ c.in_ok-line.ensures ∙ line_absent c.args.board.now c.args.name.now (sym c.in_ok-is_pending.ensures ∙ c.if-branch.false))
