use Rattle.std.proofs.Common.{rules, ◌≡◌, ℕ, true, Some, sym, ◌∙◌, subst, map}
use Rattle.cq_board.specs.Waiting.{wait_read, IsReason}
use Rattle.cq_board.proofs.Told.{waiting-unmatched}
use Rattle.cq_board.proofs.board.Board.why_waiting.Goals as goal

pub returns-clause-reason : goal.returns-clause-reason
returns-clause-reason g c number here =
    let pool = c.args.self.now in
    let on : c.is_waiting.result ≡ true = search rules in
    let found : Some c.in-Some.number ≡ Some number = sym c.in-Some.is ∙ c.in_ok-number.ensures ∙ here in
    let same : c.in-Some.number ≡ number = cc in
    subst (λ (n : ℕ). IsReason pool n (map (wait_read (λ name. name.now)) c.in_ok-waits_of.field-0.items)) same
    (c.in_ok-waits_of.ensures (waiting-unmatched pool c.args.name.now c.in-Some.number (sym c.is_waiting.ensures ∙ on) (sym c.in_ok-number.ensures ∙ c.in-Some.is)))
