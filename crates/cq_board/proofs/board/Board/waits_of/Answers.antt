use Rattle.std.proofs.Common.{ap, ◌∙◌, map, arith}
use Rattle.std.proofs.lemmas.Result.{IfOk-weaker}
use Rattle.cq_board.specs.Waiting.{wait_named}
use Rattle.cq_board.proofs.ViewSeats.{as-many}
use Rattle.cq_board.proofs.board.Board.waits_of.Goals as goal

pub named-requires : goal.named-requires
named-requires g c =
    let pending = c.args.self.now.pending in
    let many = as-many (λ name. name.now) c.in_ok-names.names.items pending c.in_ok-names.ensures in
    rw (c.deref.ensures.value, c.deref-2.ensures.value)
    (λ k d low.
    let inside = c.in_ok-part.ensures.low k d low in
    omega (arith, inside, many))

pub returns : goal.returns
returns g c =
    let pending = c.args.self.now.pending in
    IfOk-weaker c.named.result _ _
    (λ waits shown unmatched. record {
      part = c.in_ok-part.part.items;
      tells = c.in_ok-part.ensures.part unmatched;
      named = shown ∙ ap (map (wait_named pending)) c.deref-2.ensures.value;
    })
    (c.named.ensures pending (ap (map (λ name. name.now)) c.deref.ensures.value ∙ c.in_ok-names.ensures))
