use Rattle.std.proofs.Common.{◌≤◌, length, take, drop, sym, subst, arith}
use Rattle.std.specs.Io.KnownBytes.{Consumes, prepend_known}
use Rattle.std.proofs.lemmas.List.{length-take-le}
use Rattle.cq_cli.specs.Devices.{left_of}
use Rattle.cq_cli.proofs.Held.{gives-held}
use Rattle.cq_cli.proofs.ahead.AheadSource.read.Goals as goal

pub returns-then-self-gt0-clause-bytes : goal.returns-then-self-gt0-clause-bytes
returns-then-self-gt0-clause-bytes g c =
    let inside = c.self.inside in
    let remaining = g.D.Read.remaining in
    let held = take inside.held inside.bytes in
    let few : inside.held ≤ 4096 = c.self.invariant.0 in
    let low : inside.held ≤ length inside.bytes = omega (arith, few, c.self.told) in
    let long = length-take-le inside.held inside.bytes low in
    let given = gives-held (remaining inside.device) held (take c.give.result c.give.new.buf) c.give.result c.give.ensures.bytes in
    let from = subst (λ ahead. Consumes (left_of remaining ahead) (prepend_known (drop c.give.result held) (remaining inside.device)) (take c.give.result c.give.new.buf)) c.self.view_is given in (
      subst (λ ahead. Consumes (left_of remaining c.args.self.now) (left_of remaining ahead) (take c.give.result c.give.new.buf)) (sym c.give.ensures.rest) from,
      λ none room. absurd (omega (arith, none, room, long, c.give.ensures.count, c.give.ensures.room, c.if-self-gt0.true)),
    )
