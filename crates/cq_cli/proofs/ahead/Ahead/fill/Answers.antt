use Rattle.std.proofs.Common.{◌∙◌, ◌≤◌, ◌-◌, length, take, sym, ap, subst, arith}
use Rattle.std.specs.Io.KnownBytes.{Keeps, prepend_known}
use Rattle.cq_cli.specs.Devices.{left_of}
use Rattle.cq_cli.proofs.Held.{held-more, keeps-held, keeps-on}
use Rattle.cq_cli.proofs.ahead.Ahead.fill.Goals as goal

pub loop-self-preserved : goal.loop-self-preserved
loop-self-preserved g c =
    let inside = c.self.inside in
    let remaining = g.D.Read.remaining in
    let held = take inside.held inside.bytes in
    let few : inside.held ≤ 4096 = c.self.invariant.0 in
    let low : inside.held ≤ length inside.bytes = omega (arith, few, c.self.told) in
    let more = held-more inside.held c.in-Ok.count (4096 - inside.held) inside.bytes c.read.new.buf low c.in-Ok.ensures.bound.0 in
    let step = keeps-held (remaining inside.device) (remaining c.read.new.self) held (take c.in-Ok.count c.read.new.buf) c.in-Ok.ensures.bytes.0 in
    let so_far : Keeps (left_of remaining c.args.self.now) (prepend_known held (remaining inside.device)) = subst (λ ahead. Keeps (left_of remaining c.args.self.now) (left_of remaining ahead)) (sym c.self.view_is) c.loop-self.invariant.bytes in record {
      bytes = keeps-on _ _ _ so_far (subst (λ all. Keeps (prepend_known held (remaining inside.device)) (prepend_known all (remaining c.read.new.self))) (sym more) step);
      reads = ap (λ ahead. ahead.reads) c.self.view_is ∙ c.loop-self.invariant.reads;
      failures = ap (λ ahead. ahead.failures) c.self.view_is ∙ c.loop-self.invariant.failures;
    }
