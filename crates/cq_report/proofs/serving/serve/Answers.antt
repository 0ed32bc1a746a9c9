use Rattle.cq_devices.specs.declared.limits.TheConstants.{MAX_PIECE}
use Rattle.cq_devices.specs.Limits.{max_piece}
use Rattle.std.proofs.Common.{◌≡◌, ◌++◌, [], ◌∙◌, arith, take, refl, sym, inl, inr}
use Rattle.std.proofs.KnownBytes.{Consumes-nil, Consumes-trans, Consumes-kept}
use Rattle.std.proofs.lemmas.List.{length-take}
use Rattle.std.proofs.lemmas.Result.{err_from_is_err_and}
use Rattle.cq_report.proofs.Ending.{Consumes-none}
use Rattle.cq_report.proofs.Answering.{both_on, if_err_as}
use Rattle.cq_report.proofs.Served.{IsSound-nothing, IsSound-then, IsSound-puts, Served-nothing, Served-again, Served-passed, Broken-passing, LastRead-end, LastRead-ceased, Stopped-by}
use Rattle.cq_report.proofs.serving.serve.Goals as goal

pub loop-i-init : goal.loop-i-init
loop-i-init g c = record {
  bytes = [];
  read = Consumes-nil _;
  served = rw c.requires.line (Served-nothing _ _ _ _ _);
  goes_on = c.requires.heard;
  lines = omega (arith, c.requires.lines);
  sound = IsSound-nothing _ _;
  held = c.requires.held;
  reads = omega arith;
  failures = refl;
  room = refl;
}

pub returns-in_default-clause-err : goal.returns-in_default-clause-err
returns-in_default-clause-err g c =
    let i = c.loop-i.invariant in
    record {
      bytes = i.bytes;
      read = Consumes-kept _ _ _ _ i.read c.in_default.ensures.bytes;
      state = c.loop-i.script;
      line = c.loop-i.line;
      goes_on = i.goes_on;
      served = i.served;
      held = i.held;
    }

pub returns-then-len-eq0-clause-ok : goal.returns-then-len-eq0-clause-ok
returns-then-len-eq0-clause-ok g c =
    let i = c.loop-i.invariant in
    let none = rw c.if-len-eq0.true at c.in-Ok.ensures.bytes.0 in
    let held = c.finish.ensures.held in
    both_on c.finish.result _ _ _
    (λ finishes nothing. record {
      bytes = i.bytes;
      read = Consumes-none _ _ _ _ i.read none;
      ends = inl (c.in-Ok.ensures.bytes.1 c.if-len-eq0.true (omega arith), finishes _ _ _ i.served);
      last = LastRead-end _ _ _ _ _ _ _ _ _ _ _ _ i.bytes i.served i.goes_on (Consumes-trans _ _ _ i.bytes [] i.read none) (finishes _ _ _ (Served-again _ _ _ _ _ _ _ _ i.bytes i.served));
      held = nothing;
    })
    c.finish.ensures.ok held

pub returns-then-len-eq0-clause-err : goal.returns-then-len-eq0-clause-err
returns-then-len-eq0-clause-err g c =
    let i = c.loop-i.invariant in
    let none = rw c.if-len-eq0.true at c.in-Ok.ensures.bytes.0 in
    if_err_as c.finish.result _ _ (λ stop on. Stopped-by _ _ _ _ _ _ _ _ _ _ _ i.bytes [] stop i.served (Consumes-trans _ _ _ i.bytes [] i.read none) (omega arith) on) c.finish.ensures.err

pub returns-in_err-feed-clause-err : goal.returns-in_err-feed-clause-err
returns-in_err-feed-clause-err g c =
    let p = err_from_is_err_and c.from_residual.result c.from_residual.ensures.1 in
    let i = c.loop-i.invariant in
    let piece = take c.in-Ok.len c.read.new.buf in
    let long = length-take c.in-Ok.len c.read.new.buf in
    let size : MAX_PIECE ≡ 4096 = refl in
    let most : max_piece ≡ 4096 = refl in
    rw (p.1, p.2)
    (Stopped-by _ _ _ _ _ _ _ _ _ _ _ i.bytes piece c.in_err-feed.field-0.0 i.served (Consumes-trans _ _ _ i.bytes piece i.read c.in-Ok.ensures.bytes.0) (omega (arith, long, i.room, c.requires.piece, size, most)) c.in_err-feed.ensures.err)

pub returns-in_err-write_out-clause-err : goal.returns-in_err-write_out-clause-err
returns-in_err-write_out-clause-err g c =
    let p = err_from_is_err_and c.from_residual-in_err-write_out.result c.from_residual-in_err-write_out.ensures.1 in
    let i = c.loop-i.invariant in
    let piece = take c.in-Ok.len c.read.new.buf in
    rw (p.1, p.2) (record {
      bytes = i.bytes ++ piece;
      read = Consumes-trans _ _ _ i.bytes piece i.read c.in-Ok.ensures.bytes.0;
      broken = Broken-passing _ _ _ _ _ _ _ _ _ _ (c.in_ok-feed.ensures.ok _ _ _ i.served) c.in_err-write_out.ensures.err;
    })

pub returns-in_err-finish-clause-err : goal.returns-in_err-finish-clause-err
returns-in_err-finish-clause-err g c =
    let p = err_from_is_err_and c.from_residual-in_err-finish.result c.from_residual-in_err-finish.ensures.1 in
    let i = c.loop-i.invariant in
    let piece = take c.in-Ok.len c.read.new.buf in
    rw (p.1, p.2) (record {
      bytes = i.bytes ++ piece;
      read = Consumes-trans _ _ _ i.bytes piece i.read c.in-Ok.ensures.bytes.0;
      broken = Broken-passing _ _ _ _ _ _ _ _ _ _ (Served-passed _ _ _ _ _ _ _ _ _ _ (c.in_ok-feed.ensures.ok _ _ _ i.served) c.in_ok-write_out.ensures.ok) c.in_err-finish.ensures.err;
    })

pub returns-then-is_done-clause-ok : goal.returns-then-is_done-clause-ok
returns-then-is_done-clause-ok g c =
    let i = c.loop-i.invariant in
    let piece = take c.in-Ok.len c.read.new.buf in
    let long = length-take c.in-Ok.len c.read.new.buf in
    let size : MAX_PIECE ≡ 4096 = refl in
    let most : max_piece ≡ 4096 = refl in
    let over = sym c.is_done.ensures ∙ c.if-is_done.true in
    record {
      bytes = i.bytes ++ piece;
      read = Consumes-trans _ _ _ i.bytes piece i.read c.in-Ok.ensures.bytes.0;
      last = LastRead-ceased _ _ _ _ _ _ _ _ _ _ _ _ i.bytes piece i.served i.goes_on (Consumes-trans _ _ _ i.bytes piece i.read c.in-Ok.ensures.bytes.0) (omega (arith, long, i.room, c.requires.piece, size, most))
          (record { line = _; over = over; served = Served-passed _ _ _ _ _ _ _ _ _ _ (Served-passed _ _ _ _ _ _ _ _ _ _ (c.in_ok-feed.ensures.ok _ _ _ (Served-again _ _ _ _ _ _ _ _ i.bytes i.served)) c.in_ok-write_out.ensures.ok) c.in_ok-finish.ensures.ok });
      ends = inr (record { line = _; over = over; served = Served-passed _ _ _ _ _ _ _ _ _ _ (Served-passed _ _ _ _ _ _ _ _ _ _ (c.in_ok-feed.ensures.ok _ _ _ i.served) c.in_ok-write_out.ensures.ok) c.in_ok-finish.ensures.ok });
      held = c.in_ok-finish.ensures.held;
    }

pub loop-i-preserved : goal.loop-i-preserved
loop-i-preserved g c =
    let i = c.loop-i.invariant in
    let piece = take c.in-Ok.len c.read.new.buf in
    let long = length-take c.in-Ok.len c.read.new.buf in
    let size : MAX_PIECE ≡ 4096 = refl in
    record {
      bytes = i.bytes ++ piece;
      read = Consumes-trans _ _ _ i.bytes piece i.read c.in-Ok.ensures.bytes.0;
      lines = omega (arith, i.lines, c.in_ok-feed.ensures.lines, long, i.room, c.requires.piece, size);
      served = Served-passed _ _ _ _ _ _ _ _ _ _ (c.in_ok-feed.ensures.ok _ _ _ i.served) c.in_ok-write_out.ensures.ok;
      goes_on = sym c.is_done.ensures ∙ c.if-is_done.false;
      sound = IsSound-then _ _ _ _ (IsSound-then _ _ _ _ i.sound c.in_ok-feed.ensures.sound) (IsSound-puts _ _ _ _ _ c.in_ok-write_out.ensures.ok);
      held = c.in_ok-write_out.ensures.held;
      reads = omega (arith, c.in-Ok.ensures.reads, i.reads);
      failures = c.in-Ok.ensures.failures ∙ i.failures;
      room = omega arith;
    }

pub returns-clause-err : goal.returns-clause-err
returns-clause-err g c =
    let i = c.loop-i.invariant in
    record {
      bytes = i.bytes;
      read = i.read;
      state = c.loop-i.script;
      line = c.loop-i.line;
      goes_on = i.goes_on;
      served = i.served;
      held = i.held;
    }
