use Rattle.std.proofs.Common.{◌∙◌, sym, ◌+◌, drop, arith, ap}
use Rattle.std.proofs.lemmas.List.{take_rest, drop-drop, length-drop}
use Rattle.cq_text.specs.Lexing.{content}
use Rattle.cq_text.proofs.Quotes.{with_text, with_pending, pending_put, escape_pending, behind_run, none_left, quote_closes, escape_fits, escape_taken, never_closed}
use Rattle.cq_text.proofs.quoting.content.Goals as goal

pub returns-then-closes-clause-content : goal.returns-then-closes-clause-content
returns-then-closes-clause-content g c =
    let n = simp take_rest at c.verbatim_len.ensures.len in
    let e = simp take_rest at c.closes.ensures in
    let put = pending_put c.runs.text.items c.extend_from_slice.new.self.items c.runs.at c.runs.seen c.verbatim_len.result c.args.bytes.now c.runs.invariant.order c.in_ok-extend_from_slice.ensures.items in
    let r = behind_run (with_pending c.runs.text.items c.runs.at c.runs.seen c.args.bytes.now) c.extend_from_slice.new.self.items c.runs.seen c.verbatim_len.result c.args.bytes.now (content c.args.bytes.now) n put c.runs.invariant.reads in
    sym (quote_closes c.extend_from_slice.new.self.items (c.runs.seen + c.verbatim_len.result) _ (sym e ∙ c.if-closes.true)) ∙ r

pub returns-in_default-clause-content : goal.returns-in_default-clause-content
returns-in_default-clause-content g c =
    let n = simp take_rest at c.verbatim_len.ensures.len in
    let e = simp take_rest at c.closes.ensures in
    let f = simp take_rest at c.escaped_byte.ensures in
    let put = pending_put c.runs.text.items c.extend_from_slice.new.self.items c.runs.at c.runs.seen c.verbatim_len.result c.args.bytes.now c.runs.invariant.order c.in_ok-extend_from_slice.ensures.items in
    let r = behind_run (with_pending c.runs.text.items c.runs.at c.runs.seen c.args.bytes.now) c.extend_from_slice.new.self.items c.runs.seen c.verbatim_len.result c.args.bytes.now (content c.args.bytes.now) n put c.runs.invariant.reads in
    let none = never_closed _ (none_left c.runs.seen c.verbatim_len.result c.args.bytes.now n) (sym e ∙ c.if-closes.false) (sym f ∙ c.in_default.is) in
    sym (ap (with_text c.extend_from_slice.new.self.items (c.runs.seen + c.verbatim_len.result)) none) ∙ r

pub runs-preserved : goal.runs-preserved
runs-preserved g c =
    let n = simp take_rest at c.verbatim_len.ensures.len in
    let e = simp take_rest at c.closes.ensures in
    let f = simp take_rest at c.escaped_byte.ensures in
    let end = c.runs.seen + c.verbatim_len.result in
    let put = pending_put c.runs.text.items c.extend_from_slice.new.self.items c.runs.at c.runs.seen c.verbatim_len.result c.args.bytes.now c.runs.invariant.order c.in_ok-extend_from_slice.ensures.items in
    let r = behind_run (with_pending c.runs.text.items c.runs.at c.runs.seen c.args.bytes.now) c.extend_from_slice.new.self.items c.runs.seen c.verbatim_len.result c.args.bytes.now (content c.args.bytes.now) n put c.runs.invariant.reads in
    let escape = sym f ∙ c.in-Some.is in
    let fits = escape_fits (drop end c.args.bytes.now) c.in-Some._byte escape in
    let taken = escape_taken c.extend_from_slice.new.self.items end (drop end c.args.bytes.now) c.in-Some._byte (sym e ∙ c.if-closes.false) escape in
    let rest = drop-drop 2 end c.args.bytes.now in
    record {
      order = omega arith;
      within = omega (arith, fits, length-drop end c.args.bytes.now);
      reads = rw (escape_pending c.extend_from_slice.new.self.items end c.args.bytes.now c.in-Some._byte escape, ← rest) (sym taken ∙ r);
    }
