use Rattle.std.proofs.Common.{◌+◌, ◌++◌, ◌∙◌, ℕ, List, drop, ap, sym, subst, append_assoc}
use Rattle.std.specs.List.{flat_map}
use Rattle.std.proofs.lemmas.Result.{err_from_is_err_and}
use Rattle.cq_devices.specs.declared.stop.Stop.TheVariants.{Write}
use Rattle.cq_ask.specs.Answer.{part_bytes}
use Rattle.cq_report.specs.Steps.Written.{Breaks}
use Rattle.cq_report.specs.Steps.Writing.{Puts-then, Puts-breaks, Breaks-more}
use Rattle.cq_report.proofs.Sums.{piece_at}
use Rattle.cq_report.proofs.output.Output.put_counts.Goals as goal

pub returns-in_err-put_count-clause-err : goal.returns-in_err-put_count-clause-err
returns-in_err-put_count-clause-err g c =
    let p = err_from_is_err_and c.from_residual.result c.from_residual.ensures.1 in
    let i = c.loop-part.invariant in
    let at = c.loop-part.part-index in
    let parts = c.args.parts.now in
    let rest = flat_map part_bytes (drop (at + 1) parts) in
    rw p.1
    (subst (λ (bytes : List ℕ). Breaks g.W.Sink.taken g.W.Sink.write_failures c.args.self.now c.put_count.new.self bytes Write)
    (append_assoc i.done _ rest ∙ ap (λ (bytes : List ℕ). i.done ++ bytes) (sym (piece_at part_bytes parts at _ c.loop-part-test.true)) ∙ i.cut)
    (Breaks-more _ _ _ _ _ rest Write (Puts-breaks _ _ _ _ _ i.done _ Write i.put c.in_err-put_count.ensures.err)))

pub loop-part-preserved : goal.loop-part-preserved
loop-part-preserved g c =
    let i = c.loop-part.invariant in
    let at = c.loop-part.part-index in
    let parts = c.args.parts.now in
    let rest = flat_map part_bytes (drop (at + 1) parts) in
    record {
      done = _;
      put = Puts-then _ _ _ _ _ i.done _ i.put c.in_ok-put_count.ensures.ok;
      cut = append_assoc i.done _ rest ∙ ap (λ (bytes : List ℕ). i.done ++ bytes) (sym (piece_at part_bytes parts at _ c.loop-part-test.true)) ∙ i.cut;
    }
