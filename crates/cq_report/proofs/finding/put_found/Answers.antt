use Rattle.std.proofs.Common.{◌≡◌, ◌++◌, ◌∷◌, ◌∙◌, [], ℕ, Bool, true, false, List, Option, length, refl, ap, sym, subst, append-nil, append_assoc, arith}
use Rattle.std.proofs.lemmas.Result.{err_from_is_err_and}
use Rattle.cq_atom.specs.Value.{ValueContent}
use Rattle.cq_devices.specs.declared.stop.Stop.TheVariants.{Write}
use Rattle.cq_ask.specs.Find.{wanted}
use Rattle.cq_report.specs.Find.{find_piece, find_pieces}
use Rattle.cq_report.specs.Steps.Finds.{is_first_after, one_less}
use Rattle.cq_report.specs.Steps.Written.{Puts, Breaks}
use Rattle.cq_report.specs.Steps.Writing.{Puts-nothing, Puts-then, Puts-breaks, Breaks-more}
use Rattle.cq_report.proofs.Finds.{not_first, pieces_more, pieces_then}
use Rattle.cq_report.proofs.finding.put_found.Goals as goal

pub loop-alloc-init : goal.loop-alloc-init
loop-alloc-init g c = record { done = []; put = Puts-nothing _ _ _; cut = refl; first = refl }

pub returns-in_default-clause-ok : goal.returns-in_default-clause-ok
returns-in_default-clause-ok g c =
    let i = c.loop-alloc.invariant in
    record { shown = i.done; are = (wanted c.loop-alloc.left c.loop-alloc.finder.to_come, i.cut); puts = i.put }

pub returns-in_err-put-clause-err : goal.returns-in_err-put-clause-err
returns-in_err-put-clause-err g c =
    let p = err_from_is_err_and c.from_residual.result c.from_residual.ensures.1 in
    let i = c.loop-alloc.invariant in
    let n = c.args.numbering in
    let values = c.find_next.new.finder.values in
    let rest = wanted (one_less c.loop-alloc.left) c.find_next.new.finder.to_come in
    let pieces = find_pieces n true i.done in
    let bytes : c.as_bytes.result.now ≡ find_piece n (is_first_after i.done) values =
    c.as_bytes.ensures.value ∙ c.as_str.ensures.value ∙ c.in-Ok.ensures ∙ ap (find_piece n c.loop-alloc.is_first) c.values.ensures ∙ ap (λ (b : Bool). find_piece n b values) i.first in
    rw p.1
    (subst (λ (l : List ℕ). Breaks g.W.Sink.taken g.W.Sink.write_failures c.args.output.now c.put.new.self l Write)
    (ap (λ (l : List ℕ). (pieces ++ l) ++ find_pieces n false rest) bytes
    ∙ pieces_then n i.done values rest
    ∙ ap (find_pieces n true) (sym (i.cut ∙ ap (λ (ls : List (List ValueContent)). i.done ++ ls) c.loop-alloc-test.ensures)))
    (Breaks-more _ _ _ _ (pieces ++ c.as_bytes.result.now) (find_pieces n false rest) Write (Puts-breaks _ _ _ _ _ pieces c.as_bytes.result.now Write i.put c.in_err-put.ensures.err)))

pub loop-alloc-smaller : goal.loop-alloc-smaller
loop-alloc-smaller g c =
    let cut = ap length c.loop-alloc-test.ensures in
    let less = ap (λ (left : Option ℕ). length (wanted left c.find_next.new.finder.to_come)) c.one_less-left.ensures in
    omega (arith, cut, less)

pub loop-alloc-preserved : goal.loop-alloc-preserved
loop-alloc-preserved g c =
    let i = c.loop-alloc.invariant in
    let n = c.args.numbering in
    let values = c.find_next.new.finder.values in
    let to_come = c.find_next.new.finder.to_come in
    let pieces = find_pieces n true i.done in
    let bytes : c.as_bytes.result.now ≡ find_piece n (is_first_after i.done) values =
    c.as_bytes.ensures.value ∙ c.as_str.ensures.value ∙ c.in-Ok.ensures ∙ ap (find_piece n c.loop-alloc.is_first) c.values.ensures ∙ ap (λ (b : Bool). find_piece n b values) i.first in
    record {
      done = i.done ++ values ∷ [];
      put = subst (Puts g.W.Sink.taken g.W.Sink.write_failures c.args.output.now c.put.new.self) (ap (λ (l : List ℕ). pieces ++ l) bytes ∙ pieces_more n i.done values)
          (Puts-then _ _ _ _ _ pieces c.as_bytes.result.now i.put c.in_ok-put.ensures.ok);
      cut = i.cut
          ∙ ap (λ (ls : List (List ValueContent)). i.done ++ ls) c.loop-alloc-test.ensures
          ∙ sym (append_assoc i.done (values ∷ []) (wanted (one_less c.loop-alloc.left) to_come))
          ∙ ap (λ (left : Option ℕ). (i.done ++ values ∷ []) ++ wanted left to_come) (sym c.one_less-left.ensures);
      first = sym (not_first i.done values);
    }

pub returns-clause-ok : goal.returns-clause-ok
returns-clause-ok g c =
    let i = c.loop-alloc.invariant in
    record {
      shown = i.done;
      are = i.cut ∙ ap (λ (ls : List (List ValueContent)). i.done ++ ls) c.loop-alloc-test.ensures.0 ∙ append-nil i.done;
      puts = i.put;
    }
