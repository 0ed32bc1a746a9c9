use Rattle.std.proofs.Common.{◌≡◌, ◌++◌, ◌-◌, ℕ, Bool, true, false, List, Option, None, Some, length, inl, ap, ◌∙◌, subst, arith}
use Rattle.std.specs.Prelude.{min, if◌then◌else◌, is_ok, Result, Ok, Err}
use Rattle.std.specs.Result.{is_err}
use Rattle.std.specs.declared.alloc.AllocError.{AllocError}
use Rattle.cq_report.specs.declared.line_buffer.TheConstants.{KEPT}
use Rattle.cq_report.specs.Steps.Kept.{kept}
use Rattle.cq_report.specs.Steps.Serving.{KeepsOn}
use Rattle.cq_report.proofs.Cutting.{kept_more}
use Rattle.cq_report.proofs.line_buffer.LineBuffer.extend.Goals as goal

-- more is kept if there was memory for it
extended : (r : Result (Unit {0}) AllocError) (new old front whole : List ℕ) → false ≡ is_err r → new ≡ (if is_ok r then old ++ front else old) → old ++ front ≡ whole → new ≡ whole
extended (Ok done) new old front whole good e f = e ∙ f
extended (Err refused) new old front whole good e f = absurd cc

keeps : (is_lost : Bool) (line : Option (List ℕ)) (old new more : List ℕ) → (if is_lost then None else Some old) ≡ line → new ≡ kept (old ++ more) → KeepsOn line more (if is_lost then None else Some new)
keeps true line old new more is e = subst (λ (l : Option (List ℕ)). KeepsOn l more None) is tt
keeps false line old new more is e = subst (λ (l : Option (List ℕ)). KeepsOn l more (Some new)) is (inl e)

pub returns-else-is_err : goal.returns-else-is_err
returns-else-is_err g c =
    let old = c.self.inside.bytes.items in
    let more = c.args.bytes.now in
    let has : c.len-room.result ≡ length old = omega (arith, c.len-room.ensures, c.self.inside.bytes.ok.0) in
    keeps c.self.inside.is_lost c.args.self.now old c.extend_from_slice.new.self.items more c.self.view_is
    (extended c.extend_from_slice.result _ old c.split_at.result.0.now _ c.if-is_err.ensures.value c.extend_from_slice.ensures.items
    (ap (λ (l : List ℕ). old ++ l) c.split_at.ensures.front
    ∙ kept_more c.min.result old more c.self.invariant.0 (c.min.ensures ∙ ap (λ (n : ℕ). min (KEPT - n) (length more)) has)))
