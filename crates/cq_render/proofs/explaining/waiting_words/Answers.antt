use Rattle.std.proofs.Common.{◌≡◌, ◌++◌, List, ℕ, subst, sym, append_assoc}
use Rattle.std.specs.Prelude.{codes, string_bytes, IfOk}
use Rattle.std.proofs.lemmas.Result.{IfOk-weaker}
use Rattle.cq_match.specs.declared.falls.Fall.{Fall}
use Rattle.cq_render.specs.declared.hints.Hints.TheVariants.{Misses}
use Rattle.cq_render.specs.Explain.{AreReasonLines}
use Rattle.cq_render.proofs.Numbers.{unmatched_at}
use Rattle.cq_render.proofs.explaining.waiting_words.Goals as goal

whole : (name steps : List ℕ) → name ++ (codes " waits\n" ++ steps) ≡ name ++ codes " waits\n" ++ steps
whole name steps = simp append_assoc

pub part_of-requires-clause-waits : goal.part_of-requires-clause-waits
part_of-requires-clause-waits g c = unmatched_at c.args.fallen.now.listing.now.board.now c.args.name.now c.args.number c.requires.waits c.requires.there

pub put_lines-requires : goal.put_lines-requires
put_lines-requires g c = rw c.deref.ensures.value c.in_ok-part.ensures.low

pub returns : goal.returns
returns g c =
    let pool = c.args.fallen.now.listing.now.board.now in
    let part = c.in_ok-part.part.items in
    let tells : List Fall → List ℕ → Type 0 = AreReasonLines (codes "  ") (codes ": ") Misses c.args.extent pool in
    let steps : tells part c.as_str-steps.result.now =
    subst (tells part) (sym c.as_str-steps.ensures.value) (rw c.deref.ensures.value at (c.in_ok-put_lines.ensures c.new-steps.ensures.bytes)) in
    let written : IfOk c.format.result (λ text. string_bytes text ≡ c.as_str-name.result.now ++ (codes " waits\n" ++ c.as_str-steps.result.now)) = c.format.ensures.ok in
    let told = subst (λ (bytes : List ℕ). IfOk c.format.result (λ text. string_bytes text ≡ bytes)) (whole c.as_str-name.result.now c.as_str-steps.result.now) written in
    IfOk-weaker c.format.result _ _
    (λ text is. record {
      place = c.args.number;
      there = c.requires.there;
      part = part;
      reason = c.in_ok-part.ensures.part;
      steps = c.as_str-steps.result.now;
      told = steps;
      is = is;
    })
    (subst (λ (name : List ℕ). IfOk c.format.result (λ text. string_bytes text ≡ name ++ codes " waits\n" ++ c.as_str-steps.result.now)) c.as_str-name.ensures.bytes told)
