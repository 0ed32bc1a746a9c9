use Rattle.std.proofs.Common.{◌≡◌, ℕ, true, false, length, map, get_or, refl, sym, ap, ◌∙◌, arith}
use Rattle.std.specs.List.{between}
use Rattle.cq_ask.specs.Choices.{is_gap}
use Rattle.cq_ask.proofs.Words.{begun-none, begun-part, begun-word, begun-all}
use Rattle.cq_ask.proofs.choices.choice_words.Goals.{then-is_gap+in_ok-add_word, else-is_gap}
use Rattle.cq_ask.proofs.choices.choice_words.Goals as goal

pub loop-i-init : goal.loop-i-init
loop-i-init g c = rw c.new-words.ensures.items (begun-none c.args.text.now)

pub loop-i-preserved : goal.loop-i-preserved
loop-i-preserved g c =
    let text = c.args.text.now in
    let i = c.loop-i.i in
    let start = c.loop-i.start in
    let words = map (λ word. word.now) c.loop-i.words.items in
    let low = c.loop-i-test.true in
    elim c.if-is_gap.branch [
      | then-is_gap+in_ok-add_word w ↦
          let gap : is_gap c.loop-i.place (get_or text i 0) ≡ true = sym c.is_gap.ensures ∙ w.if-is_gap.true in
          rw (w.words-is, w.place-is, w.start-is) (begun-word text start i 0 c.loop-i.place words _ (between start i text) low gap refl w.in_ok-add_word.ensures c.loop-i.invariant)
      | else-is_gap w ↦
          let part : is_gap c.loop-i.place (get_or text i 0) ≡ false = sym c.is_gap.ensures ∙ w.if-is_gap.false in
          rw (w.words-is, w.place-is, w.start-is, w.bracket_after-place.ensures) (begun-part text start i 0 c.loop-i.place words low part c.loop-i.invariant)
    ]

pub returns : goal.returns
returns g c =
    let text = c.args.text.now in
    let i = c.loop-i.i in
    let end : length text ≡ i = omega arith in
    begun-all text c.loop-i.start i 0 c.loop-i.place (map (λ word. word.now) c.loop-i.words.items) _ (between c.loop-i.start (length text) text) (omega (arith, end)) (ap (λ (n : ℕ). between c.loop-i.start n text) end) c.in_ok-add_word-2.ensures c.loop-i.invariant
