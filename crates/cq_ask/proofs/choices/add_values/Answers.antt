use Rattle.std.proofs.Common.{◌≡◌, List, ℕ, true, false, sym, ◌∙◌, subst, get_or}
use Rattle.std.proofs.Math.ListN.{drop_of_length-le}
use Rattle.std.proofs.lemmas.List.{take_all}
use Rattle.std.proofs.lemmas.Result.{IfOk-weaker}
use Rattle.cq_atom.specs.Value.{ValueContent}
use Rattle.cq_ask.specs.Choices.{StandsForValue}
use Rattle.cq_ask.specs.Steps.Splitting.{is_cut}
use Rattle.cq_ask.proofs.Chosen.{IsBegun, begun-nothing, begun-byte, begun-value, begun-end, cut-nothing, cut-byte, cut-value, cut_is_comma, none_at_cut, none_at_end}
use Rattle.cq_ask.proofs.choices.add_values.Goals.{then-is_cut+in_ok-add_value+else-not-branch, else-is_cut+in_ok-push}
use Rattle.cq_ask.proofs.choices.add_values.Goals as goal

pub loop-byte-init : goal.loop-byte-init
loop-byte-init g c = record {
  begun = λ none empty. begun-nothing c.args.text.now c.args.values.now.items c.args.piece.now.items none empty;
  cut = λ empty. cut-nothing c.args.text.now c.args.piece.now.items empty;
}

pub loop-byte-preserved : goal.loop-byte-preserved
loop-byte-preserved g c =
    let text = c.args.text.now in
    let i = c.loop-byte.byte-index in
    let values = c.loop-byte.values.items in
    let piece = c.loop-byte.piece.items in
    let low = c.loop-byte-test.true in
    elim c.if-is_cut.branch [
      | then-is_cut+in_ok-add_value+else-not-branch w ↦
          let added = w.in_ok-add_value.ensures.added w.if-not-branch.false in
          let stands = subst (λ (one : List ℕ). StandsForValue one added.0) w.deref.ensures.value added.1 in
          let here : is_cut c.loop-byte.place (get_or text i 0) ≡ true = sym c.is_cut.ensures ∙ w.if-is_cut.true in
          record {
            begun = λ none empty. rw (w.values-is, w.piece-is, w.clear.ensures.items, added.2) (begun-value text i 0 values piece added.0 low (cut_is_comma c.loop-byte.place (get_or text i 0) here) stands (c.loop-byte.invariant.begun none empty));
            cut = λ empty. rw (w.place-is, w.piece-is, w.clear.ensures.items) (cut-value text i 0 c.loop-byte.place piece low here (c.loop-byte.invariant.cut empty));
          }
      | else-is_cut+in_ok-push w ↦
          let here : is_cut c.loop-byte.place (get_or text i 0) ≡ false = sym c.is_cut.ensures ∙ w.if-is_cut.false in
          record {
            begun = λ none empty. rw (w.values-is, w.piece-is, w.in_ok-push.ensures.items) (begun-byte text i 0 values piece low (c.loop-byte.invariant.begun none empty));
            cut = λ empty. rw (w.place-is, w.after-place.ensures, w.piece-is, w.in_ok-push.ensures.items) (cut-byte text i 0 c.loop-byte.place piece low here (c.loop-byte.invariant.cut empty));
          }
    ]

pub returns-then-not-branch-clause-none : goal.returns-then-not-branch-clause-none
returns-then-not-branch-clause-none g c none empty same all paired =
    let text = c.args.text.now in
    let i = c.loop-byte.byte-index in
    let here : is_cut c.loop-byte.place (get_or text i 0) ≡ true = sym c.is_cut.ensures ∙ c.if-is_cut.true in
    let nothing : (value : ValueContent) → StandsForValue c.loop-byte.piece.items value → ⊥ = rw c.deref.ensures.value at (c.in_ok-add_value.ensures.none c.if-not-branch.true) in
    none_at_cut text i 0 c.loop-byte.place c.loop-byte.piece.items c.loop-byte-test.true here nothing (c.loop-byte.invariant.cut empty) all paired

pub returns-clause-added : goal.returns-clause-added
returns-clause-added g c none empty =
    let text = c.args.text.now in
    let begun : IsBegun text c.loop-byte.values.items c.loop-byte.piece.items = subst (λ (front : List ℕ). IsBegun front c.loop-byte.values.items c.loop-byte.piece.items) (take_all c.loop-byte.byte-index text c.loop-byte-test.false) (c.loop-byte.invariant.begun none empty) in
    IfOk-weaker c.add_value-2.result _ _
    (λ added told on.
    let one = told on in
    let stands = subst (λ (piece : List ℕ). StandsForValue piece one.0) c.deref-2.ensures.value one.1 in
    rw one.2 (begun-end text c.loop-byte.values.items c.loop-byte.piece.items one.0 stands begun))
    c.add_value-2.ensures.added

pub returns-clause-none : goal.returns-clause-none
returns-clause-none g c none empty =
    let text = c.args.text.now in
    IfOk-weaker c.add_value-2.result _ _
    (λ added told on all paired.
    let nothing : (value : ValueContent) → StandsForValue c.loop-byte.piece.items value → ⊥ = rw c.deref-2.ensures.value at (told on) in
    none_at_end text c.loop-byte.byte-index c.loop-byte.place c.loop-byte.piece.items (drop_of_length-le text c.loop-byte-test.false) nothing (c.loop-byte.invariant.cut empty) all paired)
    c.add_value-2.ensures.none
