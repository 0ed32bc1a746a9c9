use Rattle.std.proofs.Common.{◌≡◌, ℕ, ◌+◌, ◌<◌, ◌≤◌, if◌then◌else◌, Bool, get_or, take, ap, sym, subst, ◌∙◌, arith}
use Rattle.std.proofs.lemmas.List.{take_all}
use Rattle.cq_atom.specs.Atom.{TermContent}
use Rattle.cq_board.specs.Near.{differ, differences}
use Rattle.cq_board.proofs.Missing.{differences_more, counts_one, counts_none}
use Rattle.cq_board.proofs.near.differences.Goals.{then-differ, else-differ}
use Rattle.cq_board.proofs.near.differences.Goals as goal

pub loop-place-preserved : goal.loop-place-preserved
loop-place-preserved g c =
    let head = c.args.head.now in
    let wanted = c.args.wanted.now in
    let i = c.loop-place.place in
    let s = c.index-head-place.result in
    let t = c.index-wanted-place.result in
    let b = c.differ.result in
    let before = c.loop-place.count in
    let next : c.if-differ.count ≡ before + (if b then 1 else 0) = elim c.if-differ.branch [
      | then-differ w ↦ counts_one b before c.if-differ.count w.if-differ.true w.count-is
      | else-differ w ↦ counts_none b before c.if-differ.count w.if-differ.false w.count-is
    ] in
    let most : c.if-differ.count ≤ before + 1 = elim c.if-differ.branch [
      | then-differ w ↦ let is : c.if-differ.count ≡ before + 1 = w.count-is in omega arith
      | else-differ w ↦ let is : c.if-differ.count ≡ before = w.count-is in omega arith
    ] in
    let same : b ≡ differ (get_or head i s) (get_or wanted i t) =
    c.differ.ensures ∙ ap (λ (x : TermContent). differ x t) c.index-head-place.is ∙ ap (λ (y : TermContent). differ (get_or head i s) y) c.index-wanted-place.is in
    record {
      so_far = next ∙ ap (λ (n : ℕ). n + (if b then 1 else 0)) c.loop-place.invariant.so_far ∙ ap (λ (x : Bool). differences (take i head) (take i wanted) + (if x then 1 else 0)) same
          ∙ sym (differences_more head wanted i s t c.loop-place-test.true c.requires);
      few = let few_before = c.loop-place.invariant.few in omega arith;
    }

pub bounds-wanted-place : goal.bounds-wanted-place
bounds-wanted-place g c = subst (λ (n : ℕ). c.loop-place.place < n) c.requires c.loop-place-test.true

pub offset_bounds-wanted-place : goal.offset_bounds-wanted-place
offset_bounds-wanted-place g c = subst (λ (n : ℕ). c.loop-place.place ≤ n) c.requires c.loop-place.auto.place-end

pub returns : goal.returns
returns g c =
    let i = c.loop-place.place in
    let head = take_all i c.args.head.now c.loop-place-test.false in
    let wanted = take_all i c.args.wanted.now (subst (λ (n : ℕ). n ≤ i) c.requires c.loop-place-test.false) in
    c.loop-place.invariant.so_far ∙ (λ k. differences (head k) (wanted k))
