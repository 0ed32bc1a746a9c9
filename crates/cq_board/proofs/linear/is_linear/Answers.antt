use Rattle.std.proofs.Common.{◌≡◌, ℕ, ◌<◌, ◌≤◌, false, get_or, length, refl, subst, arith}
use Rattle.std.proofs.lemmas.List.{get_or_read}
use Rattle.cq_atom.specs.Atom.{TermContent}
use Rattle.cq_board.specs.Steps.Linear.{is_one_variable, IsSoundTerm}
use borrow.Author.Count.{below_more}
use Rattle.cq_board.proofs.linear.is_linear.Goals as goal

below : (i n m : ℕ) → i < n → n ≤ m → i < m
below i n m low most = omega arith

pub loop-place-preserved : goal.loop-place-preserved
loop-place-preserved g c =
    let terms = c.args.terms.now in
    let place = c.loop-place.place in
    let was = c.loop-place.invariant in
    let read = get_or_read terms place c.index-terms-place.result c.loop-place-test.true c.index-terms-place.is in
    let apart = below_more (λ (j : ℕ). (i : ℕ) (d : TermContent) → i < j → is_one_variable (get_or terms i d) (get_or terms j d) ≡ false) place
    (λ j low i d before. was.apart i j d before low) (c.if-stands_before.ensures refl) in
    let sound = below_more (λ (i : ℕ). (d : TermContent) → IsSoundTerm (get_or terms i d)) place
    (λ i low d. was.sound i d low) (λ d. subst IsSoundTerm (read d) c.know.ensures) in
    record { apart = λ i j d before low. apart j low i d before; sound = λ i d low. sound i low d }

pub returns : goal.returns
returns g c =
    let place = c.loop-place.place in
    let many = length c.args.terms.now in
    let done = c.loop-place-test.false in
    let was = c.loop-place.invariant in
    λ t. record { apart = λ i j d before low. was.apart i j d before (below j many place low done); sound = λ i d low. was.sound i d (below i many place low done) }
