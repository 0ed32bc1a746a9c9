use Rattle.std.proofs.Common.{◌≡◌, ℕ, ◌<◌, ◌≤◌, true, false, get_or, length, sym, ◌∙◌, arith}
use Rattle.std.proofs.lemmas.List.{get_or_read}
use Rattle.cq_atom.specs.Atom.{TermContent}
use Rattle.cq_board.specs.Steps.Linear.{is_one_variable}
use borrow.Author.Count.{below_more}
use Rattle.cq_board.proofs.linear.stands_before.Goals as goal

below : (i n m : ℕ) → i < n → n ≤ m → i < m
below i n m low most = omega arith

in-all : (i n m : ℕ) → i < n → n < m → i < m
in-all i n m low within = omega arith

pub bounds-terms-before : goal.bounds-terms-before
bounds-terms-before g c = in-all c.loop-before.before c.args.place (length c.args.terms.now) c.loop-before-test.true c.requires

pub returns-then-is_one_variable : goal.returns-then-is_one_variable
returns-then-is_one_variable g c = λ t i d low. absurd (let never : true ≡ false = t in cc)

pub loop-before-preserved : goal.loop-before-preserved
loop-before-preserved g c =
    let terms = c.args.terms.now in
    let i = c.loop-before.before in
    let place = c.args.place in
    let within = in-all i place (length terms) c.loop-before-test.true c.requires in
    let first = get_or_read terms i c.index-terms-before.result within c.index-terms-before.is in
    let second = get_or_read terms place c.index-terms-place.result c.requires c.index-terms-place.is in
    let apart = sym c.is_one_variable.ensures.same ∙ c.if-is_one_variable.false in
    let all = below_more (λ (k : ℕ). (d : TermContent) → is_one_variable (get_or terms k d) (get_or terms place d) ≡ false) i
    (λ k low d. c.loop-before.invariant k d low) (λ d. sym (λ j. is_one_variable (first d j) (second d j)) ∙ apart) in
    λ k d low. all k low d

pub returns : goal.returns
returns g c = λ t i d low. c.loop-before.invariant i d (below i c.args.place c.loop-before.before low c.loop-before-test.false)
