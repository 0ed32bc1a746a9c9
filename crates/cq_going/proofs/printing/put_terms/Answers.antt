use Rattle.std.proofs.Common.{◌≡◌, ◌++◌, ◌∙◌, ℕ, List, ap, codes, subst}
use Rattle.std.specs.Prelude.{string_bytes}
use Rattle.std.specs.List.{join_by}
use Rattle.std.proofs.lemmas.List.{take_all}
use Rattle.cq_atom.specs.Atom.{TermContent}
use Rattle.cq_atom.specs.Valuation.{term_under}
use Rattle.cq_board.specs.Choice.{bound}
use Rattle.cq_text.specs.Print.{printed_term}
use Rattle.cq_going.proofs.Separated.{item_more, join_mapped}
use Rattle.cq_going.proofs.printing.put_terms.Goals as goal

pub loop-place-preserved : goal.loop-place-preserved
loop-place-preserved g c =
    item_more (λ term. printed_term (term_under (bound c.args.query.now c.args.values.now) term)) (codes ", ") _ _ _ _ _ _ _ c.loop-place-test.true c.index-terms-place.is c.loop-place.invariant c.in_ok-put_separator.ensures c.in_ok-put_term.ensures

pub returns : goal.returns
returns g c =
    let f : TermContent → List ℕ = λ term. printed_term (term_under (bound c.args.query.now c.args.values.now) term) in
    subst (λ (xs : List TermContent). string_bytes c.loop-place.page ≡ string_bytes c.args.page.now ++ join_by f (codes ", ") xs) (take_all c.loop-place.place c.args.terms.now c.loop-place-test.false) c.loop-place.invariant
    ∙ ap (λ (l : List ℕ). string_bytes c.args.page.now ++ l) (join_mapped printed_term (term_under (bound c.args.query.now c.args.values.now)) (codes ", ") c.args.terms.now)
