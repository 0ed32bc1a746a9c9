use Rattle.std.proofs.Common.{◌≡◌, ◌∙◌, ℕ, List, None, ap, length, map, subst, sym}
use Rattle.std.proofs.lemmas.List.{length-map}
use Rattle.std.specs.Arc.{arc_value}
use Rattle.cq_atom.specs.Atom.{TermContent, AtomRecord, arity_fault}
use Rattle.cq_atom.specs.Valuation.{term_under, under}
use Rattle.cq_atom.proofs.atom.Atom.under.Given.{Over}
use Rattle.cq_atom.proofs.atom.Atom.under.Goals as goal

name-kept : (g : Over) (c : goal.In_ok-parts g) → c.in_ok-relation.relation ≡ (arc_value c.self.inside.parts).relation
name-kept g c = c.in_ok-relation.ensures.cases ∙ ap (λ p. p.relation) c.deref.ensures

terms-made : (g : Over) (c : goal.In_ok-parts g) → c.in_ok-terms.terms.items ≡ map (term_under c.args.valuation.now) (arc_value c.self.inside.parts).terms.items
terms-made g c = c.in_ok-terms.ensures ∙ ap (map (term_under c.args.valuation.now)) (c.deref-4.ensures.value ∙ ap (λ p. p.terms.items) c.deref-3.ensures)

pub invariant_of-result : goal.invariant_of-result
invariant_of-result g c =
    let parts = arc_value c.self.inside.parts in
    subst (λ p. arity_fault p.relation (length p.terms.items) ≡ None) (sym c.in_ok-parts.ensures.ok) (
    ap (λ (name : List ℕ). arity_fault name (length c.in_ok-terms.terms.items)) (name-kept g c)
    ∙ ap (arity_fault parts.relation) (ap length (terms-made g c) ∙ length-map parts.terms.items (term_under c.args.valuation.now))
    ∙ c.self.invariant
    )

pub returns : goal.returns
returns g c =
    let parts = arc_value c.self.inside.parts in
    let shown : List ℕ → List TermContent → AtomRecord = λ name terms. record { relation = name; terms = terms } in
    ap (λ p. record { relation = p.relation; terms = p.terms.items }) c.in_ok-parts.ensures.ok
    ∙ ap (λ (name : List ℕ). shown name c.in_ok-terms.terms.items) (name-kept g c)
    ∙ ap (shown parts.relation) (terms-made g c)
    ∙ ap (under c.args.valuation.now) c.self.view_is
