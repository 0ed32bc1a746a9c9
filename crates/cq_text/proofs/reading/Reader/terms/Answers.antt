use Rattle.std.proofs.Common.{◌≡◌, ◌≤◌, ℕ, zero-le, Bool, List, IsTrue, length, vec_len, Ok, sym, ap, subst, ◌∙◌, arith}
use Rattle.std.proofs.lemmas.Result.{err_from_is_err_and}
use Rattle.cq_atom.specs.Atom.{TermContent, is_arity}
use Rattle.cq_text.specs.Steps.Lists.{term_at, terms_at}
use Rattle.cq_text.specs.Forms.{most_terms}
use Rattle.cq_text.proofs.Loops.{at_numbers, fails_at_numbers, with_ahead, of_given, term_needs, begins, step_fails, step_more, step_done, step_room, some_arity}
use Rattle.cq_text.proofs.reading.Reader.terms.Goals as goal

pub terms-init : goal.terms-init
unfolding terms_at
terms-init g c = let none = c.take_room-terms.result.ok.0 ∙ ap length c.take_room-terms.ensures.empty in record {
  few = subst (λ (n : ℕ). n ≤ most_terms c.args.form) (sym none) zero-le;
  goes_on = rw c.take_room-terms.ensures.same (begins term_at (most_terms c.args.form) c.take_room-terms.result.items (vec_len c.take_room-terms.result) c.args.self.now c.take_room-terms.ensures.empty none);
}

pub returns-in_err-term-clause-terms : goal.returns-in_err-term-clause-terms
returns-in_err-term-clause-terms g c =
    let p = err_from_is_err_and c.from_residual.result c.from_residual.ensures.1 in
    let h = fails_at_numbers term_at c.in_err-term.field-0.0 _ _ (vec_len c.terms.terms) (most_terms c.args.form) c.terms.self c.len.ensures c.max_terms.ensures c.in_err-term.ensures in
    rw (p.1, p.2) (step_fails term_at c.in_err-term.field-0.0 (most_terms c.args.form) c.terms.terms.items (vec_len c.terms.terms) c.terms.self (terms_at c.args.form c.args.self.now) term_needs c.terms.invariant.few c.terms.invariant.goes_on h)

pub returns-then-not-has_more-clause-terms : goal.returns-then-not-has_more-clause-terms
returns-then-not-has_more-clause-terms g c =
    let h = at_numbers term_at _ _ (vec_len c.terms.terms) (most_terms c.args.form) c.terms.self _ c.len.ensures c.max_terms.ensures c.in_ok-term.ensures ∙ ap (λ (more : Bool). Ok (c.in_ok-term.term, more, c.term.new.self)) c.if-not-has_more.true in
    rw c.gathered.ensures.same (with_ahead _ c.gathered.result c.push.new.self.items c.term.new.self _ c.gathered.ensures.terms (rw c.in_ok-push.ensures.items (step_done term_at (most_terms c.args.form) c.terms.terms.items (vec_len c.terms.terms) c.terms.self c.term.new.self c.in_ok-term.term (terms_at c.args.form c.args.self.now) term_needs c.terms.invariant.few c.terms.invariant.goes_on h)))

pub terms-smaller : goal.terms-smaller
terms-smaller g c =
    let h = at_numbers term_at _ _ (vec_len c.terms.terms) (most_terms c.args.form) c.terms.self _ c.len.ensures c.max_terms.ensures c.in_ok-term.ensures in
    let lt = step_room term_at (most_terms c.args.form) (vec_len c.terms.terms) c.terms.self _ term_needs c.terms.invariant.few h in
    omega (arith, lt, c.in_ok-push.ensures.len)

pub terms-preserved : goal.terms-preserved
terms-preserved g c =
    let h = at_numbers term_at _ _ (vec_len c.terms.terms) (most_terms c.args.form) c.terms.self _ c.len.ensures c.max_terms.ensures c.in_ok-term.ensures ∙ ap (λ (more : Bool). Ok (c.in_ok-term.term, more, c.term.new.self)) c.if-not-has_more.false in
    let lt = step_room term_at (most_terms c.args.form) (vec_len c.terms.terms) c.terms.self _ term_needs c.terms.invariant.few h in
    record {
      few = omega (arith, lt, c.in_ok-push.ensures.len);
      goes_on = rw (c.in_ok-push.ensures.len, c.in_ok-push.ensures.items) (step_more term_at (most_terms c.args.form) c.terms.terms.items (vec_len c.terms.terms) c.terms.self c.term.new.self c.in_ok-term.term (terms_at c.args.form c.args.self.now) term_needs c.terms.invariant.few c.terms.invariant.goes_on h);
    }

pub returns-then-not-has_more-clause-arity : goal.returns-then-not-has_more-clause-arity
returns-then-not-has_more-clause-arity g c =
    let h = at_numbers term_at _ _ (vec_len c.terms.terms) (most_terms c.args.form) c.terms.self _ c.len.ensures c.max_terms.ensures c.in_ok-term.ensures in
    let lt = step_room term_at (most_terms c.args.form) (vec_len c.terms.terms) c.terms.self _ term_needs c.terms.invariant.few h in
    let count : length c.push.new.self.items ≡ vec_len c.push.new.self = sym c.push.new.self.ok.0 in
    let arity : IsTrue (is_arity (length c.push.new.self.items)) = rw (count, c.in_ok-push.ensures.len) (some_arity c.args.form (vec_len c.terms.terms) lt) in
    of_given (λ (terms : List TermContent). IsTrue (is_arity (length terms))) _ c.gathered.result c.push.new.self.items c.gathered.ensures.terms arity
