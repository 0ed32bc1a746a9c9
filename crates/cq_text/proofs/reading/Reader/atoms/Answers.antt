use Rattle.std.proofs.Common.{◌≡◌, ◌≤◌, ◌+◌, ℕ, zero-le, Bool, length, vec_len, Ok, sym, ap, subst, ◌∙◌, arith}
use Rattle.std.proofs.lemmas.Result.{err_from_is_err_and}
use Rattle.cq_text.specs.Steps.Lists.{atom_at, atoms_at}
use Rattle.cq_text.specs.Forms.{most_atoms}
use Rattle.cq_text.proofs.Loops.{at_numbers, fails_at_numbers, atom_needs, begins, step_fails, step_more, step_done, step_room, few_atoms_of}
use Rattle.cq_text.proofs.reading.Reader.atoms.Goals as goal

pub atoms-init : goal.atoms-init
unfolding atoms_at
atoms-init g c = record {
  few = subst (λ (n : ℕ). n ≤ most_atoms c.args.form) (sym c.in_ok-atoms.ensures.len) zero-le;
  goes_on = begins (atom_at c.args.form c.args.close) (most_atoms c.args.form) c.in_ok-atoms.atoms.items (vec_len c.in_ok-atoms.atoms) c.args.self.now c.in_ok-atoms.ensures.items c.in_ok-atoms.ensures.len;
}

pub returns-in_err-atom-clause-atoms : goal.returns-in_err-atom-clause-atoms
returns-in_err-atom-clause-atoms g c =
    let p = err_from_is_err_and c.from_residual-in_err-atom.result c.from_residual-in_err-atom.ensures.1 in
    let h = fails_at_numbers (atom_at c.args.form c.args.close) c.in_err-atom.field-0.0 _ _ (vec_len c.atoms.atoms) (most_atoms c.args.form) c.atoms.self c.len.ensures c.max_atoms.ensures c.in_err-atom.ensures in
    rw (p.1, p.2) (step_fails (atom_at c.args.form c.args.close) c.in_err-atom.field-0.0 (most_atoms c.args.form) c.atoms.atoms.items (vec_len c.atoms.atoms) c.atoms.self (atoms_at c.args.form c.args.close c.args.self.now) (atom_needs c.args.form c.args.close) c.atoms.invariant.few c.atoms.invariant.goes_on h)

pub returns-then-not-has_more-clause-atoms : goal.returns-then-not-has_more-clause-atoms
returns-then-not-has_more-clause-atoms g c =
    let h = at_numbers (atom_at c.args.form c.args.close) _ _ (vec_len c.atoms.atoms) (most_atoms c.args.form) c.atoms.self _ c.len.ensures c.max_atoms.ensures c.in_ok-atom.ensures ∙ ap (λ (more : Bool). Ok (c.in_ok-atom.atom, more, c.atom.new.self)) c.if-not-has_more.true in
    rw c.in_ok-push.ensures.items (step_done (atom_at c.args.form c.args.close) (most_atoms c.args.form) c.atoms.atoms.items (vec_len c.atoms.atoms) c.atoms.self c.atom.new.self c.in_ok-atom.atom (atoms_at c.args.form c.args.close c.args.self.now) (atom_needs c.args.form c.args.close) c.atoms.invariant.few c.atoms.invariant.goes_on h)

pub atoms-smaller : goal.atoms-smaller
atoms-smaller g c =
    let h = at_numbers (atom_at c.args.form c.args.close) _ _ (vec_len c.atoms.atoms) (most_atoms c.args.form) c.atoms.self _ c.len.ensures c.max_atoms.ensures c.in_ok-atom.ensures in
    let lt = step_room (atom_at c.args.form c.args.close) (most_atoms c.args.form) (vec_len c.atoms.atoms) c.atoms.self _ (atom_needs c.args.form c.args.close) c.atoms.invariant.few h in
    omega (arith, lt, c.in_ok-push.ensures.len)

pub atoms-preserved : goal.atoms-preserved
atoms-preserved g c =
    let h = at_numbers (atom_at c.args.form c.args.close) _ _ (vec_len c.atoms.atoms) (most_atoms c.args.form) c.atoms.self _ c.len.ensures c.max_atoms.ensures c.in_ok-atom.ensures ∙ ap (λ (more : Bool). Ok (c.in_ok-atom.atom, more, c.atom.new.self)) c.if-not-has_more.false in
    let lt = step_room (atom_at c.args.form c.args.close) (most_atoms c.args.form) (vec_len c.atoms.atoms) c.atoms.self _ (atom_needs c.args.form c.args.close) c.atoms.invariant.few h in
    record {
      few = omega (arith, lt, c.in_ok-push.ensures.len);
      goes_on = rw (c.in_ok-push.ensures.len, c.in_ok-push.ensures.items) (step_more (atom_at c.args.form c.args.close) (most_atoms c.args.form) c.atoms.atoms.items (vec_len c.atoms.atoms) c.atoms.self c.atom.new.self c.in_ok-atom.atom (atoms_at c.args.form c.args.close c.args.self.now) (atom_needs c.args.form c.args.close) c.atoms.invariant.few c.atoms.invariant.goes_on h);
    }

pub returns-then-not-has_more-clause-some : goal.returns-then-not-has_more-clause-some
returns-then-not-has_more-clause-some g c =
    let count : length c.push.new.self.items ≡ vec_len c.push.new.self = sym c.push.new.self.ok.0 in
    rw (count, c.in_ok-push.ensures.len) (omega arith)

pub returns-then-not-has_more-clause-few : goal.returns-then-not-has_more-clause-few
returns-then-not-has_more-clause-few g c =
    let h = at_numbers (atom_at c.args.form c.args.close) _ _ (vec_len c.atoms.atoms) (most_atoms c.args.form) c.atoms.self _ c.len.ensures c.max_atoms.ensures c.in_ok-atom.ensures in
    let lt = step_room (atom_at c.args.form c.args.close) (most_atoms c.args.form) (vec_len c.atoms.atoms) c.atoms.self _ (atom_needs c.args.form c.args.close) c.atoms.invariant.few h in
    let count : length c.push.new.self.items ≡ vec_len c.push.new.self = sym c.push.new.self.ok.0 in
    rw (count, c.in_ok-push.ensures.len) (few_atoms_of c.args.form (vec_len c.atoms.atoms + 1) (omega arith))
