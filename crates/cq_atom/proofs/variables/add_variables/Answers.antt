use Rattle.std.specs.Prelude.{string_bytes}
use Rattle.std.proofs.Common.{List, sym, ◌∙◌, ap, map, fold, drop, ◌+◌}
use Rattle.std.proofs.lemmas.List.{drop_all}
use Rattle.std.specs.List.{filter_map}
use Rattle.cq_atom.specs.Atom.{TermContent, variable_of}
use Rattle.cq_atom.specs.Steps.Variables.{with_variable}
use Rattle.cq_atom.proofs.Firsts.{fold-variable, fold-constant}
use Rattle.cq_atom.proofs.variables.add_variables.Goals as goal
use Rattle.cq_atom.proofs.variables.add_variables.Goals.{in-Some+in_ok-add_variable, in_default}

pub loop-term-preserved : goal.loop-term-preserved
loop-term-preserved g c =
    let terms = c.terms-term-items.result.now in
    let seen = map string_bytes c.loop-term.variables.items in
    elim c.match-as_variable.branch [
      | in-Some+in_ok-add_variable w ↦
          c.loop-term.invariant
          ∙ fold-variable seen terms c.loop-term.term-index c.term-item.result w.in-Some.name.now c.loop-term-test.true c.term-item.is (sym w.in-Some.ensures.value)
          ∙ rw w.variables-is (ap (λ names. fold with_variable names (filter_map variable_of (drop (c.loop-term.term-index + 1) terms))) (sym w.in_ok-add_variable.ensures))
      | in_default w ↦
          c.loop-term.invariant
          ∙ fold-constant seen terms c.loop-term.term-index c.term-item.result c.loop-term-test.true c.term-item.is (sym w.in_default.ensures.value)
          ∙ ap (λ v. fold with_variable (map string_bytes v.items) (filter_map variable_of (drop (c.loop-term.term-index + 1) terms))) (sym w.variables-is)
    ]

pub loop-term-init : goal.loop-term-init
loop-term-init g c =
    ap (λ (ts : List TermContent). fold with_variable (map string_bytes c.args.variables.now.items) (filter_map variable_of ts)) (sym c.terms-term-items.ensures.value)

pub returns : goal.returns
returns g c =
    sym (c.loop-term.invariant
    ∙ ap (λ (ts : List TermContent). fold with_variable (map string_bytes c.loop-term.variables.items) (filter_map variable_of ts)) (drop_all c.loop-term.term-index c.terms-term-items.result.now c.loop-term-test.false))
