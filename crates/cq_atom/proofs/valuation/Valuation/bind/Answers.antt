use Rattle.std.proofs.Common.{sym, ap, ◌∙◌, ◌≡◌, ◌<◌, [], true, Some, arith, get_or, length, subst}
use Rattle.std.specs.Prelude.{pos}
use Rattle.cq_atom.specs.declared.value.Content.TheVariants.{Number}
use Rattle.cq_atom.specs.Valuation.{Bindings}
use Rattle.cq_atom.specs.Text.{is_variable_name}
use Rattle.cq_atom.proofs.Names.{name-of_variable}
use Rattle.cq_atom.proofs.Bindings.{FirstAt-position, value_at-none, value_at-first, value_at-bound, value_at-pushed}
use Rattle.cq_atom.proofs.valuation.Valuation.bind.Goals as goal

pub returns-in-Some-clause-answer : goal.returns-in-Some-clause-answer
returns-in-Some-clause-answer g c =
    let variable : is_variable_name c.args.name.now ≡ true = sym c.if-not-is_variable_text.ensures in
    let d = c.index_mut.result.now in
    let first = FirstAt-position c.args.name.now c.args.self.now c.in-Some.place d (sym c.in-Some.ensures) in
    rw variable (ap Some (c.replace.ensures.value ∙ ap (λ b. b.1) c.index_mut.ensures.value ∙ ap (λ v. (get_or v c.in-Some.place d).1) c.self.view_is)
    ∙ sym (value_at-first c.args.name.now c.args.self.now c.in-Some.place d first))

pub returns-in-Some-clause-ok : goal.returns-in-Some-clause-ok
returns-in-Some-clause-ok g c =
    let d = c.index_mut.result.now in
    let first = FirstAt-position c.args.name.now c.args.self.now c.in-Some.place d (sym c.in-Some.ensures) in
    value_at-bound c.args.name.now c.args.value c.replace.new.dest c.self.inside.bindings.items c.args.self.now c.in-Some.place d c.self.view_is c.index_mut.ensures.value c.replace.ensures.after first

pub returns-clause-answer : goal.returns-clause-answer
returns-clause-answer g c =
    let variable : is_variable_name c.args.name.now ≡ true = sym c.if-not-is_variable_text.ensures in
    rw variable (sym (value_at-none c.args.name.now c.args.self.now (sym c.in_default.ensures)))

pub returns-clause-ok : goal.returns-clause-ok
returns-clause-ok g c =
    let variable : is_variable_name c.args.name.now ≡ true = sym c.if-not-is_variable_text.ensures in
    let made = rw (name-of_variable c.args.name.now variable) at c.in_ok-name.ensures in
    value_at-pushed c.args.name.now c.in_ok-name.name c.args.value c.self.inside.bindings.items c.push.new.self.items c.args.self.now c.self.view_is c.in_ok-push.ensures.items made
    (value_at-none c.args.name.now c.args.self.now (sym c.in_default.ensures))

pub index_mut-requires : goal.index_mut-requires
index_mut-requires g c =
    let first = FirstAt-position c.args.name.now c.args.self.now c.in-Some.place ([], Number (pos 0)) (sym c.in-Some.ensures) in
    let inside : c.in-Some.place < length c.self.inside.bindings.items = subst (λ (v : Bindings). c.in-Some.place < length v) (sym c.self.view_is) first.inside in
    omega (arith, inside, c.self.inside.bindings.ok.0)
