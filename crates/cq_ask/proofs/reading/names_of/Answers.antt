use Rattle.std.proofs.Common.{◌∙◌, sym, refl}
use Rattle.std.proofs.lemmas.List.Folds.{list_all-map, list_all_at}
use Rattle.cq_atom.specs.Text.{is_name}
use Rattle.cq_ask.proofs.Names.{none_no_name, some_name, names_next, all_next}
use Rattle.cq_ask.proofs.reading.names_of.Goals as goal

pub returns-in_default : goal.returns-in_default
returns-in_default g c =
    let words = c.args.words.now in
    let other = none_no_name _ _ (sym c.in_default.is ∙ c.in_ok-name.ensures) in
    rw (list_all-map is_name (λ word. word.now) words ∙ list_all_at (λ word. is_name word.now) words c.loop-word.word-index _ c.loop-word-test.true other) refl

pub loop-word-preserved : goal.loop-word-preserved
loop-word-preserved g c =
    let words = c.args.words.now in
    let i = c.loop-word.word-index in
    let some = some_name _ _ _ (sym c.in-Some.is ∙ c.in_ok-name.ensures) in
    record {
      names = names_next (λ word. word.now) words i _ _ _ _ c.loop-word-test.true c.loop-word.invariant.names c.in_ok-push.ensures.items some.1;
      all = all_next (λ word. word.now) words i _ c.loop-word-test.true c.loop-word.invariant.all some.0;
    }
