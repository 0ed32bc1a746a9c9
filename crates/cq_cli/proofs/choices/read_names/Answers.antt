use Rattle.std.proofs.Common.{◌∙◌}
use Rattle.std.proofs.lemmas.List.Folds.{list_all-map, list_all_at}
use Rattle.cq_atom.specs.Text.{is_name}
use Rattle.cq_cli.proofs.choices.read_names.Goals as goal

pub returns-in-Err-clause-bad : goal.returns-in-Err-clause-bad
returns-in-Err-clause-bad g c other =
    let words = c.args.words.now in
    list_all-map is_name (λ word. word.now) words ∙ list_all_at (λ word. is_name word.now) words c.loop-word.word-index _ c.loop-word-test.true (c.in-Err.ensures.bad other)
