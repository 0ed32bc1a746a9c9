use Rattle.std.proofs.Common.{rules, ℕ, List, length}
use Rattle.std.specs.Prelude.{not, ◌==◌}
use Rattle.std.proofs.lemmas.Iterator.Consumers.{count_from_yields_List, YieldsList-from_filter}
use Rattle.std.proofs.lemmas.Iterator.Splits.{YieldsList-from_slice_split}
use Rattle.cq_text.specs.Lexing.{is_space}
use Rattle.cq_ask.proofs.reading.word_count.Goals as goal

pub returns : goal.returns
returns c =
    count_from_yields_List _ c.count.result c.count.ensures.ran
    (YieldsList-from_filter _ (λ (word : List ℕ). not (length word == 0)) (YieldsList-from_slice_split _ is_space c.args.text.now (cc) (cc) (cc) (λ x b q k. search rules)) c.filter.ensures.closure (λ x b q k. search rules))
