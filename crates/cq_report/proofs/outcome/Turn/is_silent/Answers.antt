use Rattle.std.proofs.Common.{◌≡◌, ◌==◌, ◌++◌, ◌∙◌, ℕ, suc, true, false, List, ◌∷◌, [], length, Option, Some, None, ap, sym, arith}
use Rattle.std.specs.Option.{is_some}
use Rattle.cq_ask.specs.declared.counts.Counts.{Counts}
use Rattle.cq_report.specs.declared.numbering.Numbering.{Numbering}
use Rattle.cq_report.specs.declared.numbering.Numbering.TheVariants.{Plain, Numbered, Json}
use Rattle.cq_report.specs.declared.outcome.Outcome.{Outcome}
use Rattle.cq_report.specs.Reply.{outcome_end, outcome_line}
use Rattle.cq_report.specs.Steps.Turns.{counts_page, is_silent, paged}
use Rattle.cq_report.proofs.outcome.Turn.is_silent.Goals as goal

not_none : (n : ℕ) → (suc n == 0) ≡ false
not_none n = grind arith

-- lists of which a part has elements
some_first : (xs ys : List ℕ) → (length ys == 0) ≡ false → (length (xs ++ ys) == 0) ≡ false
some_first [] ys some = some
some_first (x ∷ xs) ys some = not_none _

some_page : (numbering : Numbering) (counts : Counts) (end : List ℕ) → (length (counts_page numbering counts ++ end) == 0) ≡ false
some_page Plain counts end = not_none _
some_page Numbered counts end = not_none _
some_page Json counts end = not_none _

-- counts are told
spoken_of : (o : Outcome) (told : Option (Numbering × Counts)) (text : List ℕ) → true ≡ is_some told → false ≡ is_silent (record { outcome = o; page = paged told text })
spoken_of o None text some = absurd cc
spoken_of o (Some told) text some = sym (some_first (outcome_line o) (counts_page told.0 told.1 ++ outcome_end o) (some_page told.0 told.1 (outcome_end o)))

pub returns-then-is_some : goal.returns-then-is_some
returns-then-is_some g c = spoken_of c.self.inside.outcome c.self.inside.counts _ c.if-is_some.ensures ∙ ap is_silent c.self.view_is
