-- What is answered of a search.
use Rattle.std.specs.Prelude.{◌≡◌, ⊤, List}
use Rattle.cq_select.specs.declared.search.Selected.{Selected}
use Rattle.cq_select.specs.declared.search.Selected.TheVariants as selected
use Rattle.cq_choose.specs.declared.choosing.Answer.{Answer}
use Rattle.cq_choose.specs.declared.choosing.Answer.TheVariants.{Found, Impossible, Undecided}
use Rattle.cq_choose.specs.Steps.Offers.{OfferRecord, choices_of}

-- The answer tells what was found: the choices by the offers that were selected.
abbrev pub Answers : {A : Type 0} → List OfferRecord → Selected A → Answer A → Type 0
Answers offers (selected.Found chosen) (Found choices) = choices.items ≡ choices_of offers chosen.items
Answers offers (selected.Found chosen) Impossible = ⊥
Answers offers (selected.Found chosen) Undecided = ⊥
Answers offers selected.Impossible (Found choices) = ⊥
Answers offers selected.Impossible Impossible = ⊤
Answers offers selected.Impossible Undecided = ⊥
Answers offers selected.Undecided (Found choices) = ⊥
Answers offers selected.Undecided Impossible = ⊥
Answers offers selected.Undecided Undecided = ⊤
