-- What is said of a call that is refused, and what an insertion answers.
use Rattle.std.proofs.Common.{◌≡◌, Bool, true, false, if◌then◌else◌, List, Some, None, Result, Ok, Err, OnErr, refl, sym, ap, ◌∙◌}
use Rattle.cq_atom.specs.Answer.{Answers}
use Rattle.cq_atom.specs.Value.{ValueContent}
use Rattle.cq_atom.specs.Atom.{RowRecord}
use Rattle.cq_rel.specs.declared.fault.RowFault.TheVariants.{RowPresent, NoMemory}
use Rattle.cq_rel.specs.Steps.Table.{has_values}

pub on_err : {T E P : Type 0} (r : Result T E) → P → OnErr r P
on_err (Ok x) p = tt
on_err (Err e) p = p

-- whether a row has these values, in the rows as they are seen
pub has-seen : (rows seen : List RowRecord) (values given : List ValueContent) (b : Bool) → rows ≡ seen → values ≡ given → b ≡ has_values values rows → has_values given seen ≡ b
has-seen rows seen values given b same given-is is =
    sym (is ∙ ap (λ (v : List ValueContent). has_values v rows) given-is ∙ ap (has_values given) same)

pub answer-present : (b : Bool) → b ≡ true → Answers NoMemory (if b then Some RowPresent else None) (tt {0}) (Err RowPresent)
answer-present true e = refl
answer-present false e = absurd cc

pub answer-inserted : (b : Bool) → b ≡ false → Answers NoMemory (if b then Some RowPresent else None) (tt {0}) (Ok (tt {0}))
answer-inserted true e = absurd cc
answer-inserted false e = refl

pub answer-memory : (b : Bool) → b ≡ false → Answers NoMemory (if b then Some RowPresent else None) (tt {0}) (Err NoMemory)
answer-memory true e = absurd cc
answer-memory false e = refl
