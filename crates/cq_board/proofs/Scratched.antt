-- Edits of a pool one after another, up to the first that is refused.
use Rattle.std.proofs.Common.{◌≡◌, ℕ, ◌+◌, ◌<◌, ◌≤◌, List, [], ◌∷◌, ◌++◌, length, map, drop, get_or, sym, ap, ◌∙◌, Option, Some, None, Result, Ok, Err}
use Rattle.std.proofs.lemmas.List.{drop_all}
use Rattle.cq_board.specs.declared.edit.Why.{Why}
use Rattle.cq_board.specs.Pool.{PoolRecord}
use Rattle.cq_atom.specs.Edit.{Edit}
use Rattle.cq_board.specs.Edits.{why, edited}
use Rattle.cq_board.specs.declared.scratch.ScratchFault.{ScratchFault}
use Rattle.cq_board.specs.declared.scratch.ScratchFault.TheVariants.{Refused, NoMemory}
use Rattle.cq_board.specs.Scratch.{or_refused, scratch_of, Makes}
use Rattle.cq_board.specs.Steps.Scratch.{Continues}
use Rattle.cq_board.proofs.Places.{drop-at}

-- after an edit that is done the others follow
then_others : (o : Option Why) (made now : PoolRecord) (more : List Edit) → or_refused o (Ok made) ≡ Ok now → or_refused o (scratch_of made more) ≡ scratch_of now more
then_others None made now more e = let same : made ≡ now = cc in ap (λ p. scratch_of p more) same
then_others (Some reason) made now more e = cc

pub scratch_of-done : (pool now : PoolRecord) (edit : Edit) (more : List Edit) → scratch_of pool (edit ∷ []) ≡ Ok now → scratch_of pool (edit ∷ more) ≡ scratch_of now more
scratch_of-done pool now edit more e = then_others (why pool edit) (edited pool edit) now more e

-- after one that is refused they do not
then_none : (o : Option Why) (reason : Why) (made : PoolRecord) (others : Result PoolRecord Why) → or_refused o (Ok made) ≡ Err reason → or_refused o others ≡ Err reason
then_none None reason made others e = cc
then_none (Some other) reason made others e = e

pub scratch_of-refused : (pool : PoolRecord) (edit : Edit) (more : List Edit) (reason : Why) → scratch_of pool (edit ∷ []) ≡ Err reason → scratch_of pool (edit ∷ more) ≡ Err reason
scratch_of-refused pool edit more reason e = then_none (why pool edit) reason (edited pool edit) (scratch_of (edited pool edit) more) e

-- two lists of edits, one after the other
append_with : (o : Option Why) (now : PoolRecord) (first both others : Result PoolRecord Why) → or_refused o first ≡ Ok now → (first ≡ Ok now → both ≡ others) → or_refused o both ≡ others
append_with None now first both others e f = f e
append_with (Some reason) now first both others e f = cc

pub scratch_of-append : (edits more : List Edit) (pool now : PoolRecord) → scratch_of pool edits ≡ Ok now → scratch_of pool (edits ++ more) ≡ scratch_of now more
scratch_of-append [] more pool now e = let same : pool ≡ now = cc in ap (λ p. scratch_of p more) same
scratch_of-append (edit ∷ edits) more pool now e =
    append_with (why pool edit) now (scratch_of (edited pool edit) edits) (scratch_of (edited pool edit) (edits ++ more)) (scratch_of now more) e (scratch_of-append edits more (edited pool edit) now)

refused_in : (o : Option Why) (reason : Why) (first both : Result PoolRecord Why) → or_refused o first ≡ Err reason → (first ≡ Err reason → both ≡ Err reason) → or_refused o both ≡ Err reason
refused_in None reason first both e f = f e
refused_in (Some other) reason first both e f = e

pub scratch_of-append_refused : (edits more : List Edit) (pool : PoolRecord) (reason : Why) → scratch_of pool edits ≡ Err reason → scratch_of pool (edits ++ more) ≡ Err reason
scratch_of-append_refused [] more pool reason e = cc
scratch_of-append_refused (edit ∷ edits) more pool reason e =
    refused_in (why pool edit) reason (scratch_of (edited pool edit) edits) (scratch_of (edited pool edit) (edits ++ more)) e (scratch_of-append_refused edits more (edited pool edit) reason)

-- ---- where a call ends

pub continues_refused : (made whole : Result PoolRecord Why) (now later : PoolRecord) (fault : ScratchFault) (r : Result (Unit {0}) ScratchFault) → r ≡ Err fault → Continues made now (Err fault)
    → ((reason : Why) → made ≡ Err reason → whole ≡ Err reason) → Continues whole later r
continues_refused made whole now later (Refused reason) r e h f = rw e (f reason h)
continues_refused made whole now later NoMemory r e h f = rw e tt

pub makes_refused : (made whole : Result PoolRecord Why) (now : PoolRecord) (fault : ScratchFault) (r : Result PoolRecord ScratchFault) → r ≡ Err fault → Continues made now (Err fault)
    → ((reason : Why) → made ≡ Err reason → whole ≡ Err reason) → Makes whole r
makes_refused made whole now (Refused reason) r e h f = rw e (f reason h)
makes_refused made whole now NoMemory r e h f = rw e tt

module _ {X : Type 0} (edit_of : X → Edit) (xs : List X) (i : ℕ) (pool : PoolRecord) (whole : Result PoolRecord Why) (so_far : scratch_of pool (map edit_of (drop i xs)) ≡ whole) where
  module _ (x : X) (within : i < length xs) (is : x ≡ get_or xs i x) (edit : Edit) (same : edit ≡ edit_of x) where
    ahead : map edit_of (drop i xs) ≡ edit ∷ map edit_of (drop (i + 1) xs)
    ahead = ap (map edit_of) (drop-at xs i x within is) ∙ ap (λ e. e ∷ map edit_of (drop (i + 1) xs)) (sym same)

    pub step_refused : (reason : Why) → scratch_of pool (edit ∷ []) ≡ Err reason → whole ≡ Err reason
    step_refused reason e = sym so_far ∙ ap (scratch_of pool) ahead ∙ scratch_of-refused pool edit (map edit_of (drop (i + 1) xs)) reason e

    pub step_done : (now : PoolRecord) → scratch_of pool (edit ∷ []) ≡ Ok now → scratch_of now (map edit_of (drop (i + 1) xs)) ≡ whole
    step_done now e = sym (scratch_of-done pool now edit (map edit_of (drop (i + 1) xs)) e) ∙ ap (scratch_of pool) (sym ahead) ∙ so_far

  pub all_done : length xs ≤ i → whole ≡ Ok pool
  all_done h = sym so_far ∙ ap (λ ys. scratch_of pool (map edit_of ys)) (drop_all i xs h)
