-- How the answer to `find` is put.
use Rattle.std.specs.Prelude.{◌≡◌, ◌⊎◌, ◌-◌, ◌==◌, ℕ, Bool, true, false, List, [], ◌∷◌, ◌++◌, codes, decimal, ◌+◌, Option, Some, None, ⊤}
use Rattle.cq_atom.specs.Value.{ValueContent}
use Rattle.cq_atom.specs.Query.{QueryRecord}
use Rattle.cq_text.specs.declared.fault.Kind.{Kind}
use Rattle.cq_text.specs.declared.form.Form.{Form}
use Rattle.cq_text.specs.Fault.{FirstQueryFault}
use Rattle.cq_text.specs.Grammar.{CommandContent, StandsForQuery}
use Rattle.cq_board.specs.declared.edit.Why.{Why}
use Rattle.cq_board.specs.Pool.{PoolRecord}
use Rattle.cq_board.specs.Edits.{body_why}
use Rattle.cq_devices.specs.declared.stop.Stop.TheVariants.{Write}
use Rattle.cq_ask.specs.Ask.{AskRecord, is_find}
use Rattle.cq_ask.specs.Find.{SearchRecord, fault_place, find_front, find_parts}
use Rattle.cq_report.specs.declared.numbering.Numbering.{Numbering}
use Rattle.cq_report.specs.declared.numbering.Numbering.TheVariants.{Plain, Numbered, Json}
use Rattle.cq_report.specs.declared.output.Output.{Output}
use Rattle.cq_report.specs.declared.refusal.Refusal.{Refusal}
use Rattle.cq_report.specs.declared.refusal.Refusal.TheVariants.{Text, Pool}
use Rattle.cq_report.specs.declared.said.Said.{Said}
use Rattle.cq_report.specs.declared.said.Said.TheVariants as saids
use Rattle.cq_report.specs.Find.{find_end, find_pieces, find_tail}
use Rattle.cq_report.specs.Machine.{memory_told, numbered}
use Rattle.cq_report.specs.Steps.Written.{Puts, Breaks}

-- ---- what a line asks for

-- The question of a line that asks for groundings, or what another line says.
abbrev pub IsFindOf : Option AskRecord → Said AskRecord CommandContent → Type 0
IsFindOf (Some ask) said = (said ≡ saids.Asks ask) × (is_find ask.kind ≡ true)
IsFindOf None (saids.Asks ask) = is_find ask.kind ≡ false
IsFindOf None said = ⊤

-- The text has a body, which fits the relations.
pub record IsSearch (form : Form) (pool : PoolRecord) (text : List ℕ) (search : SearchRecord) : Type 0 where
  pub stands : StandsForQuery form (find_front ++ (find_parts text).0) search.query
  pub most : search.most ≡ (find_parts text).1
  pub fits : body_why pool.tables.catalog 0 search.query.body ≡ None

-- The text has no body, and this is its first fault.
pub record HasFault (form : Form) (place : ℕ) (text : List ℕ) (refusal : Refusal) : Type 0 where
  pub kind : Kind
  pub offset : ℕ
  pub fault : FirstQueryFault form (find_front ++ (find_parts text).0) kind offset
  pub is : refusal ≡ Text kind (fault_place place offset)

-- The text has a body, which does not fit the relations.
pub record HasMisfit (form : Form) (pool : PoolRecord) (text : List ℕ) (refusal : Refusal) : Type 0 where
  pub query : QueryRecord
  pub stands : StandsForQuery form (find_front ++ (find_parts text).0) query
  pub why : Why
  pub misfits : body_why pool.tables.catalog 0 query.body ≡ Some why
  pub is : refusal ≡ Pool why

-- The line is refused for this.
abbrev pub IsNoSearch : Form → PoolRecord → ℕ → List ℕ → Refusal → Type 0
IsNoSearch form pool place text refusal = HasFault form place text refusal ⊎ HasMisfit form pool text refusal

-- ---- groundings

-- One fewer, if a number is wanted.
abbrev pub one_less : Option ℕ → Option ℕ
one_less None = None
one_less (Some n) = Some (n - 1)

-- No more are wanted.
abbrev pub is_enough : Option ℕ → Bool
is_enough None = false
is_enough (Some n) = n == 0

-- A grounding after these is the first.
abbrev pub is_first_after : List (List ValueContent) → Bool
is_first_after [] = true
is_first_after (values ∷ lists) = false

-- These are all; or, if not, some first ones.
abbrev pub AreShown : Bool → (lists shown : List (List ValueContent)) → Type 0
AreShown true lists shown = lists ≡ shown
AreShown false lists shown = (more : List (List ValueContent)) × (lists ≡ shown ++ more)

-- Groundings were put: all that are wanted, or some first ones, since an allocation failed.
pub record PutsFound {W A : Type 0} (taken : W → Option (List ℕ)) (failures : W → ℕ) (numbering : Numbering) (old new : Output W A) (lists : List (List ValueContent)) (is_whole : Bool) : Type 0 where
  pub shown : List (List ValueContent)
  pub are : AreShown is_whole lists shown
  pub puts : Puts taken failures old new (find_pieces numbering true shown)

-- ---- the answer

-- What ends the answer, after all groundings or after some.
abbrev pub end_after : Bool → Numbering → List ℕ
end_after true numbering = find_end numbering
end_after false numbering = memory_told numbering

-- The answer after this head.
abbrev pub found_after : Numbering → List ℕ → List (List ValueContent) → List ℕ → List ℕ
found_after numbering head lists end = head ++ (find_pieces numbering true lists ++ (find_tail numbering ++ end))

-- After this head all these groundings are told; or some first of them, and that an allocation failed.
abbrev pub IsFoundAfter : Numbering → List ℕ → List (List ValueContent) → List ℕ → Type 0
IsFoundAfter numbering head lists told =
    (told ≡ found_after numbering head lists (find_end numbering))
    ⊎ ((shown : List (List ValueContent)) × (more : List (List ValueContent)) × (lists ≡ shown ++ more) × (told ≡ found_after numbering head shown (memory_told numbering)))

-- What comes before an answer after that many other lines, and what after it.
abbrev pub answer_front : Numbering → ℕ → List ℕ
answer_front Plain before = []
answer_front Numbered before = decimal (before + 1) ++ codes ": "
answer_front Json before = codes "{\"line\":" ++ (decimal (before + 1) ++ [])

abbrev pub answer_end : Numbering → List ℕ
answer_end Plain = []
answer_end Numbered = []
answer_end Json = codes "}\n"

-- A reply like this was put after that many other lines.
pub record PutsReply {W A : Type 0} (taken : W → Option (List ℕ)) (failures : W → ℕ) (numbering : Numbering) (before : ℕ) (IsLike : List ℕ → Type 0) (old new : Output W A) : Type 0 where
  pub told : List ℕ
  pub is : IsLike told
  pub puts : Puts taken failures old new (numbered numbering before told)

-- A reply like this was to be put after that many other lines, and the writer failed.
pub record BreaksReply {W A : Type 0} (taken : W → Option (List ℕ)) (failures : W → ℕ) (numbering : Numbering) (before : ℕ) (IsLike : List ℕ → Type 0) (old new : Output W A) : Type 0 where
  pub told : List ℕ
  pub is : IsLike told
  pub breaks : Breaks taken failures old new (numbered numbering before told) Write
