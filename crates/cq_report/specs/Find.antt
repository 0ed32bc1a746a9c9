-- What is written for `find`: groundings one by one. (this project's profile)
use Rattle.std.specs.Prelude.{◌≡◌, ◌⊎◌, ℕ, Bool, true, false, List, [], ◌∷◌, ◌++◌, codes, Option, Some, None}
use Rattle.cq_atom.specs.Value.{ValueContent}
use Rattle.cq_atom.specs.Query.{QueryRecord}
use Rattle.cq_text.specs.declared.fault.Kind.{Kind}
use Rattle.cq_text.specs.declared.form.Form.{Form}
use Rattle.cq_text.specs.Fault.{FirstQueryFault}
use Rattle.cq_text.specs.Grammar.{StandsForQuery}
use Rattle.cq_ground.specs.Grounding.{groundings_of}
use Rattle.cq_board.specs.declared.edit.Why.{Why}
use Rattle.cq_board.specs.Pool.{PoolRecord}
use Rattle.cq_board.specs.Edits.{body_why}
use Rattle.cq_ask.specs.declared.ask.AskKind.{AskKind}
use Rattle.cq_ask.specs.declared.ask.AskKind.TheVariants.{Find}
use Rattle.cq_ask.specs.Answer.{end_line}
use Rattle.cq_ask.specs.Find.{fault_place, find_front, find_parts, found_line, found_text, variables_text, wanted}
use Rattle.cq_report.specs.declared.numbering.Numbering.{Numbering}
use Rattle.cq_report.specs.declared.numbering.Numbering.TheVariants.{Plain, Numbered, Json}
use Rattle.cq_report.specs.declared.outcome.Outcome.TheVariants.{Refused}
use Rattle.cq_report.specs.declared.refusal.Refusal.TheVariants.{Text, Pool}
use Rattle.cq_report.specs.Machine.{memory_told, spoken}

-- What comes before the groundings: in JSON the variables.
abbrev pub find_head : Numbering → QueryRecord → List ℕ
find_head Plain query = []
find_head Numbered query = []
find_head Json query = variables_text query

-- A grounding, which may be the first: in a line, or in JSON behind a comma unless it is the first.
abbrev pub find_piece : Numbering → Bool → List ValueContent → List ℕ
find_piece Plain first values = found_line values
find_piece Numbered first values = found_line values
find_piece Json true values = found_text values
find_piece Json false values = codes "," ++ found_text values

-- Groundings, one after another.
abbrev pub find_pieces : Numbering → Bool → List (List ValueContent) → List ℕ
find_pieces numbering first [] = []
find_pieces numbering first (values ∷ lists) = find_piece numbering first values ++ find_pieces numbering false lists

-- What comes after the groundings.
abbrev pub find_tail : Numbering → List ℕ
find_tail Plain = []
find_tail Numbered = []
find_tail Json = codes "]}"

-- What ends the answer if all groundings are in it.
abbrev pub find_end : Numbering → List ℕ
find_end Plain = end_line
find_end Numbered = end_line
find_end Json = []

-- The answer with these groundings and this end.
abbrev pub found : Numbering → QueryRecord → List (List ValueContent) → List ℕ → List ℕ
found numbering query lists end = find_head numbering query ++ (find_pieces numbering true lists ++ (find_tail numbering ++ end))

-- All these groundings are told; or some first of them, and that an allocation failed.
abbrev pub IsFound : Numbering → QueryRecord → List (List ValueContent) → List ℕ → Type 0
IsFound numbering query lists told =
    (told ≡ found numbering query lists (find_end numbering))
    ⊎ ((shown : List (List ValueContent)) × (more : List (List ValueContent)) × (lists ≡ shown ++ more) × (told ≡ found numbering query shown (memory_told numbering)))

-- The groundings are told unless the body does not fit the relations.
abbrev pub IsFoundUnless : Option Why → Numbering → QueryRecord → List (List ValueContent) → List ℕ → Type 0
IsFoundUnless (Some why) numbering query lists told = told ≡ spoken numbering (Refused (Pool why)) []
IsFoundUnless None numbering query lists told = IsFound numbering query lists told

-- The text has no body, and its first fault is told.
pub record IsFaulty (form : Form) (place : ℕ) (numbering : Numbering) (text told : List ℕ) : Type 0 where
  pub kind : Kind
  pub offset : ℕ
  pub fault : FirstQueryFault form (find_front ++ (find_parts text).0) kind offset
  pub is : told ≡ spoken numbering (Refused (Text kind (fault_place place offset))) []

-- The text has a body, and of its groundings in the pool those are told that are wanted.
pub record IsSought (form : Form) (numbering : Numbering) (pool : PoolRecord) (text told : List ℕ) : Type 0 where
  pub query : QueryRecord
  pub stands : StandsForQuery form (find_front ++ (find_parts text).0) query
  pub is : IsFoundUnless (body_why pool.tables.catalog 0 query.body) numbering query (wanted (find_parts text).1 (groundings_of query.body pool.tables.rows)) told

-- What is told to `find` with this text, which begins at that place of the line.
abbrev pub IsFindTold : Form → ℕ → Numbering → PoolRecord → List ℕ → List ℕ → Type 0
IsFindTold form place numbering pool text told = IsFaulty form place numbering text told ⊎ IsSought form numbering pool text told

-- The place of the line at which the body of a question begins.
abbrev pub place_of : AskKind → ℕ
place_of (Find place) = place
place_of _ = 0
