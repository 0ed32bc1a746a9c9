-- What is answered to lines that ask. (this project's profile)
use Rattle.std.specs.Prelude.{◌≡◌, ◌<◌, ◌⊎◌, ℕ, ◌+◌, ◌-◌, Bool, true, false, map, List, [], ◌++◌, length, fold, codes, decimal, Option, Some, None}
use Rattle.std.specs.List.{flat_map}
use Rattle.json.specs.Tree.{json_tokens}
use Rattle.json.specs.Print.{print}
use Rattle.cq_atom.specs.Edit.{Edit}
use Rattle.cq_rel.specs.Tables.{TablesRecord, rows_in}
use Rattle.cq_board.specs.Pool.{PoolRecord, name_of}
use Rattle.cq_board.specs.Edits.{pool_after}
use Rattle.cq_board.specs.Named.{matched_named, matched_names}
use Rattle.cq_desk.specs.Machine.{MachineRecord, published_content, published_count}
use Rattle.cq_render.specs.Report.{line, block_of}
use Rattle.cq_render.specs.Data.{standing_word}
use Rattle.cq_render.specs.declared.extent.Extent.TheVariants.{All}
use Rattle.cq_render.specs.Explain.{ArePieces, IsExplained, IsNearTold}
use Rattle.cq_render.specs.Graph.{graph}
use Rattle.cq_render.specs.Json.{json_of}
use Rattle.cq_render.specs.Dump.{dump}
use Rattle.cq_text.specs.declared.form.Form.{Form}
use Rattle.cq_going.specs.declared.telling.Outcome.{Outcome}
use Rattle.cq_going.specs.Going.{IsSoughtTold}
use Rattle.cq_going.specs.Grouping.{AreGroupsTold}
use Rattle.cq_ask.specs.declared.ask.AskKind.{AskKind}
use Rattle.cq_ask.specs.declared.ask.AskKind.TheVariants.{Count, Status, Query, Explain, Near, Choice, Choose, Groups, Changes, Graph, Json, Dump, Find, Checkpoint, Help, Quit, Unfit}
use Rattle.cq_ask.specs.declared.counts.Counts.{Counts}
use Rattle.cq_ask.specs.declared.counts.CountPart.{CountPart}
use Rattle.cq_ask.specs.Ask.{AskRecord}
use Rattle.cq_ask.specs.Choices.{AreCoordinating, AreNotCoordinating, StandForNone, choice_words}

-- A floor over a pool.
abbrev pub FloorRecord : Type 0
FloorRecord = MachineRecord PoolRecord Edit

-- The pool that is published: of it all answers are.
abbrev pub published_pool : FloorRecord → PoolRecord
published_pool floor = published_content pool_after floor

-- The last line of an answer of several lines.
abbrev pub end_line : List ℕ
end_line = line (codes "end")

-- ---- counts

-- How many rows all relations have.
abbrev pub row_count : TablesRecord → ℕ
row_count tables = fold (λ count declared. count + length (rows_in declared.relation tables)) 0 tables.catalog

-- The queries, those that are matched, the others, and the rows of the published pool; the entries that are published, those that are not yet, and those
-- since the last checkpoint; the relations; and the limits of the pool and of the journal.
abbrev pub counts_of : FloorRecord → Counts
counts_of floor =
    let pool = published_pool floor in
    record {
      queries = length pool.pending;
      matched = length (matched_names pool);
      waiting = length pool.pending - length (matched_names pool);
      rows = row_count pool.tables;
      entries = published_count floor;
      unpublished = length floor.journal - floor.published;
      since = length floor.journal;
      relations = length pool.tables.catalog;
      pool = pool.limits.pool;
      journal = floor.limit;
    }

-- The counts in a line.
abbrev pub count_line : Counts → List ℕ
count_line counts =
    line (codes "queries " ++ decimal counts.queries ++ codes " matched " ++ decimal counts.matched ++ codes " waiting " ++ decimal counts.waiting
    ++ codes " rows " ++ decimal counts.rows ++ codes " entries " ++ decimal counts.entries ++ codes " unpublished " ++ decimal counts.unpublished
    ++ codes " since " ++ decimal counts.since ++ codes " relations " ++ decimal counts.relations ++ codes " limits " ++ decimal counts.pool ++ codes " " ++ decimal counts.journal)

-- A number in decimal digits between two equal marks, if there is one.
abbrev pub number_bytes : List ℕ → Option ℕ → List ℕ
number_bytes mark None = []
number_bytes mark (Some number) = mark ++ decimal number ++ mark

-- A piece of the answer: its words, and its number if it has one.
abbrev pub part_bytes : CountPart → List ℕ
part_bytes part = part.words.now ++ number_bytes part.mark.now part.number

-- ---- names

-- How a query of that name stands, in a line: matched, waiting or absent.
abbrev pub status_line : PoolRecord → List ℕ → List ℕ
status_line pool name = line (name ++ codes " " ++ standing_word (matched_named name pool))

-- Where no query is pending under the name, a line that says so.
abbrev pub absent_line : List ℕ → Option Bool → List ℕ
absent_line name None = line (name ++ codes " is absent")
absent_line name (Some matched) = []

-- Those of the names under which no query is pending.
abbrev pub absent_lines : PoolRecord → List (List ℕ) → List ℕ
absent_lines pool names = flat_map (λ name. absent_line name (matched_named name pool)) names

-- ---- changes

-- A query went, if none is pending under its name.
abbrev pub went_line : List ℕ → Option Bool → List ℕ
went_line name None = line (name ++ codes " went")
went_line name (Some matched) = []

-- What became of a query that is pending, by whether it was pending and matched before, and whether it is matched.
abbrev pub change_words : Option Bool → Option Bool → Option (List ℕ)
change_words None (Some true) = Some (codes "came matched")
change_words None (Some false) = Some (codes "came waiting")
change_words (Some true) (Some false) = Some (codes "turned waiting")
change_words (Some false) (Some true) = Some (codes "turned matched")
change_words before now = None

-- A change of a query in a line, where there is one.
abbrev pub change_line : List ℕ → Option (List ℕ) → List ℕ
change_line name None = []
change_line name (Some words) = line (name ++ codes " " ++ words)

-- The queries of the pool before that went, and then those that came or turned, each in posting order.
abbrev pub changes : PoolRecord → PoolRecord → List ℕ
changes before now =
    flat_map (λ name. went_line name (matched_named name now)) (map name_of before.pending)
    ++ flat_map (λ name. change_line name (change_words (matched_named name before) (matched_named name now))) (map name_of now.pending)

-- ---- what is told

-- Which lines ask.
abbrev pub help_text : List ℕ
help_text =
    codes
    "count                queries, rows and entries\nstatus NAME..        whether queries are matched, waiting or absent\nquery NAME           its block of the report\nexplain [NAME..]     why queries wait\nnear NAME POST       which heads nearly supply a postcondition\nchoice CHOICE..      whether a choice coordinates, as in choice a(1) b(1)\nchoose [NAME..]      a coordinating choice that has the queries\ngroups               groups of queries, and whether each can go\nchanges              queries that came, went or turned at the last publish\ngraph                who can supply whom, for Graphviz\njson                 the board as JSON\ndump                 a script that makes the board\nfind BODY [first N]  groundings of a body, as in find F(x, Paris) first 3\ncheckpoint           begins a new journal over what is published\nhelp                 these lines\nquit                 ends; no later line is answered\nAll other lines are those of a script.\n"

-- Why queries wait: those of these names, and which of the names are absent; where there is no name, all that wait.
pub record IsWhyTold (pool : PoolRecord) (names : List (List ℕ)) (text : List ℕ) : Type 0 where
  pub why : List ℕ
  pub told : IsExplained All pool names why
  pub is : text ≡ why ++ absent_lines pool names

-- The heads that are nearest to that postcondition of the queries of these names; and which of the names are absent.
pub record IsNearAnswer (pool : PoolRecord) (post : ℕ) (names : List (List ℕ)) (text : List ℕ) : Type 0 where
  pub near : List ℕ
  pub told : ArePieces (λ name. IsNearTold pool.pending name post) names near
  pub is : text ≡ near ++ absent_lines pool names

-- The words do not fit.
abbrev pub unfit_line : List ℕ
unfit_line = line (codes "refused Words")

-- Whether the words, of which there are some, stand for choices that coordinate. Words that stand for none do not fit, nor does it fit that there are no words.
abbrev pub IsVerdict : PoolRecord → List (List ℕ) → Option Bool → Type 0
IsVerdict pool words (Some true) = (0 < length words) × AreCoordinating pool words
IsVerdict pool words (Some false) = (0 < length words) × AreNotCoordinating pool words
IsVerdict pool words None = (words ≡ []) ⊎ StandForNone words

-- The verdict in words.
abbrev pub verdict_line : Option Bool → List ℕ
verdict_line (Some true) = line (codes "coordinating")
verdict_line (Some false) = line (codes "not coordinating")
verdict_line None = unfit_line

-- The verdict on choices, in a line.
abbrev pub IsChoiceTold : PoolRecord → List (List ℕ) → List ℕ → Type 0
IsChoiceTold pool words text = (verdict : Option Bool) × IsVerdict pool words verdict × (text ≡ verdict_line verdict)

-- What is told of a coordinating choice that has these queries.
pub record IsSoughtAnswer (pool : PoolRecord) (names : List (List ℕ)) (text : List ℕ) : Type 0 where
  pub outcome : Outcome
  pub sought : IsSoughtTold pool names outcome text

-- The text tells what is asked of the floor and its pool, in a script of this form. Nothing is told here of a checkpoint, which changes the floor, and of groundings,
-- which are told one by one (`Find`).
abbrev pub IsToldOf : Form → FloorRecord → PoolRecord → AskKind → List (List ℕ) → List ℕ → List ℕ → Type 0
IsToldOf form floor pool Count names choices text = text ≡ count_line (counts_of floor)
IsToldOf form floor pool Status names choices text = text ≡ flat_map (status_line pool) names
IsToldOf form floor pool Query names choices text = text ≡ flat_map (block_of pool) names ++ absent_lines pool names
IsToldOf form floor pool Explain names choices text = IsWhyTold pool names text
IsToldOf form floor pool (Near post) names choices text = IsNearAnswer pool post names text
IsToldOf form floor pool Choice names choices text = IsChoiceTold pool (choice_words choices) text
IsToldOf form floor pool Choose names choices text = IsSoughtAnswer pool names text
IsToldOf form floor pool Groups names choices text = AreGroupsTold pool text
IsToldOf form floor pool Changes names choices text = text ≡ changes floor.earlier pool
IsToldOf form floor pool Graph names choices text = text ≡ graph pool
IsToldOf form floor pool Json names choices text = text ≡ print (json_tokens (json_of (published_count floor) pool))
IsToldOf form floor pool Dump names choices text = text ≡ dump form floor.limit pool
IsToldOf form floor pool (Find place) names choices text = text ≡ []
IsToldOf form floor pool Checkpoint names choices text = text ≡ []
IsToldOf form floor pool Help names choices text = text ≡ help_text
IsToldOf form floor pool Quit names choices text = text ≡ []
IsToldOf form floor pool Unfit names choices text = text ≡ unfit_line

-- The text tells what is asked of the floor, of the pool that it publishes, in a script of this form.
abbrev pub IsTold : Form → FloorRecord → AskRecord → List ℕ → Type 0
IsTold form floor ask text = IsToldOf form floor (published_pool floor) ask.kind ask.names ask.text text

-- What ends an answer in lines: the line `end` where it may have several, and the end of the line of a board as JSON.
abbrev pub ending : AskKind → List ℕ
ending Count = []
ending Choice = []
ending Json = codes "\n"
ending Checkpoint = []
ending (Find place) = []
ending Quit = []
ending Unfit = []
ending _ = end_line
