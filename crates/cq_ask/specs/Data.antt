-- What is answered to lines that ask, as JSON. (this project's profile)
use Rattle.std.specs.Prelude.{◌≡◌, ℕ, Bool, true, false, map, List, [], ◌∷◌, ◌++◌, codes, Option, Some, None}
use Rattle.std.specs.List.{flat_map}
use Rattle.json.specs.Json.{Json, boolean, string}
use Rattle.json.specs.Tree.{json_tokens}
use Rattle.json.specs.Print.{print}
use Rattle.cq_board.specs.Pool.{PoolRecord, name_of}
use Rattle.cq_board.specs.Named.{matched_named}
use Rattle.cq_render.specs.Graph.{graph}
use Rattle.cq_render.specs.Json.{array_of, object_of, json_of}
use Rattle.cq_render.specs.Dump.{dump}
use Rattle.cq_text.specs.declared.form.Form.{Form}
use Rattle.cq_render.specs.Data.{IsArray, IsNearOf, AreReasonsJson, total, standing_members, standing_json, named_json}
use Rattle.cq_going.specs.Data.{IsSoughtJson, AreGroupsJson}
use Rattle.cq_ask.specs.declared.ask.AskKind.{AskKind}
use Rattle.cq_ask.specs.declared.ask.AskKind.TheVariants.{Count, Status, Query, Explain, Near, Choice, Choose, Groups, Changes, Graph, Json as AsJson, Dump, Find, Checkpoint, Help, Quit, Unfit}
use Rattle.cq_ask.specs.declared.counts.Counts.{Counts}
use Rattle.cq_ask.specs.Ask.{AskRecord}
use Rattle.cq_desk.specs.Machine.{published_count}
use Rattle.cq_ask.specs.Answer.{FloorRecord, published_pool, counts_of, help_text, IsVerdict}
use Rattle.cq_ask.specs.Choices.{choice_words}

-- The counts as an object.
abbrev pub count_json : Counts → Json
count_json counts = object_of (
    (codes "queries", total counts.queries)
    ∷ (codes "matched", total counts.matched)
    ∷ (codes "waiting", total counts.waiting)
    ∷ (codes "rows", total counts.rows)
    ∷ (codes "entries", total counts.entries)
    ∷ (codes "unpublished", total counts.unpublished)
    ∷ (codes "since", total counts.since)
    ∷ (codes "relations", total counts.relations)
    ∷ (codes "pool_limit", total counts.pool)
    ∷ (codes "journal_limit", total counts.journal)
    ∷ [])

-- ---- changes

-- A name, what became of it, and how that came.
abbrev pub change_json : PoolRecord → List ℕ → List ℕ → Json
change_json now name word = object_of (standing_members now name ++ (codes "change", string word) ∷ [])

-- A query went, if none is pending under its name.
abbrev pub went_json : PoolRecord → List ℕ → Option Bool → List Json
went_json now name None = change_json now name (codes "went") ∷ []
went_json now name (Some matched) = []

-- How a query that is pending changed, by whether it was pending and matched before, and whether it is matched.
abbrev pub change_word : Option Bool → Option Bool → Option (List ℕ)
change_word None (Some matched) = Some (codes "came")
change_word (Some true) (Some false) = Some (codes "turned")
change_word (Some false) (Some true) = Some (codes "turned")
change_word before now = None

-- A change of a query, where there is one.
abbrev pub changed_json : PoolRecord → List ℕ → Option (List ℕ) → List Json
changed_json now name None = []
changed_json now name (Some word) = change_json now name word ∷ []

-- The queries of the pool before that went, and then those that came or turned, each in posting order.
abbrev pub changes_json : PoolRecord → PoolRecord → Json
changes_json before now = array_of (
    flat_map (λ name. went_json now name (matched_named name now)) (map name_of before.pending)
    ++ flat_map (λ name. changed_json now name (change_word (matched_named name before) (matched_named name now))) (map name_of now.pending))

-- ---- what is told

-- The verdict on choices: whether they coordinate; or the words do not fit.
abbrev pub verdict_json : Option Bool → List ℕ × Json
verdict_json (Some coordinates) = (codes "coordinating", boolean coordinates)
verdict_json None = (codes "refused", string (codes "Words"))

-- The member, a name and a value, tells what is asked of the floor and its pool, in a script of this form. A checkpoint and groundings are told elsewhere.
abbrev pub IsMemberOf : Form → FloorRecord → PoolRecord → AskKind → List (List ℕ) → List ℕ → List ℕ × Json → Type 0
IsMemberOf form floor pool Count names choices told = told ≡ (codes "count", count_json (counts_of floor))
IsMemberOf form floor pool Status names choices told = told ≡ (codes "status", array_of (map (standing_json pool) names))
IsMemberOf form floor pool Query names choices told = told ≡ (codes "query", array_of (map (named_json pool) names))
IsMemberOf form floor pool Explain names choices told = (reasons : Json) × AreReasonsJson pool names reasons × (told ≡ (codes "explain", reasons))
IsMemberOf form floor pool (Near post) names choices told = (near : Json) × IsArray (IsNearOf pool post) names near × (told ≡ (codes "near", near))
IsMemberOf form floor pool Choice names choices told = (verdict : Option Bool) × IsVerdict pool (choice_words choices) verdict × (told ≡ verdict_json verdict)
IsMemberOf form floor pool Choose names choices told = (sought : Json) × IsSoughtJson pool names sought × (told ≡ (codes "choose", sought))
IsMemberOf form floor pool Groups names choices told = (groups : Json) × AreGroupsJson pool groups × (told ≡ (codes "groups", groups))
IsMemberOf form floor pool Changes names choices told = told ≡ (codes "changes", changes_json floor.earlier pool)
IsMemberOf form floor pool Graph names choices told = told ≡ (codes "graph", string (graph pool))
IsMemberOf form floor pool AsJson names choices told = told ≡ (codes "board", json_of (published_count floor) pool)
IsMemberOf form floor pool Dump names choices told = told ≡ (codes "dump", string (dump form floor.limit pool))
IsMemberOf form floor pool (Find place) names choices told = told ≡ (codes "find", boolean true)
IsMemberOf form floor pool Checkpoint names choices told = told ≡ (codes "checkpoint", boolean true)
IsMemberOf form floor pool Help names choices told = told ≡ (codes "help", string help_text)
IsMemberOf form floor pool Quit names choices told = told ≡ (codes "quit", boolean true)
IsMemberOf form floor pool Unfit names choices told = told ≡ verdict_json None

-- A member of an object that has others before it.
abbrev pub member_text : List ℕ × Json → List ℕ
member_text member = codes ",\"" ++ member.0 ++ codes "\":" ++ print (json_tokens member.1)

-- The text is a member that is so.
abbrev pub IsToldAs : (List ℕ × Json → Type 0) → List ℕ → Type 0
IsToldAs is_so text = (told : List ℕ × Json) × is_so told × (text ≡ member_text told)

-- The text is a member that tells what is asked, of the pool that the floor publishes, in a script of this form.
abbrev pub IsMember : Form → FloorRecord → AskRecord → List ℕ → Type 0
IsMember form floor ask text = IsToldAs (IsMemberOf form floor (published_pool floor) ask.kind ask.names ask.text) text
