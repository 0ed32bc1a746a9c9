-- Why lines are refused, how a refusal reads, and which lines of a script are refused. (this project's profile)
use Rattle.std.specs.Prelude.{ℕ, List, [], ◌+◌, ◌++◌, Option, Some, None, codes, decimal}
use Rattle.cq_atom.specs.declared.fault.Part.{Part}
use Rattle.cq_atom.specs.declared.fault.Part.TheVariants.{Posts, Heads, Body}
use Rattle.cq_rel.specs.declared.fault.CatalogFault.{CatalogFault}
use Rattle.cq_rel.specs.declared.fault.CatalogFault.TheVariants as catalogs
use Rattle.cq_text.specs.declared.fault.Kind.{Kind}
use Rattle.cq_text.specs.declared.fault.Kind.TheVariants as kinds
use Rattle.cq_board.specs.declared.edit.Why.{Why}
use Rattle.cq_board.specs.declared.edit.Why.TheVariants as whys
use Rattle.cq_report.specs.declared.refusal.Place.{Place}
use Rattle.cq_report.specs.declared.refusal.Place.TheVariants.{Byte, Atom}
use Rattle.cq_report.specs.declared.refusal.Refusal.{Refusal}
use Rattle.cq_report.specs.declared.refusal.Refusal.TheVariants.{Text, Late, Catalog, InUse, TooManyPending, Pool, JournalFull, Unpublished, Memory}
use Rattle.cq_report.specs.declared.tally.Refused.{Refused}
use Rattle.cq_report.specs.declared.tally.Tally.{Tally}

-- ---- by its parts

-- What a refusal is printed by: its word, the part of a query, and a place, if it has them.
pub record Parts : Type 0 where
  pub word : List ℕ
  pub part : Option (List ℕ)
  pub place : Option Place

-- A word, and nothing else.
abbrev pub just : List ℕ → Parts
just word = record { word = word; part = None; place = None }

-- A word, and the number of an atom.
abbrev pub at_atom : List ℕ → ℕ → Parts
at_atom word place = record { word = word; part = None; place = Some (Atom place) }

-- The kind of a fault of text, by its name.
abbrev pub kind_word : Kind → List ℕ
kind_word kinds.Token = codes "Token"
kind_word kinds.Text = codes "Text"
kind_word kinds.Number = codes "Number"
kind_word kinds.Shape = codes "Shape"
kind_word kinds.Limit = codes "Limit"
kind_word kinds.Unbound = codes "Unbound"

-- Why a relation is not declared. Out of memory is the reply to no line of a setup.
abbrev pub catalog_word : CatalogFault → List ℕ
catalog_word catalogs.BadName = codes "BadName"
catalog_word catalogs.BadArity = codes "BadArity"
catalog_word catalogs.Declared = codes "Declared"
catalog_word catalogs.CatalogFull = codes "CatalogFull"
catalog_word catalogs.NoMemory = codes "Memory"

-- A part of a query, by its name.
abbrev pub part_word : Part → List ℕ
part_word Posts = codes "posts"
part_word Heads = codes "heads"
part_word Body = codes "body"

-- Why the pool refuses an edit; an atom is named by its place.
abbrev pub why_parts : Why → Parts
why_parts whys.PoolFull = just (codes "PoolFull")
why_parts whys.NameTaken = just (codes "NameTaken")
why_parts (whys.NotAnswer part place) = record { word = codes "NotAnswer"; part = Some (part_word part); place = Some (Atom place) }
why_parts (whys.UnknownRelation place) = at_atom (codes "UnknownRelation") place
why_parts (whys.Arity place) = at_atom (codes "Arity") place
why_parts whys.NoSuchName = just (codes "NoSuchName")
why_parts whys.RowPresent = just (codes "RowPresent")
why_parts whys.RowAbsent = just (codes "RowAbsent")

-- Why a line is refused: a fault of text, with its byte; a line of a setup after it; a relation that is not declared, or that a pending query uses; limits
-- below the pool; an edit that the pool refuses; a full journal; a checkpoint over entries that are not published; or an allocation that failed.
abbrev pub refusal_parts : Refusal → Parts
refusal_parts (Text kind offset) = record { word = kind_word kind; part = None; place = Some (Byte offset) }
refusal_parts Late = just (codes "Late")
refusal_parts (Catalog fault) = just (catalog_word fault)
refusal_parts InUse = just (codes "InUse")
refusal_parts TooManyPending = just (codes "TooManyPending")
refusal_parts (Pool why) = why_parts why
refusal_parts JournalFull = just (codes "JournalFull")
refusal_parts Unpublished = just (codes "Unpublished")
refusal_parts Memory = just (codes "Memory")

-- ---- in words

-- A part of a query, if there is one.
abbrev pub part_words : Option (List ℕ) → List ℕ
part_words None = []
part_words (Some part) = codes " " ++ part

-- The byte of a line, or the number of an atom, if there is one.
abbrev pub place_words : Option Place → List ℕ
place_words None = []
place_words (Some (Byte offset)) = codes " at " ++ decimal offset
place_words (Some (Atom place)) = codes " " ++ decimal place

-- The parts in words, as in `Shape at 13` or `NotAnswer heads 0`.
abbrev pub words_of_parts : Parts → List ℕ
words_of_parts parts = parts.word ++ (part_words parts.part ++ place_words parts.place)

-- A refusal in words.
abbrev pub refusal_words : Refusal → List ℕ
refusal_words refusal = words_of_parts (refusal_parts refusal)

-- ---- as members of a JSON object that has others before them

-- A part of a query, if there is one.
abbrev pub part_member : Option (List ℕ) → List ℕ
part_member None = []
part_member (Some part) = codes ",\"part\":\"" ++ (part ++ codes "\"")

-- The byte of a line, or the number of an atom, if there is one.
abbrev pub place_member : Option Place → List ℕ
place_member None = []
place_member (Some (Byte offset)) = codes ",\"at\":" ++ decimal offset
place_member (Some (Atom place)) = codes ",\"place\":" ++ decimal place

-- The parts as members, as in `,"refused":"Shape","at":13`.
abbrev pub members_of_parts : Parts → List ℕ
members_of_parts parts = codes ",\"refused\":\"" ++ (parts.word ++ (codes "\"" ++ (part_member parts.part ++ place_member parts.place)))

-- A refusal as members.
abbrev pub refusal_members : Refusal → List ℕ
refusal_members refusal = members_of_parts (refusal_parts refusal)

-- ---- of a script

-- Nothing was refused yet.
abbrev pub no_refusal : Tally
no_refusal = record { refused = 0; first = None }

-- The first refused line, if another one may have been refused before.
abbrev pub first_refused : Option Refused → Refused → Refused
first_refused None refused = refused
first_refused (Some first) refused = first

-- The refused lines, with one line more, by its number, which may be refused.
abbrev pub tallied : Tally → ℕ → Option Refusal → Tally
tallied tally line None = tally
tallied tally line (Some why) = record { refused = tally.refused + 1; first = Some (first_refused tally.first (record { line = line; why = why })) }
