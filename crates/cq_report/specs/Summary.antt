-- What is told of a script beside its replies: how many lines were refused, and how many edits are not published. (this project's profile)
use Rattle.std.specs.Prelude.{ℕ, List, [], ◌++◌, ◌-◌, ◌==◌, Option, Some, None, Bool, true, false, if◌then◌else◌, length, codes, decimal}
use Rattle.cq_board.specs.Named.{matched_names}
use Rattle.cq_board.specs.Pool.{PoolRecord}
use Rattle.cq_report.specs.declared.tally.Refused.{Refused}
use Rattle.cq_report.specs.declared.tally.Tally.{Tally}
use Rattle.cq_report.specs.Machine.{ServingRecord, shown}
use Rattle.cq_report.specs.Output.{Left}
use Rattle.cq_report.specs.Refusals.{refusal_words}

-- How many edits were entered and are not published.
abbrev pub unpublished : ServingRecord → ℕ
unpublished floor = length floor.journal - floor.published

-- So many, with the word for one or that for more.
abbrev pub so_many : ℕ → List ℕ → List ℕ → List ℕ
so_many n one more = decimal n ++ codes " " ++ (if n == 1 then one else more)

-- The first refused line, where there is one, and why it was refused.
abbrev pub first_words : Option Refused → List ℕ
first_words None = []
first_words (Some first) = codes ", first line " ++ decimal first.line ++ codes ": " ++ refusal_words first.why

-- How many lines were refused, where any were.
abbrev pub refused_words : Tally → List ℕ
refused_words tally = so_many tally.refused (codes "line refused") (codes "lines refused") ++ first_words tally.first

-- How many edits are not published.
abbrev pub unpublished_words : ℕ → List ℕ
unpublished_words n = so_many n (codes "edit not published") (codes "edits not published")

-- Both, where both are so, or one of them.
abbrev pub warning_of : Bool → Bool → Tally → ℕ → List ℕ
warning_of true true tally n = []
warning_of true false tally n = unpublished_words n
warning_of false true tally n = refused_words tally
warning_of false false tally n = refused_words tally ++ codes "; " ++ unpublished_words n

-- What somebody who looks at a script's board should know: that lines were refused, or edits are not published. Where neither is so, nothing is told.
abbrev pub warning : Left → List ℕ
warning left = warning_of (left.tally.refused == 0) (unpublished left.floor == 0) left.tally (unpublished left.floor)

-- The queries of a pool, and those that are matched.
abbrev pub pool_words : PoolRecord → List ℕ
pool_words pool = so_many (length pool.pending) (codes "query pending, ") (codes "queries pending, ") ++ decimal (length (matched_names pool)) ++ codes " matched"

-- The lines of a script, those that were refused, the queries of its published pool, and what is not published.
abbrev pub summary : Left → List ℕ
summary left =
    so_many left.lines (codes "line, ") (codes "lines, ") ++ decimal left.tally.refused ++ codes " refused" ++ first_words left.tally.first
    ++ codes "; " ++ pool_words (shown left.floor) ++ codes "; " ++ unpublished_words (unpublished left.floor)
