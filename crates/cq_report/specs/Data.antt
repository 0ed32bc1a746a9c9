-- How a reply reads as members of a JSON object that has others before them. (this project's profile)
use Rattle.std.specs.Prelude.{ℕ, List, [], ◌++◌, codes, decimal}
use Rattle.cq_report.specs.declared.outcome.Outcome.{Outcome}
use Rattle.cq_report.specs.declared.outcome.Outcome.TheVariants.{Silent, Accepted, Entered, Published, Shown, Answered, Checkpointed, Quit, Refused}
use Rattle.cq_report.specs.Refusals.{refusal_members}

-- What comes of a line, before the board of a look; an answer is a member by itself.
abbrev pub outcome_members : Outcome → List ℕ
outcome_members Silent = []
outcome_members Accepted = codes ",\"ok\":true"
outcome_members (Entered number) = codes ",\"ok\":" ++ decimal number
outcome_members (Published count) = codes ",\"published\":" ++ decimal count
outcome_members (Shown count) = codes ",\"board\":"
outcome_members (Answered kind) = []
outcome_members (Checkpointed count) = codes ",\"checkpoint\":" ++ decimal count
outcome_members Quit = codes ",\"quit\":true"
outcome_members (Refused why) = refusal_members why
