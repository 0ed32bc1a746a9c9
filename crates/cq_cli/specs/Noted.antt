-- What is told of choices that are none by themselves. (this project's profile)
use Rattle.std.specs.Prelude.{◌≡◌, ◌≢◌, ◌⊎◌, ℕ, List, [], ◌++◌, length, Option, Some, None, codes}
use Rattle.std.specs.List.{Contains, join_by}
use Rattle.cq_atom.specs.Value.{ValueContent}
use Rattle.cq_atom.specs.Query.{QueryRecord, variables_of}
use Rattle.cq_board.specs.Choice.{ChoiceRecord}
use Rattle.cq_board.specs.Named.{query_named, groundings_named}
use Rattle.cq_board.specs.Pool.{PoolRecord}
use Rattle.cq_report.specs.Summary.{so_many}
use Rattle.cq_cli.specs.Explained.{absent_line}

-- How many values the query of that name takes, and for which variables.
abbrev pub variables_line : List ℕ → List (List ℕ) → List ℕ
variables_line name variables =
    codes "board: " ++ (name ++ (codes " has " ++ (so_many (length variables) (codes "value: (") (codes "values: (") ++ (join_by (λ v. v) (codes ", ") variables ++ codes ")\n"))))

-- The values are no grounding of the query of that name.
abbrev pub rows_line : List ℕ → List ℕ
rows_line name = codes "board: no rows give " ++ (name ++ codes " these values\n")

-- What is told of a choice, by the query of its name and its groundings, where it is pending: that there is no such query, else that it has another number of
-- variables, else that the values are no grounding; and nothing where they are one.
abbrev pub IsNotedBy : Option QueryRecord → Option (List (List ValueContent)) → ChoiceRecord → List ℕ → Type 0
IsNotedBy (Some query) (Some groundings) choice note =
    ((length choice.values ≢ length (variables_of query.body)) × (note ≡ variables_line choice.name (variables_of query.body)))
    ⊎ ((length choice.values ≡ length (variables_of query.body)) × ((Contains groundings choice.values × (note ≡ [])) ⊎ ((Contains groundings choice.values → ⊥) × (note ≡ rows_line choice.name))))
IsNotedBy (Some query) None choice note = ⊥
IsNotedBy None groundings choice note = note ≡ absent_line choice.name

-- What is told of a choice over a pool.
abbrev pub IsNoted : PoolRecord → ChoiceRecord → List ℕ → Type 0
IsNoted pool choice note = IsNotedBy (query_named choice.name pool.pending) (groundings_named choice.name pool) choice note
