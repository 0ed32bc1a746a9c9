-- The names under which no query is pending, as the program reports them. (this project's profile)
use Rattle.std.specs.Prelude.{ℕ, not, List, [], ◌∷◌, ◌++◌, filter, codes}
use Rattle.std.specs.List.{flat_map}
use Rattle.std.specs.Option.{is_some}
use Rattle.cq_board.specs.Pool.{PoolRecord}
use Rattle.cq_render.specs.Explain.{state_of}
use Rattle.cq_cli.specs.declared.status.Status.{Status}
use Rattle.cq_cli.specs.declared.status.Status.TheVariants.{Done, NotSo}

-- The names under which no query is pending.
abbrev pub absent_names : PoolRecord → List (List ℕ) → List (List ℕ)
absent_names pool names = filter (λ name. not (is_some (state_of pool name))) names

-- Such a name, reported in a line.
abbrev pub absent_line : List ℕ → List ℕ
absent_line name = codes "board: no pending query " ++ name ++ codes "\n"

-- A line for each such name.
abbrev pub absent_lines : PoolRecord → List (List ℕ) → List ℕ
absent_lines pool names = flat_map absent_line (absent_names pool names)

-- All was reported where there is no such name.
abbrev pub status_of_absent : List (List ℕ) → Status
status_of_absent [] = Done
status_of_absent (name ∷ names) = NotSo
