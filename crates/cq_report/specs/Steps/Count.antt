-- Lines that are counted.
use Rattle.std.specs.Prelude.{ℕ}
use Rattle.cq_report.specs.Machine.{State}

-- How many lines were counted.
abbrev pub lines_before : State → ℕ
lines_before state = state.lines
