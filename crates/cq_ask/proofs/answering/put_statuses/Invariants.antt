use Rattle.std.proofs.Common.{◌≡◌, ◌++◌, drop}
use Rattle.std.specs.Prelude.{string_bytes}
use Rattle.std.specs.List.{flat_map}
use Rattle.cq_ask.specs.Answer.{status_line}
use Rattle.cq_ask.proofs.answering.put_statuses.Given as goal

abbrev pub invariant-loop-name : goal.invariant-loop-name
invariant-loop-name g l = string_bytes l.page ++ flat_map (status_line l.board) (drop l.name-index l.names) ≡ string_bytes l.initial.page ++ flat_map (status_line l.board) l.names
