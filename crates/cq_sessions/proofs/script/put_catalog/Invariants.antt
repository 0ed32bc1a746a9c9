use Rattle.std.proofs.Common.{◌≡◌, ◌++◌, drop}
use Rattle.std.specs.Prelude.{string_bytes}
use Rattle.std.specs.List.{flat_map}
use Rattle.cq_sessions.specs.Script.{declaration_line}
use Rattle.cq_sessions.proofs.script.put_catalog.Given as goal

abbrev pub invariant-loop-place : goal.invariant-loop-place
invariant-loop-place g l = string_bytes l.page ++ flat_map declaration_line (drop l.place l.catalog) ≡ string_bytes l.initial.page ++ flat_map declaration_line l.catalog
