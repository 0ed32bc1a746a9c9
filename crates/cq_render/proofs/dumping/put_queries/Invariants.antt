use Rattle.std.proofs.Common.{◌≡◌, ◌++◌, take, drop}
use Rattle.std.specs.Prelude.{string_bytes}
use Rattle.std.specs.List.{All, flat_map}
use Rattle.cq_atom.specs.declared.edit.EditKind.TheVariants.{Post}
use Rattle.cq_text.specs.declared.command.CommandKind.TheVariants.{Edit}
use Rattle.cq_text.specs.Sound.{IsSoundCommand}
use Rattle.cq_render.specs.Dump.{command_line}
use Rattle.cq_render.proofs.dumping.put_queries.Given as goal

abbrev pub invariant-loop-shown : goal.invariant-loop-shown
invariant-loop-shown g l = record {
  sound : All (λ shown. IsSoundCommand (Edit (Post shown.name.now shown.query.now))) (take l.shown-index l.queries);
  printed : string_bytes l.script ++ flat_map (λ shown. command_line (Edit (Post shown.name.now shown.query.now))) (drop l.shown-index l.queries)
      ≡ string_bytes l.initial.script ++ flat_map (λ shown. command_line (Edit (Post shown.name.now shown.query.now))) l.queries;
}
