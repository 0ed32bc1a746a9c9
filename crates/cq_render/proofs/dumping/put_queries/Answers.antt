use Rattle.std.proofs.Common.{◌+◌, drop, ap, subst, arith}
use Rattle.std.specs.Prelude.{string_bytes}
use Rattle.std.specs.List.{All, flat_map}
use Rattle.cq_atom.specs.declared.edit.EditKind.TheVariants.{Post}
use Rattle.cq_text.specs.declared.command.CommandKind.TheVariants.{Edit}
use Rattle.cq_text.specs.Sound.{IsSoundCommand}
use Rattle.cq_render.specs.Dump.{command_line}
use Rattle.std.proofs.lemmas.List.{take_all}
use Rattle.std.proofs.lemmas.List.Elements.{All-more}
use Rattle.cq_render.proofs.Pieces.{pieces_at, read_at, nothing_left}
use Rattle.cq_render.proofs.Pages.{put_on, put_end}
use Rattle.cq_render.proofs.dumping.put_queries.Goals as goal

pub loop-shown-preserved : goal.loop-shown-preserved
loop-shown-preserved g c =
    let i = c.loop-shown.shown-index in
    let queries = c.args.queries.now in
    let shown = c.shown-item.result in
    record {
      sound = All-more (λ shown. IsSoundCommand (Edit (Post shown.name.now shown.query.now))) queries i shown c.loop-shown-test.true c.loop-shown.invariant.sound (subst (λ shown. IsSoundCommand (Edit (Post shown.name.now shown.query.now))) c.shown-item.is c.in_ok-put_query.ensures.sound);
      printed = put_on (string_bytes c.loop-shown.script) (string_bytes c.put_query.new.script) (command_line (Edit (Post shown.name.now shown.query.now))) _
          (flat_map (λ shown. command_line (Edit (Post shown.name.now shown.query.now))) (drop (i + 1) queries)) _
          (pieces_at (λ shown. command_line (Edit (Post shown.name.now shown.query.now))) queries i shown (read_at queries i shown c.loop-shown-test.true c.shown-item.is)) c.loop-shown.invariant.printed c.in_ok-put_query.ensures.printed;
    }

pub returns-clause-printed : goal.returns-clause-printed
returns-clause-printed g c =
    let queries = c.args.queries.now in
    put_end (string_bytes c.loop-shown.script) (flat_map (λ shown. command_line (Edit (Post shown.name.now shown.query.now))) (drop c.loop-shown.shown-index queries)) _
    (ap (flat_map (λ shown. command_line (Edit (Post shown.name.now shown.query.now)))) (nothing_left queries c.loop-shown.shown-index (omega arith))) c.loop-shown.invariant.printed

pub returns-clause-sound : goal.returns-clause-sound
returns-clause-sound g c = subst (λ queries. All (λ shown. IsSoundCommand (Edit (Post shown.name.now shown.query.now))) queries) (take_all c.loop-shown.shown-index c.args.queries.now c.loop-shown-test.false) c.loop-shown.invariant.sound
