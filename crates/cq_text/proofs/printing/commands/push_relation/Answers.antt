use Rattle.std.proofs.Common.{arith, codes, string_bytes}
use Rattle.std.specs.Fmt.{decimal}
use Rattle.std.proofs.lemmas.Str.{encode_ascii}
use Rattle.cq_text.specs.declared.command.CommandKind.TheVariants.{Setup}
use Rattle.cq_text.specs.declared.command.SetupLine.TheVariants.{Relation}
use Rattle.cq_text.proofs.PrintedItems.{four_parts}
use Rattle.cq_text.proofs.PrintedCommands.{command_back}
use Rattle.cq_text.proofs.printing.commands.push_relation.Goals as goal

pub returns : goal.returns
returns g c =
    rw (c.in_ok-push_count.ensures, c.in_ok-push.ensures.bytes, c.in_ok-push_str-2.ensures.bytes, c.in_ok-push_str.ensures.bytes, encode_ascii 32 (omega arith))
    (four_parts (string_bytes c.args.printed.now) (codes "relation ") c.args.name.now (codes " ") (decimal c.args.arity))
