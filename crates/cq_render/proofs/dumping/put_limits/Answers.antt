use Rattle.std.proofs.Common.{arith, codes, string_bytes, append_assoc}
use Rattle.cq_text.specs.declared.command.CommandKind.TheVariants.{Setup}
use Rattle.cq_text.specs.declared.command.SetupLine.TheVariants.{Limits}
use Rattle.cq_text.specs.Print.{printed_command}
use Rattle.std.proofs.lemmas.Str.{encode_ascii}
use Rattle.cq_render.proofs.dumping.put_limits.Goals as goal

pub returns : goal.returns
returns g c = rw (c.in_ok-push.ensures.bytes, c.in_ok-push_limits.ensures, encode_ascii 10 (omega arith)) (append_assoc (string_bytes c.args.script.now) (printed_command (Setup (Limits c.args.pool c.args.journal))) (codes "\n"))
