use Rattle.std.proofs.Common.{arith, codes, string_bytes, append_assoc}
use Rattle.cq_text.specs.declared.command.CommandKind.TheVariants.{Setup}
use Rattle.cq_text.specs.declared.command.SetupLine.TheVariants.{Relation}
use Rattle.cq_text.specs.Print.{printed_command}
use Rattle.std.proofs.lemmas.Str.{encode_ascii}
use Rattle.cq_render.proofs.dumping.put_relation.Goals as goal

pub returns : goal.returns
returns g c = rw (c.in_ok-push.ensures.bytes, c.in_ok-push_relation.ensures, encode_ascii 10 (omega arith)) (append_assoc (string_bytes c.args.script.now) (printed_command (Setup (Relation c.args.relation.now c.args.arity))) (codes "\n"))
