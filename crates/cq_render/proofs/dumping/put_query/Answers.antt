use Rattle.std.proofs.Common.{arith, codes, string_bytes, append_assoc}
use Rattle.cq_atom.specs.declared.edit.EditKind.TheVariants.{Post}
use Rattle.cq_text.specs.declared.command.CommandKind.TheVariants.{Edit}
use Rattle.cq_text.specs.Print.{printed_command}
use Rattle.std.proofs.lemmas.Str.{encode_ascii}
use Rattle.cq_render.proofs.dumping.put_query.Goals as goal

pub returns-clause-printed : goal.returns-clause-printed
returns-clause-printed g c = rw (c.in_ok-push.ensures.bytes, c.in_ok-push_post.ensures.printed, encode_ascii 10 (omega arith)) (append_assoc (string_bytes c.args.script.now) (printed_command (Edit (Post c.args.name.now c.args.query.now))) (codes "\n"))

pub returns-clause-sound : goal.returns-clause-sound
returns-clause-sound g c = c.in_ok-push_post.ensures.sound
