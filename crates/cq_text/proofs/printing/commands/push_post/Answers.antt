use Rattle.std.proofs.Common.{arith, codes, string_bytes}
use Rattle.std.proofs.lemmas.Str.{encode_ascii}
use Rattle.cq_text.specs.Print.{printed_query}
use Rattle.cq_text.proofs.PrintedItems.{four_parts}
use Rattle.cq_text.proofs.printing.commands.push_post.Goals as goal

pub returns-clause-printed : goal.returns-clause-printed
returns-clause-printed g c =
    rw (c.in_ok-push_query_parts.ensures.printed, c.in_ok-push.ensures.bytes, c.in_ok-push_str-2.ensures.bytes, c.in_ok-push_str.ensures.bytes, c.as_str.ensures.bytes, encode_ascii 32 (omega arith))
    (four_parts (string_bytes c.args.printed.now) (codes "post ") c.args.name.now (codes " ") (printed_query c.args.query.now))

pub returns-clause-sound : goal.returns-clause-sound
returns-clause-sound g c = (c.as_str.ensures.name, c.in_ok-push_query_parts.ensures.sound)
