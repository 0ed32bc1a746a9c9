use Rattle.std.proofs.Common.{codes}
use Rattle.std.specs.Prelude.{string_bytes}
use Rattle.cq_text.specs.Print.{printed_values}
use Rattle.cq_going.specs.Reasons.{head_words}
use Rattle.cq_going.proofs.Separated.{five_parts}
use Rattle.cq_going.proofs.reasons.put_first.Goals as goal

pub returns : goal.returns
returns g c =
    rw (c.in_ok-put_if_there.ensures, c.head_of.ensures, c.in_ok-push_str-3.ensures.bytes, c.in_ok-push_values.ensures, c.in_ok-push_str-2.ensures.bytes, c.in_ok-push_str.ensures.bytes, c.as_str.ensures.bytes)
    (five_parts (string_bytes c.args.page.now) (codes "; ") c.args.link.now.provider.now (printed_values c.args.values.now) (codes " offers ") (head_words c.args.query.now c.args.values.now c.args.link.now.head))
