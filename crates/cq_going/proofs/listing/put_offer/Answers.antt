use Rattle.std.proofs.Common.{codes, arith}
use Rattle.std.specs.Prelude.{string_bytes}
use Rattle.std.proofs.lemmas.Str.{encode_ascii}
use Rattle.cq_atom.specs.Valuation.{under}
use Rattle.cq_board.specs.Choice.{bound}
use Rattle.cq_text.specs.Print.{printed_atom}
use Rattle.cq_going.proofs.Separated.{five_parts}
use Rattle.cq_going.proofs.listing.put_offer.Goals as goal

pub returns : goal.returns
returns g c =
    rw (c.in_ok-push.ensures.bytes, c.in_ok-put_atom.ensures, c.in_ok-push_str-3.ensures.bytes, c.in_ok-push_str-2.ensures.bytes, c.in_ok-push_str.ensures.bytes, c.as_str.ensures.bytes, encode_ascii 10 (omega arith))
    (five_parts (string_bytes c.args.page.now) (codes "  ") c.args.name.now (codes ": ") (printed_atom (under (bound c.args.query.now c.args.values.now) c.args.head.now)) (codes "\n"))
