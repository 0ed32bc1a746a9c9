use Rattle.std.proofs.Common.{arith, codes, string_bytes}
use Rattle.std.specs.List.{join_by}
use Rattle.std.proofs.lemmas.Str.{encode_ascii}
use Rattle.cq_text.specs.Print.{printed_value}
use Rattle.cq_text.proofs.PrintedItems.{three_parts}
use Rattle.cq_text.proofs.printing.push_values.Goals as goal

pub returns : goal.returns
returns g c =
    rw (c.in_ok-push-2.ensures.bytes, c.in_ok-push_listed.ensures.printed, c.in_ok-push.ensures.bytes, encode_ascii 40 (omega arith), encode_ascii 41 (omega arith))
    (three_parts (string_bytes c.args.printed.now) (codes "(") (join_by printed_value (codes ", ") c.args.values.now) (codes ")"))
