use Rattle.std.proofs.Common.{codes, string_bytes}
use Rattle.cq_text.specs.Print.{printed_values}
use lib.Utf8.{encode}
use Rattle.cq_render.proofs.Lines.{ended}
use Rattle.cq_render.proofs.reporting.put_grounding.Goals as goal

pub returns : goal.returns
unfolding encode
returns g c =
    ended c.push.result (string_bytes c.args.page.now) (string_bytes c.push_str.new.self) (string_bytes c.push_values.new.printed) (string_bytes c.push.new.self) (codes "    ") (printed_values c.args.values.now)
    c.in_ok-push_str.ensures.bytes c.in_ok-push_values.ensures c.push.ensures.bytes
