use Rattle.std.proofs.Common.{codes, string_bytes}
use Rattle.cq_text.specs.Print.{printed_query}
use lib.Utf8.{encode}
use Rattle.cq_render.proofs.Lines.{ended}
use Rattle.cq_render.proofs.reporting.put_text.Goals as goal

pub returns : goal.returns
unfolding encode
returns g c =
    ended c.push.result (string_bytes c.args.page.now) (string_bytes c.push_str.new.self) (string_bytes c.push_query.new.printed) (string_bytes c.push.new.self) (codes "  text ") (printed_query c.args.query.now)
    c.in_ok-push_str.ensures.bytes c.in_ok-push_query.ensures.printed c.push.ensures.bytes
