use Rattle.std.specs.Prelude.{codes, string_bytes}
use Rattle.cq_why.proofs.Puts.{put_pieces}
use Rattle.cq_why.proofs.hint.put_name.Goals as goal

pub returns : goal.returns
returns g c =
    put_pieces (string_bytes c.args.page.now) (string_bytes c.push_str.new.self) (string_bytes c.push_str-2.new.self) (string_bytes c.push_str-3.new.self) (codes "; did you mean ") c.args.name.now (codes "?")
    c.in_ok-push_str.ensures.bytes c.in_ok-push_str-2.ensures.bytes c.in_ok-push_str-3.ensures.bytes
