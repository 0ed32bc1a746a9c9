use Rattle.std.proofs.Common.{◌≡◌, ◌++◌, ◌∙◌, codes, refl, sym, arith}
use Rattle.std.specs.Prelude.{string_bytes}
use Rattle.std.specs.List.{join_by}
use Rattle.std.proofs.lemmas.Str.{encode_ascii}
use Rattle.cq_render.specs.Report.{line}
use Rattle.cq_going.proofs.Tellings.{group_told}
use Rattle.cq_going.proofs.grouping.group_line.Goals as goal

pub returns : goal.returns
returns g c =
    let names = c.args.names.now in
    let is : string_bytes c.push.new.self ≡ line (join_by (λ n. n) (codes " ") names ++ codes ": " ++ c.in_ok-words.words.now) =
    rw (c.in_ok-push.ensures.bytes, c.in_ok-push_str-2.ensures.bytes, c.in_ok-push_str.ensures.bytes, c.in_ok-put_names.ensures, c.new-line.ensures.bytes, encode_ascii 10 (omega arith)) refl in
    group_told c.args.board.now names c.in_ok-words.words.now (string_bytes c.push.new.self) (sym c.is_empty.ensures ∙ c.if-is_empty.false) c.in_ok-words.ensures is
