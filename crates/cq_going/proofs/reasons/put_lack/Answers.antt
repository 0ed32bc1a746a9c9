use Rattle.std.proofs.Common.{codes, arith}
use Rattle.std.specs.Prelude.{string_bytes}
use Rattle.std.proofs.lemmas.Str.{encode_ascii}
use Rattle.cq_text.specs.Print.{printed_values}
use Rattle.cq_board.specs.Board.{links_of}
use Rattle.cq_board.specs.Named.{query_named}
use Rattle.cq_going.specs.Reasons.{post_words, near_words}
use Rattle.cq_going.proofs.Separated.{eight_parts}
use Rattle.cq_going.proofs.reasons.put_lack.Goals as goal

pub returns : goal.returns
returns g c =
    rw (c.in_ok-push.ensures.bytes, c.in_ok-put_near.ensures, c.deref.ensures.value, c.in_ok-edges.ensures, c.in_ok-push_str-4.ensures.bytes, c.in_ok-put_post.ensures, c.query.ensures, c.in_ok-push_str-3.ensures.bytes, c.in_ok-push_values.ensures, c.in_ok-push_str-2.ensures.bytes, c.in_ok-push_str.ensures.bytes, c.as_str.ensures.bytes, encode_ascii 10 (omega arith))
    (eight_parts (string_bytes c.args.page.now) (codes "  ") c.args.name.now (printed_values c.args.values.now) (codes " awaits ") (post_words (query_named c.args.name.now c.args.board.now.pending) c.args.values.now c.args.post) (codes ", which none offers")
    (near_words c.args.board.now c.args.name.now c.args.post (links_of c.args.board.now.pending)) (codes "\n"))
