use Rattle.std.proofs.Common.{codes, arith}
use Rattle.std.specs.Prelude.{string_bytes}
use Rattle.std.specs.List.{flat_map, join_by}
use Rattle.std.proofs.lemmas.Str.{encode_ascii}
use Rattle.cq_going.specs.Going.{choice_word, offer_lines}
use Rattle.cq_going.proofs.Separated.{three_parts}
use Rattle.cq_going.proofs.listing.put_choices.Goals as goal

pub returns : goal.returns
returns g c =
    rw (c.in_ok-put_all_offers.ensures, c.in_ok-push.ensures.bytes, c.in_ok-put_words.ensures, encode_ascii 10 (omega arith))
    (three_parts (string_bytes c.args.page.now) (join_by choice_word (codes " ") c.args.choices.now) (codes "\n") (flat_map (offer_lines c.args.board.now.pending) c.args.choices.now))
