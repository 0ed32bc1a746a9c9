use Rattle.std.proofs.Common.{map, codes, arith}
use Rattle.std.specs.Prelude.{string_bytes}
use Rattle.std.specs.List.{join_by}
use Rattle.std.proofs.lemmas.Str.{encode_ascii}
use Rattle.cq_atom.specs.Valuation.{term_under}
use Rattle.cq_board.specs.Choice.{bound}
use Rattle.cq_text.specs.Print.{printed_term}
use Rattle.cq_going.proofs.Separated.{four_parts}
use Rattle.cq_going.proofs.printing.put_atom.Goals as goal

pub returns : goal.returns
returns g c =
    rw (c.in_ok-push-2.ensures.bytes, c.in_ok-put_terms.ensures, c.in_ok-push.ensures.bytes, c.in_ok-push_str.ensures.bytes, c.relation.ensures.value, c.terms.ensures.value, encode_ascii 40 (omega arith), encode_ascii 41 (omega arith))
    (four_parts (string_bytes c.args.page.now) c.args.atom.now.relation (codes "(") (join_by printed_term (codes ", ") (map (term_under (bound c.args.query.now c.args.values.now)) c.args.atom.now.terms)) (codes ")"))
