use Rattle.std.proofs.Common.{arith, List, codes, string_bytes, subst}
use Rattle.std.specs.List.{All}
use Rattle.cq_atom.specs.Atom.{AtomRecord}
use Rattle.cq_text.specs.Sound.{IsSoundAtom}
use Rattle.std.proofs.lemmas.Str.{encode_ascii}
use Rattle.cq_text.specs.Print.{printed_atoms, printed_body}
use Rattle.cq_text.proofs.PrintedItems.{six_parts}
use Rattle.cq_text.proofs.printing.push_query_parts.Goals as goal

pub returns-clause-printed : goal.returns-clause-printed
returns-clause-printed g c =
    rw (c.in_ok-push_body.ensures.printed, c.in_ok-push_str-2.ensures.bytes, c.in_ok-push_atoms-2.ensures.printed, c.in_ok-push_str.ensures.bytes, c.in_ok-push_atoms.ensures.printed, c.in_ok-push.ensures.bytes, c.posts.ensures.value, c.heads.ensures.value, c.body.ensures.value, encode_ascii 123 (omega arith))
    (six_parts (string_bytes c.args.printed.now) (codes "{") (printed_atoms c.args.query.now.posts) (codes "} ") (printed_atoms c.args.query.now.heads) (codes " <-") (printed_body c.args.query.now.body))

pub returns-clause-sound : goal.returns-clause-sound
returns-clause-sound g c = record {
  query = c.body.ensures.valid;
  posts = subst (λ (xs : List AtomRecord). All IsSoundAtom xs) c.posts.ensures.value c.in_ok-push_atoms.ensures.sound;
  heads = subst (λ (xs : List AtomRecord). All IsSoundAtom xs) c.heads.ensures.value c.in_ok-push_atoms-2.ensures.sound;
  body = subst (λ (xs : List AtomRecord). All IsSoundAtom xs) c.body.ensures.value c.in_ok-push_body.ensures.sound;
}
