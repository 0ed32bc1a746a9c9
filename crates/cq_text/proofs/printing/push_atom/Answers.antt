use Rattle.std.proofs.Common.{arith, List, ℕ, codes, string_bytes, subst}
use Rattle.std.specs.Prelude.{IsTrue}
use Rattle.cq_atom.specs.Text.{is_relation_name}
use Rattle.cq_atom.specs.Atom.{TermContent}
use Rattle.cq_text.specs.Sound.{IsSoundTerm}
use Rattle.std.proofs.lemmas.Str.{encode_ascii}
use Rattle.std.specs.List.{join_by, All}
use Rattle.cq_text.specs.Print.{printed_term}
use Rattle.cq_text.proofs.PrintedItems.{four_parts}
use Rattle.cq_text.proofs.printing.push_atom.Goals as goal

pub returns-clause-printed : goal.returns-clause-printed
returns-clause-printed g c =
    rw (c.in_ok-push-2.ensures.bytes, c.in_ok-push_terms.ensures.printed, c.in_ok-push.ensures.bytes, c.in_ok-push_str.ensures.bytes, c.relation.ensures.value, c.terms.ensures.value, encode_ascii 40 (omega arith), encode_ascii 41 (omega arith))
    (four_parts (string_bytes c.args.printed.now) c.args.atom.now.relation (codes "(") (join_by printed_term (codes ", ") c.args.atom.now.terms) (codes ")"))

pub returns-clause-sound : goal.returns-clause-sound
returns-clause-sound g c = record {
  relation = subst (λ (w : List ℕ). IsTrue (is_relation_name w)) c.relation.ensures.value c.relation.ensures.valid;
  some = c.terms.ensures.some;
  few = c.terms.ensures.few;
  terms = subst (λ (xs : List TermContent). All IsSoundTerm xs) c.terms.ensures.value c.in_ok-push_terms.ensures.sound;
}
