-- Worked examples of printed commands.
use Rattle.std.proofs.Common.{◌≡◌, ℕ, pos, List, [], ◌∷◌, refl, arith}
use Rattle.std.specs.Prelude.{codes}
use Rattle.std.proofs.lemmas.Fmt.{decimal_digit}
use Rattle.cq_atom.specs.declared.value.Content.TheVariants.{Number, Text}
use Rattle.cq_atom.specs.declared.term.TermKind.TheVariants.{Constant, Variable}
use Rattle.cq_atom.specs.declared.edit.EditKind.TheVariants.{Post, Insert}
use Rattle.cq_atom.specs.Atom.{TermContent, AtomRecord, RowRecord}
use Rattle.cq_atom.specs.Query.{QueryRecord}
use Rattle.cq_text.specs.declared.command.CommandKind.TheVariants.{Setup, Edit, Publish}
use Rattle.cq_text.specs.declared.command.SetupLine.TheVariants.{Relation, Board, Limits}
use Rattle.cq_text.specs.declared.form.Form.TheVariants.{Two}
use Rattle.cq_text.specs.Print.{printed_command}

abbrev x : TermContent
x = Variable (codes "x")

abbrev reservation : List ℕ → AtomRecord
reservation name = record { relation = codes "Reservation"; terms = Constant (Text name) ∷ x ∷ [] }

-- Kramer flies if Jerry does.
abbrev kramer : QueryRecord
kramer = record { posts = reservation (codes "Jerry") ∷ []; heads = reservation (codes "Kramer") ∷ []; body = (record { relation = codes "Flights"; terms = x ∷ [] }) ∷ [] }

abbrev flight : RowRecord
flight = record { relation = codes "Flights"; values = Number (pos 7) ∷ [] }

board_line : printed_command (Setup (Board Two)) ≡ codes "board 2"
board_line = rw (decimal_digit 2 (omega arith)) refl

relation_line : printed_command (Setup (Relation (codes "Flights") 1)) ≡ codes "relation Flights 1"
relation_line = rw (decimal_digit 1 (omega arith)) refl

limits_line : printed_command (Setup (Limits 5 9)) ≡ codes "limits 5 9"
limits_line = rw (decimal_digit 5 (omega arith), decimal_digit 9 (omega arith)) refl

insert_line : printed_command (Edit (Insert flight)) ≡ codes "insert Flights(7)"
insert_line = rw (decimal_digit 7 (omega arith)) refl

post_line : printed_command (Edit (Post (codes "kramer") kramer)) ≡ codes "post kramer {Reservation(\"Jerry\", x)} Reservation(\"Kramer\", x) <- Flights(x)"
post_line = refl

publish_line : printed_command Publish ≡ codes "publish"
publish_line = refl
