-- A worked example of what is written for a script.
use Rattle.std.proofs.Common.{◌≡◌, ℕ, pos, List, [], ◌∷◌, refl}
use Rattle.std.specs.Prelude.{codes}
use Rattle.std.specs.Fmt.{digits}
use Rattle.cq_atom.specs.declared.value.Content.TheVariants.{Number, Text}
use Rattle.cq_atom.specs.declared.term.TermKind.TheVariants.{Constant}
use Rattle.cq_atom.specs.Atom.{AtomRecord}
use Rattle.cq_atom.specs.Query.{QueryRecord}
use Rattle.cq_text.specs.declared.command.CommandKind.TheVariants.{Blank, Setup, Edit, Publish, Show}
use Rattle.cq_text.specs.declared.command.SetupLine.TheVariants.{Relation, Limits}
use Rattle.cq_atom.specs.declared.edit.EditKind.TheVariants.{Post, Withdraw}
use Rattle.cq_text.specs.declared.fault.Kind.TheVariants.{Shape}
use Rattle.cq_ground.specs.Grounding.{groundings_of}
use Rattle.cq_match.specs.Matched.{is_closed, is_matched}
use Rattle.cq_board.proofs.CallerLemmas.{unifies}
use Rattle.cq_report.specs.Reading.{Reading, Reads, Faulty}
use Rattle.cq_report.specs.declared.numbering.Numbering.TheVariants.{Plain, Numbered}
use Rattle.cq_report.specs.Output.{output}

abbrev seat : List ℕ → AtomRecord
seat name = record { relation = codes "R"; terms = Constant (Text name) ∷ Constant (Number (pos 122)) ∷ [] }

abbrev waits_for : List ℕ → List ℕ → QueryRecord
waits_for other own = record { posts = seat other ∷ []; heads = seat own ∷ []; body = [] }

abbrev kramer : Reading
kramer = Reads (Edit (Post (codes "kramer") (waits_for (codes "Jerry") (codes "Kramer"))))

abbrev jerry : Reading
jerry = Reads (Edit (Post (codes "jerry") (waits_for (codes "Kramer") (codes "Jerry"))))

first_run : output Plain (kramer ∷ jerry ∷ Reads Publish ∷ Reads Show ∷ [])
    ≡ codes "ok 1\nok 2\npublished 2\nshow 2\nquery kramer matched\n  text {R(\"Jerry\", 122)} R(\"Kramer\", 122) <-\n  post 0 providers 1\n    jerry head 0\n  groundings 1 ()\n    ()\nquery jerry matched\n  text {R(\"Kramer\", 122)} R(\"Jerry\", 122) <-\n  post 0 providers 1\n    kramer head 0\n  groundings 1 ()\n    ()\nend\n"
unfolding unifies is_closed is_matched groundings_of digits
first_run = refl

-- A look shows what was published last, a name is taken once, and a blank line has no reply.
first_run_refusals : output Plain (Reads Show ∷ kramer ∷ Reads Blank ∷ Faulty Shape 18 ∷ kramer ∷ Reads Show ∷ Reads Publish ∷ [])
    ≡ codes "show 0\nend\nok 1\nrefused Shape at 18\nrefused NameTaken\nshow 0\nend\npublished 1\n"
unfolding unifies is_closed is_matched groundings_of digits
first_run_refusals = refl

-- The setup lasts until an edit, a publish or a show; a fault of text and a refused relation do not end it.
setup_and_late : output Plain (Reads (Setup (Relation (codes "T") 2)) ∷ Reads (Setup (Limits 5 1)) ∷ Faulty Shape 0 ∷ Reads (Setup (Relation (codes "T") 1)) ∷ Reads (Setup (Limits 9 1)) ∷ Reads Blank ∷ Reads (Edit (Withdraw (codes "a"))) ∷ Reads (Setup (Relation (codes "T") 1)) ∷ Reads (Setup (Limits 9 2))
    ∷ kramer ∷ jerry ∷ Reads Publish ∷ [])
    ≡ codes "ok\nok\nrefused Shape at 0\nrefused Declared\nok\nrefused NoSuchName\nrefused Late\nrefused Late\nok 1\nrefused JournalFull\npublished 1\n"
unfolding unifies digits
setup_and_late = refl

-- Lines without a reply count, and have no number.
numbered_replies : output Numbered (Faulty Shape 5 ∷ Reads Blank ∷ Reads (Setup (Limits 5 1)) ∷ []) ≡ codes "1: refused Shape at 5\n3: ok\n"
unfolding digits
numbered_replies = refl
