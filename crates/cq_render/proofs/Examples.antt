-- A worked example of a dump.
use Rattle.std.proofs.Common.{◌≡◌, ℕ, pos, List, [], ◌∷◌, refl, arith}
use Rattle.std.specs.Prelude.{codes}
use Rattle.std.proofs.lemmas.Fmt.{decimal_digit}
use Rattle.cq_atom.specs.declared.value.Content.TheVariants.{Number}
use Rattle.cq_atom.specs.declared.term.TermKind.TheVariants.{Variable}
use Rattle.cq_atom.specs.Atom.{AtomRecord, RowRecord}
use Rattle.cq_atom.specs.Query.{QueryRecord}
use Rattle.cq_text.specs.declared.form.Form.TheVariants.{Two}
use Rattle.cq_rel.specs.Tables.{Declaration, declaration, TablesRecord}
use Rattle.cq_board.specs.declared.limits.Limits.{Limits}
use Rattle.cq_board.specs.Pool.{PendingQuery, PoolRecord}
use Rattle.cq_render.specs.Dump.{dump}

abbrev over_x : List ℕ → AtomRecord
over_x relation = record { relation = relation; terms = Variable (codes "x") ∷ [] }

abbrev flight : RowRecord
flight = record { relation = codes "Flights"; values = Number (pos 7) ∷ [] }

abbrev anyone : QueryRecord
anyone = record { posts = []; heads = over_x (codes "Seat") ∷ []; body = over_x (codes "Flights") ∷ [] }

-- one relation with one row, and one query
abbrev flights : PoolRecord
flights = record {
  limits = record { pool = 5; journal = 9 };
  tables = record { catalog = declaration (codes "Flights") 1 ∷ []; rows = flight ∷ [] };
  pending = (record { name = codes "ann"; query = anyone }) ∷ [];
}

-- the given journal limit of 1 is too low for a row and a query
dumped : dump Two 1 flights ≡ codes "board 2\nrelation Flights 1\nlimits 5 2\ninsert Flights(7)\npost ann {} Seat(x) <- Flights(x)\npublish\n"
dumped = rw (decimal_digit 1 (omega arith), decimal_digit 2 (omega arith), decimal_digit 5 (omega arith), decimal_digit 7 (omega arith)) refl
