-- When two atoms unify. Their variables are apart: one name in both atoms is two variables.
-- (matching of heads with postconditions by unification: Gupta et al., SIGMOD 2011; two atoms at a time: this project's profile)
use Rattle.std.specs.Prelude.{◌≡◌}
use Rattle.cq_atom.specs.Atom.{AtomRecord, RowRecord, atom_of_row}
use Rattle.cq_atom.specs.Valuation.{Bindings, AreValues, under}

-- A valuation of the one atom and a valuation of the other make the same row of both.
pub record Unify (a b : AtomRecord) : Type 0 where
  pub left : Bindings
  pub right : Bindings
  pub left_values : AreValues left
  pub right_values : AreValues right
  pub row : RowRecord
  pub from_left : under left a ≡ atom_of_row row
  pub from_right : under right b ≡ atom_of_row row
