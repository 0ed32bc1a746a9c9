-- Whether a body binds the variables of a query.
use Rattle.std.specs.Prelude.{List, Bool, ◌&&◌}
use Rattle.cq_atom.specs.Atom.{AtomRecord}
use Rattle.cq_atom.specs.Query.{binds_all}

-- The body has each variable of the postconditions and of the heads.
abbrev pub binds_both : List AtomRecord → List AtomRecord → List AtomRecord → Bool
binds_both body posts heads = binds_all body posts && binds_all body heads
