-- The first atom of a body that has no grounding together with those before it. (this project's profile)
use Rattle.std.specs.Prelude.{ℕ, ◌+◌, Bool, not, List, length, take, Option, option_map}
use Rattle.std.specs.List.{enumerate_from, find}
use Rattle.cq_atom.specs.Atom.{AtomRecord}
use Rattle.cq_rel.specs.Tables.{TablesRecord, rows_in}
use Rattle.cq_ground.specs.Grounding.{has_grounding}
use Rattle.cq_near.specs.declared.clash.Clash.{Clash}

-- The atoms of the body up to this one, which stands at the place, have no grounding.
abbrev pub clashes : TablesRecord → List AtomRecord → ℕ × AtomRecord → Bool
clashes tables body (place, atom) = not (has_grounding (take (place + 1) body) tables.rows)

-- The first atom that has no grounding together with those before it, if there is one, with how many rows its relation has.
abbrev pub first_clash : TablesRecord → List AtomRecord → Option (Clash AtomRecord)
first_clash tables body =
    option_map (λ found. record { atom = found.1; rows = length (rows_in found.1.relation tables) }) (find (clashes tables body) (enumerate_from 0 body))

-- The same, with the atom read.
abbrev pub clash_read : {T : Type 0} → (T → AtomRecord) → Clash T → Clash AtomRecord
clash_read atom found = record { atom = atom found.atom; rows = found.rows }
