use Rattle.std.proofs.Common.{◌≡◌, length, ap, sym, arith, Ok}
use Rattle.cq_atom.specs.declared.fault.Bad.{Bad}
use Rattle.cq_atom.specs.Atom.{AtomRecord, arity_fault}
use Rattle.cq_text.specs.Steps.Lists.{atom_record}
use Rattle.cq_text.proofs.Made.{made, not_made, well_named}
use Rattle.cq_text.proofs.reading.lists.new_atom.Goals as goal

pub returns-in-Ok : goal.returns-in-Ok
returns-in-Ok g c =
    let relation = c.args.relation.now in
    let terms = c.args.terms.items in
    ap (λ (atom : AtomRecord). Ok atom) (sym (made (atom_record relation terms) (arity_fault relation (length terms)) c.in-Ok.atom (well_named relation (length terms) c.requires.name c.requires.arity) c.in-Ok.ensures))

pub unreachable-requires : goal.unreachable-requires
unreachable-requires g c =
    let relation = c.args.relation.now in
    let terms = c.args.terms.items in
    let only : c.in-Err.field-0 ≡ Bad.NoMemory = not_made (atom_record relation terms) (arity_fault relation (length terms)) c.in-Err.field-0 (well_named relation (length terms) c.requires.name c.requires.arity) c.in-Err.ensures in
    grind arith
