use Rattle.std.proofs.lemmas.Result.{err_from_is_err_and}
use Rattle.cq_text.proofs.Names.{atom_read, atom_fails, atom_without_room, atom_fails_inside, atom_fails_behind}
use Rattle.cq_text.proofs.Passed.{passed_on}
use Rattle.cq_text.proofs.reading.Reader.atom.Goals as goal

pub returns : goal.returns
returns g c = atom_read c.args.form c.args.close c.args.has_room c.args.self.now _ _ _ _ _ _ _ c.if-not-has_room.false c.in_ok-relation.ensures.name c.in_ok-atom.ensures c.in_ok-has_more.ensures

pub returns-in_err-atom : goal.returns-in_err-atom
returns-in_err-atom g c =
    let p = err_from_is_err_and c.from_residual-in_err-atom.result c.from_residual-in_err-atom.ensures.1 in
    rw (p.1, p.2) (atom_fails_inside c.in_err-atom.field-0.0 c.args.form c.args.close c.args.has_room c.args.self.now _ _ _ c.if-not-has_room.false c.in_ok-relation.ensures.name c.in_err-atom.ensures)

pub returns-in_err-has_more : goal.returns-in_err-has_more
returns-in_err-has_more g c =
    let p = err_from_is_err_and c.from_residual-in_err-has_more.result c.from_residual-in_err-has_more.ensures.1 in
    rw (p.1, p.2) (atom_fails_behind c.in_err-has_more.field-0.0 c.args.form c.args.close c.args.has_room c.args.self.now _ _ _ _ _ c.if-not-has_room.false c.in_ok-relation.ensures.name c.in_ok-atom.ensures c.in_err-has_more.ensures)

pub returns-in_err-relation : goal.returns-in_err-relation
returns-in_err-relation g c =
    passed_on _ c.from_residual.result c.in_err-relation.field-0.0 _ c.from_residual.ensures.1
    (atom_fails c.in_err-relation.field-0.0 c.args.form c.args.close c.args.has_room c.args.self.now c.in_err-relation.ensures.name)

pub returns-then-not-has_room : goal.returns-then-not-has_room
returns-then-not-has_room g c = rw c.limit.ensures (atom_without_room c.args.form c.args.close c.args.has_room c.args.self.now _ _ _ c.if-not-has_room.true c.in_ok-relation.ensures.name)
