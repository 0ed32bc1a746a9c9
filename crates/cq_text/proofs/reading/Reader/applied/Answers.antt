use Rattle.cq_text.proofs.Names.{applied_read}
use Rattle.cq_text.proofs.reading.Reader.applied.Goals as goal

pub returns : goal.returns
returns g c = applied_read c.args.form c.args.relation.now c.args.self.now _ _ _ _ c.in_ok-sign.ensures c.in_ok-terms.ensures.terms c.new_atom.ensures
