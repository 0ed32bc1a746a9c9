use Rattle.std.proofs.Common.{◌*◌, ap, subst, ◌∙◌, arith, refl}
use Rattle.std.specs.FinMap.{get}
use Rattle.std.proofs.lemmas.List.{length-take-le}
use Rattle.std.proofs.lemmas.Option.{slice_get_read}
use Rattle.cq_atom.specs.declared.limits.TheConstants.{MAX_ATOMS}
use Rattle.cq_links.specs.Steps.Blocks.{TakesBlock}
use Rattle.cq_links.proofs.Blocks.{put_more, undone}
use Rattle.cq_links.proofs.block.put_all.Goals as goal

pub returns-in-Err-clause-err : goal.returns-in-Err-clause-err
returns-in-Err-clause-err g c =
    let out : TakesBlock (c.args.place * MAX_ATOMS) c.loop-i.i c.add.new.self c.take_all.new.index = subst (λ n. TakesBlock (c.args.place * MAX_ATOMS) n c.add.new.self c.take_all.new.index) (length-take-le c.loop-i.i c.args.atoms.now (omega arith)) c.take_all.ensures in
    undone c.args.index.now c.add.new.self c.take_all.new.index (c.args.place * MAX_ATOMS) c.loop-i.i c.args.atoms.now (omega arith) c.requires.free
    (λ k. ap (λ m. get m k) c.in-Err.ensures.err ∙ c.loop-i.invariant k)
    out

pub loop-i-preserved : goal.loop-i-preserved
loop-i-preserved g c = put_more c.args.index.now c.loop-i.index c.add.new.self (c.args.place * MAX_ATOMS) c.loop-i.i c.args.atoms.now c.index-atoms-i.result
    (slice_get_read c.args.atoms.now _ c.loop-i.i c.index-atoms-i.result refl c.loop-i-test.true c.index-atoms-i.is) c.loop-i.invariant c.in_default.ensures.ok
