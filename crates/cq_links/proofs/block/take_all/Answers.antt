use Rattle.std.proofs.Common.{◌≡◌, ◌*◌, ◌+◌, length, subst, ◌∙◌, arith, refl}
use Rattle.std.proofs.lemmas.Option.{slice_get_read}
use Rattle.cq_atom.specs.declared.limits.TheConstants.{MAX_ATOMS}
use Rattle.cq_links.specs.Steps.Blocks.{TakesBlock}
use Rattle.cq_links.proofs.Blocks.{behind_block, no_block, taken_more}
use Rattle.cq_links.proofs.block.take_all.Goals as goal

pub loop-i-init : goal.loop-i-init
loop-i-init g c k = rw (no_block (c.args.place * MAX_ATOMS) k) refl

pub remove-requires : goal.remove-requires
remove-requires g c = c.loop-i.invariant ((c.args.place * MAX_ATOMS) + c.loop-i.i)
    ∙ rw (behind_block (c.args.place * MAX_ATOMS) c.loop-i.i ((c.args.place * MAX_ATOMS) + c.loop-i.i) (omega arith)) (c.requires.there c.loop-i.i c.loop-i-test.true ∙ slice_get_read c.args.atoms.now _ c.loop-i.i c.index-atoms-i.result refl c.loop-i-test.true c.index-atoms-i.is)

pub loop-i-preserved : goal.loop-i-preserved
loop-i-preserved g c = taken_more c.args.index.now c.loop-i.index c.remove.new.self (c.args.place * MAX_ATOMS) c.loop-i.i c.loop-i.invariant c.remove.ensures

pub returns : goal.returns
returns g c =
    let all : c.loop-i.i ≡ length c.args.atoms.now = omega arith in
    subst (λ n. TakesBlock (c.args.place * MAX_ATOMS) n c.args.index.now c.loop-i.index) all c.loop-i.invariant
