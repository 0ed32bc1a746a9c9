use Rattle.std.proofs.Common.{◌+◌, ◌-◌, ◌/◌, refl, ap, sym, subst, ◌∙◌, arith}
use Rattle.cq_blocks.specs.Blocks.{elements, lists_of, AreFilled, Stays}
use Rattle.cq_blocks.proofs.Lists.{elements-halved, filled-halved, stays-front, stays-behind}
use Rattle.cq_blocks.proofs.Vecs.{length-at}
use Rattle.cq_blocks.proofs.Within.{within-room, half-within}
use Rattle.cq_blocks.proofs.Edited.{no-ok}
use Rattle.cq_blocks.proofs.edits.make_room.Goals as goal

pub returns-then-place-half-clause-elements : goal.returns-then-place-half-clause-elements
returns-then-place-half-clause-elements g c =
    ap (λ l. elements l) c.in_ok-cut.ensures.ok ∙ elements-halved (c.len-long.result / 2) c.args.place.block (lists_of c.args.blocks.now.items) c.requires.block

pub returns-then-place-half-clause-filled : goal.returns-then-place-half-clause-filled
returns-then-place-half-clause-filled g c filled =
    subst (λ l. AreFilled l) (sym c.in_ok-cut.ensures.ok)
    (filled-halved (c.len-long.result / 2) c.args.place.block (lists_of c.args.blocks.now.items) c.requires.block (omega arith) (omega (arith, length-at c.args.blocks.now.items c.args.place.block c.index.result.now c.requires.block c.index.ensures, c.len-long.ensures, c.if-long-lt-MOST.false)) filled)

pub returns-clause-elements : goal.returns-clause-elements
returns-clause-elements g c =
    ap (λ l. elements l) c.in_ok-cut.ensures.ok ∙ elements-halved (c.len-long.result / 2) c.args.place.block (lists_of c.args.blocks.now.items) c.requires.block

pub returns-clause-filled : goal.returns-clause-filled
returns-clause-filled g c filled =
    subst (λ l. AreFilled l) (sym c.in_ok-cut.ensures.ok)
    (filled-halved (c.len-long.result / 2) c.args.place.block (lists_of c.args.blocks.now.items) c.requires.block (omega arith) (omega (arith, length-at c.args.blocks.now.items c.args.place.block c.index.result.now c.requires.block c.index.ensures, c.len-long.ensures, c.if-long-lt-MOST.false)) filled)

pub returns-then-place-half-clause-place : goal.returns-then-place-half-clause-place
returns-then-place-half-clause-place g c =
    subst (λ l. Stays (lists_of c.args.blocks.now.items) c.args.place l c.args.place) (sym c.in_ok-cut.ensures.ok)
    (stays-front (c.len-long.result / 2) c.args.place.block (lists_of c.args.blocks.now.items) c.requires.block c.args.place.index c.if-place-half.true (omega (arith, length-at c.args.blocks.now.items c.args.place.block c.index.result.now c.requires.block c.index.ensures, c.len-long.ensures, c.if-long-lt-MOST.false)))

pub returns-clause-place : goal.returns-clause-place
returns-clause-place g c =
    subst (λ l. Stays (lists_of c.args.blocks.now.items) c.args.place l (record { block = c.args.place.block + 1; index = c.args.place.index - c.len-long.result / 2 })) (sym c.in_ok-cut.ensures.ok)
    (stays-behind (c.len-long.result / 2) c.args.place.block (lists_of c.args.blocks.now.items) c.requires.block c.args.place.index (omega arith) c.requires.index)

pub index-requires : goal.index-requires
index-requires g c = within-room c.args.blocks.now c.args.blocks.now.items c.args.place.block refl c.requires.block

pub cut-requires-clause-long : goal.cut-requires-clause-long
cut-requires-clause-long g c = half-within c.args.blocks.now.items c.args.place.block c.len-long.result c.index.result.now c.requires.block c.index.ensures c.len-long.ensures

pub returns-in_err-cut-clause-elements : goal.returns-in_err-cut-clause-elements
returns-in_err-cut-clause-elements g c = ap (λ l. elements l) c.in_err-cut.ensures.err

pub returns-in_err-cut-clause-filled : goal.returns-in_err-cut-clause-filled
returns-in_err-cut-clause-filled g c filled = subst (λ l. AreFilled l) (sym c.in_err-cut.ensures.err) filled

pub returns-in_err-cut-clause-place : goal.returns-in_err-cut-clause-place
returns-in_err-cut-clause-place g c =
    no-ok (λ place. Stays (lists_of c.args.blocks.now.items) c.args.place (lists_of c.cut.new.blocks.items) place) c.from_residual.result c.from_residual.ensures.0
