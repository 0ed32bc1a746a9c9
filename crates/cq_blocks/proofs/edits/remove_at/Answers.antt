use Rattle.std.proofs.Common.{◌∙◌, arith, refl, sym, ap, get_or}
use borrow.Author.Tests.{eqb-true, eqb-false}
use Rattle.cq_blocks.specs.Blocks.{lists_of}
use Rattle.cq_blocks.proofs.Lists.{element-at}
use Rattle.cq_blocks.proofs.Vecs.{list-at, shrinks, goes, filled-shrunk, filled-gone}
use Rattle.cq_blocks.proofs.Within.{within-room, inside-view}
use Rattle.cq_blocks.proofs.edits.remove_at.Goals as goal

pub returns-then-is_empty-clause-value : goal.returns-then-is_empty-clause-value
returns-then-is_empty-clause-value g c =
    let bs = lists_of c.args.blocks.now.items in
    element-at bs c.args.place.block c.args.place.index c.remove-element.result c.requires.0 c.requires.1
    (c.remove-element.ensures.value ∙ ap (λ l. get_or l c.args.place.index c.remove-element.result) (sym (list-at c.args.blocks.now.items c.args.place.block c.index_mut.result.now c.requires.0 c.index_mut.ensures.value)))

pub returns-else-is_empty-clause-value : goal.returns-else-is_empty-clause-value
returns-else-is_empty-clause-value g c =
    let bs = lists_of c.args.blocks.now.items in
    element-at bs c.args.place.block c.args.place.index c.remove-element.result c.requires.0 c.requires.1
    (c.remove-element.ensures.value ∙ ap (λ l. get_or l c.args.place.index c.remove-element.result) (sym (list-at c.args.blocks.now.items c.args.place.block c.index_mut.result.now c.requires.0 c.index_mut.ensures.value)))

pub returns-then-is_empty-clause-rest : goal.returns-then-is_empty-clause-rest
returns-then-is_empty-clause-rest g c =
    goes c.args.blocks.now.items c.args.place.block c.args.place.index c.index_mut.result.now c.remove-element.new.self c.requires.0 c.requires.1 c.index_mut.ensures.value c.remove-element.ensures.items
    c.index.result.now c.index.ensures c.remove.new.self.items c.remove.ensures.items (eqb-true c.index.result.now.len 0 (sym c.if-is_empty.ensures))

pub returns-then-is_empty-clause-filled : goal.returns-then-is_empty-clause-filled
returns-then-is_empty-clause-filled g c =
    filled-gone c.args.blocks.now.items c.args.place.block c.args.place.index c.index_mut.result.now c.remove-element.new.self c.requires.0 c.requires.1 c.index_mut.ensures.value c.remove-element.ensures.items
    c.index.result.now c.index.ensures c.remove.new.self.items c.remove.ensures.items

pub returns-else-is_empty-clause-rest : goal.returns-else-is_empty-clause-rest
returns-else-is_empty-clause-rest g c = shrinks c.args.blocks.now.items c.args.place.block c.args.place.index c.index_mut.result.now c.remove-element.new.self c.requires.0 c.requires.1 c.index_mut.ensures.value c.remove-element.ensures.items

pub returns-else-is_empty-clause-filled : goal.returns-else-is_empty-clause-filled
returns-else-is_empty-clause-filled g c =
    filled-shrunk c.args.blocks.now.items c.args.place.block c.args.place.index c.index_mut.result.now c.remove-element.new.self c.requires.0 c.requires.1 c.index_mut.ensures.value c.remove-element.ensures.items
    c.index.result.now c.index.ensures (omega (arith, eqb-false c.index.result.now.len 0 (sym c.if-is_empty.ensures)))

pub index_mut-requires : goal.index_mut-requires
index_mut-requires g c = within-room c.args.blocks.now c.args.blocks.now.items c.args.place.block refl c.requires.0

pub remove-element-requires : goal.remove-element-requires
remove-element-requires g c =
    inside-view c.args.blocks.now.items (lists_of c.args.blocks.now.items) refl c.args.place.block c.args.place.index c.index_mut.result.now c.requires.0 c.index_mut.ensures.value c.requires.1
