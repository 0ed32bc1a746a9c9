use Rattle.std.proofs.Common.{[], get_or, refl, ap, sym, subst, ◌∙◌, arith}
use Rattle.std.specs.List.{insert}
use Rattle.std.proofs.lemmas.List.Edits.{length-insert}
use Rattle.cq_blocks.specs.Blocks.{elements, flat, lists_of, AreFilled}
use Rattle.cq_blocks.proofs.Lists.{elements-insert, filled-set, on_ok, on_ok_more, on_err, on_either}
use Rattle.cq_blocks.proofs.Vecs.{lists-set-same, lists-set-to}
use Rattle.cq_blocks.proofs.Within.{many, within-room, stays-within}
use Rattle.cq_blocks.proofs.Edited.{on_err_more, pushed-at, pushed-filled}
use Rattle.cq_blocks.proofs.edits.insert_at.Goals as goal

pub returns-clause-ok : goal.returns-clause-ok
returns-clause-ok g c =
    let bs = lists_of c.make_room.new.blocks.items in
    on_ok c.insert.result (λ ok.
    ap (λ l. elements l) (lists-set-to (λ l. insert l c.in-Ok.place.index c.args.element) c.make_room.new.blocks.items c.in-Ok.place.block c.index_mut.result.now c.insert.new.self c.in-Ok.ensures.place.0 c.index_mut.ensures.value (rw ok at c.insert.ensures.items))
    ∙ elements-insert bs c.in-Ok.place.block c.in-Ok.place.index c.args.element c.in-Ok.ensures.place.0 c.in-Ok.ensures.place.1
    ∙ ap (λ l. insert l (flat bs c.in-Ok.place) c.args.element) c.in-Ok.ensures.elements
    ∙ ap (λ n. insert (elements (lists_of c.args.blocks.now.items)) n c.args.element) c.in-Ok.ensures.place.2)

pub returns-clause-err : goal.returns-clause-err
returns-clause-err g c =
    on_err c.insert.result (λ err.
    ap (λ l. elements l) (lists-set-same c.make_room.new.blocks.items c.in-Ok.place.block c.index_mut.result.now c.insert.new.self c.in-Ok.ensures.place.0 c.index_mut.ensures.value (rw err at c.insert.ensures.items))
    ∙ c.in-Ok.ensures.elements)

pub returns-clause-filled : goal.returns-clause-filled
returns-clause-filled g c filled =
    let bs = lists_of c.make_room.new.blocks.items in
    let full = c.in-Ok.ensures.filled filled in
    on_either c.insert.result
    (λ ok. subst (λ l. AreFilled l)
    (sym (lists-set-to (λ l. insert l c.in-Ok.place.index c.args.element) c.make_room.new.blocks.items c.in-Ok.place.block c.index_mut.result.now c.insert.new.self c.in-Ok.ensures.place.0 c.index_mut.ensures.value (rw ok at c.insert.ensures.items)))
    (filled-set c.in-Ok.place.block bs (insert (get_or bs c.in-Ok.place.block []) c.in-Ok.place.index c.args.element) full
    (omega (arith, length-insert (get_or bs c.in-Ok.place.block []) c.in-Ok.place.index c.args.element c.in-Ok.ensures.place.1))))
    (λ err. subst (λ l. AreFilled l) (sym (lists-set-same c.make_room.new.blocks.items c.in-Ok.place.block c.index_mut.result.now c.insert.new.self c.in-Ok.ensures.place.0 c.index_mut.ensures.value (rw err at c.insert.ensures.items))) full)

pub returns-then-place-len-clause-ok : goal.returns-then-place-len-clause-ok
returns-then-place-len-clause-ok g c =
    let w = c.args.blocks.now in
    on_ok_more c.push_block.result
    (pushed-at (lists_of w.items) (lists_of c.push_block.new.blocks.items) c.args.element c.args.place.block c.args.place.index (c.if-place-len.true ∙ c.len.ensures ∙ w.ok.0 ∙ sym (many w.items)) c.requires.1)
    c.push_block.ensures.ok

pub returns-then-place-len-clause-err : goal.returns-then-place-len-clause-err
returns-then-place-len-clause-err g c = on_err_more c.push_block.result (λ is. ap (λ l. elements l) is) c.push_block.ensures.err

pub returns-then-place-len-clause-filled : goal.returns-then-place-len-clause-filled
returns-then-place-len-clause-filled g c filled =
    pushed-filled (lists_of c.args.blocks.now.items) (lists_of c.push_block.new.blocks.items) c.args.element c.push_block.result c.push_block.ensures.ok c.push_block.ensures.err filled

pub index_mut-requires : goal.index_mut-requires
index_mut-requires g c = within-room c.make_room.new.blocks c.make_room.new.blocks.items c.in-Ok.place.block refl c.in-Ok.ensures.place.0

pub insert-requires : goal.insert-requires
insert-requires g c =
    stays-within c.make_room.new.blocks c.make_room.new.blocks.items c.in-Ok.place.block refl c.in-Ok.ensures.place.0 c.index_mut.result.now c.in-Ok.place.index c.index_mut.ensures.value c.in-Ok.ensures.place.1
