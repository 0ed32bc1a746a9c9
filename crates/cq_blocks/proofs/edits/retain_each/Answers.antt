use Rattle.std.proofs.Common.{◌≡◌, ◌+◌, ◌<◌, ◌++◌, [], length, take, drop, set, get_or, arith, sym, ap, subst, ◌∙◌}
use Rattle.std.specs.Prelude.{Vec}
use Rattle.std.specs.List.{remove, filter}
use borrow.Author.Tests.{eqb-true, eqb-false}
use Rattle.std.proofs.lemmas.List.{length-map, length-set, get_or-set_same, nil_from_length}
use Rattle.cq_blocks.specs.Blocks.{elements, lists_of, AreFilled}
use Rattle.cq_blocks.proofs.Lists.{filled-set, filled-remove, elements-without_empty}
use Rattle.cq_blocks.proofs.Vecs.{list-at, lists-set, lists-remove}
use Rattle.cq_blocks.proofs.Retained.{went-more, kept-more, kept-gone, within-gone, length-read-back}
use Rattle.cq_blocks.proofs.edits.retain_each.Goals as goal

pub overflow_add-went : goal.overflow_add-went
overflow_add-went g c =
    let vs = c.each.blocks.items in
    let bs = lists_of c.each.blocks.items in
    let k = c.each.at in
    let w = c.retain_in-went.new.block in
    let within : c.each.at < length (lists_of c.each.blocks.items) = omega (arith, length-map c.each.blocks.items (λ (v : Vec g.row.T.Denot g.row.A.Denot). v.items)) in
    let at : get_or (lists_of c.each.blocks.items) c.each.at [] ≡ c.index_mut.result.now.items = list-at vs k c.index_mut.result.now within c.index_mut.ensures.value in
    let here : c.retain_in-went.result + length w.items ≡ length (get_or (lists_of c.each.blocks.items) c.each.at []) = c.retain_in-went.ensures.went ∙ ap (λ l. length l) (sym at) in
    omega (arith, went-more bs k w.items within c.retain_in-went.result c.each.went (length (elements (lists_of c.args.blocks.now.items))) here c.each.invariant.went)

pub each-preserved : goal.each-preserved
each-preserved g c =
    let vs = c.each.blocks.items in
    let bs = lists_of c.each.blocks.items in
    let k = c.each.at in
    let w = c.retain_in-went.new.block in
    let within : c.each.at < length (lists_of c.each.blocks.items) = omega (arith, length-map c.each.blocks.items (λ (v : Vec g.row.T.Denot g.row.A.Denot). v.items)) in
    let at : get_or (lists_of c.each.blocks.items) c.each.at [] ≡ c.index_mut.result.now.items = list-at vs k c.index_mut.result.now within c.index_mut.ensures.value in
    let here : c.retain_in-went.result + length w.items ≡ length (get_or (lists_of c.each.blocks.items) c.each.at []) = c.retain_in-went.ensures.went ∙ ap (λ l. length l) (sym at) in
    let is : lists_of (set vs k w) ≡ set (lists_of c.each.blocks.items) c.each.at w.items = lists-set vs k w in
    let some : 0 < length w.items = omega (arith, length-read-back vs k w c.index.result.now within c.index.ensures, eqb-false c.index.result.now.len 0 (sym c.if-is_empty.ensures)) in record {
      within = omega (arith, ap (λ l. length l) is, length-set bs k w.items, within);
      callable = c.retain_in-went.ensures.callable;
      kept = λ p computes.
          let known = c.each.invariant.kept p computes in
          let next = c.retain_in-went.ensures.kept p known.0 in (
            next.0,
            subst (λ l. filter p (elements (lists_of c.args.blocks.now.items)) ≡ elements (take (c.each.at + 1) l) ++ filter p (elements (drop (c.each.at + 1) l))) (sym is)
                (kept-more bs k w.items within p (filter p (elements (lists_of c.args.blocks.now.items))) known.1 (next.1 ∙ ap (λ l. filter p l) (sym at))),
          );
      went = ap (λ l. c.each.went + c.retain_in-went.result + length (elements l)) is ∙ went-more bs k w.items within c.retain_in-went.result c.each.went (length (elements (lists_of c.args.blocks.now.items))) here c.each.invariant.went;
      filled = λ filled. subst (λ l. AreFilled l) (sym is) (filled-set k bs w.items (c.each.invariant.filled filled) some);
    }

pub each-preserved-then-is_empty : goal.each-preserved-then-is_empty
each-preserved-then-is_empty g c =
    let vs = c.each.blocks.items in
    let bs = lists_of c.each.blocks.items in
    let k = c.each.at in
    let w = c.retain_in-went.new.block in
    let within : c.each.at < length (lists_of c.each.blocks.items) = omega (arith, length-map c.each.blocks.items (λ (v : Vec g.row.T.Denot g.row.A.Denot). v.items)) in
    let at : get_or (lists_of c.each.blocks.items) c.each.at [] ≡ c.index_mut.result.now.items = list-at vs k c.index_mut.result.now within c.index_mut.ensures.value in
    let here : c.retain_in-went.result + length w.items ≡ length (get_or (lists_of c.each.blocks.items) c.each.at []) = c.retain_in-went.ensures.went ∙ ap (λ l. length l) (sym at) in
    let is : lists_of c.remove.new.self.items ≡ remove (set (lists_of c.each.blocks.items) c.each.at w.items) c.each.at =
    ap (λ l. lists_of l) c.remove.ensures.items ∙ lists-remove (set vs k w) k ∙ ap (λ l. remove l k) (lists-set vs k w) in
    let none : w.items ≡ [] = nil_from_length w.items (omega (arith, length-read-back vs k w c.index.result.now within c.index.ensures, eqb-true c.index.result.now.len 0 (sym c.if-is_empty.ensures))) in record {
      within = omega (arith, ap (λ l. length l) is, within-gone bs k w.items within);
      callable = c.retain_in-went.ensures.callable;
      kept = λ p computes.
          let known = c.each.invariant.kept p computes in
          let next = c.retain_in-went.ensures.kept p known.0 in (
            next.0,
            subst (λ l. filter p (elements (lists_of c.args.blocks.now.items)) ≡ elements (take c.each.at l) ++ filter p (elements (drop c.each.at l))) (sym is)
                (kept-gone bs k w.items within p (filter p (elements (lists_of c.args.blocks.now.items))) known.1 (next.1 ∙ ap (λ l. filter p l) (sym at)) none),
          );
      went =
          ap (λ l. c.each.went + c.retain_in-went.result + length (elements l)) is
          ∙ ap (λ l. c.each.went + c.retain_in-went.result + length l) (elements-without_empty (set bs k w.items) k (omega (arith, length-set bs k w.items, within)) (get_or-set_same bs k w.items [] within ∙ none))
          ∙ went-more bs k w.items within c.retain_in-went.result c.each.went (length (elements (lists_of c.args.blocks.now.items))) here c.each.invariant.went;
      filled = λ filled. subst (λ l. AreFilled l) (sym is) (filled-remove k bs w.items (c.each.invariant.filled filled));
    }
