use Rattle.std.proofs.Common.{slice_index_or, arith, refl}
use Rattle.cq_match.specs.declared.settle.Offer.{Offer}
use Rattle.cq_match.proofs.Counting.{counted-fits, counted-more}
use Rattle.cq_match.proofs.settle.counts_of.Goals as goal

pub overflow_add-index_mut : goal.overflow_add-index_mut
overflow_add-index_mut g c =
    let i = c.loop-offer.offer-index in
    let offer : Offer = slice_index_or c.args.offers.now i (record { provider = 0; slot = 0 }) in
    let low = c.requires i (record { provider = 0; slot = 0 }) c.loop-offer-test.true in
    let most = counted-fits c.loop-offer.counts.items c.args.offers.now i offer.slot c.index_mut.result.now (omega arith) c.index_mut.ensures.value (c.loop-offer.invariant.counted offer.slot low) in
    omega arith

pub loop-offer-preserved : goal.loop-offer-preserved
loop-offer-preserved g c =
    let i = c.loop-offer.offer-index in
    let offer : Offer = slice_index_or c.args.offers.now i (record { provider = 0; slot = 0 }) in
    let low = c.requires i (record { provider = 0; slot = 0 }) c.loop-offer-test.true in
    record {
      len = c.loop-offer.invariant.len;
      counted = λ slot inside. counted-more c.loop-offer.counts.items c.args.offers.now i offer.slot c.index_mut.result.now (record { provider = 0; slot = 0 }) c.loop-offer-test.true refl (omega arith) c.index_mut.ensures.value slot (c.loop-offer.invariant.counted slot inside);
    }
