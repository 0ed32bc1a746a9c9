use Rattle.std.proofs.Common.{◌≡◌, ℕ, ◌<◌, ◌++◌, true, List, length, get_or, replicate, ap, sym, ◌∙◌, arith, subst}
use Rattle.std.specs.List.{All, AllZip}
use Rattle.std.proofs.lemmas.Bool.{eqb-true}
use Rattle.cq_match.specs.declared.falls.Fall.{Fall}
use Rattle.cq_match.specs.Steps.Falls.{IsFallOf}
use Rattle.cq_match.proofs.Dropping.{IsUnfed, EachWaits}
use Rattle.cq_match.proofs.Felled.{Fell, Counted}
use Rattle.cq_match.proofs.Settling.{written-back}
use Rattle.cq_match.proofs.Waves.{Keeps, due-low, due-within, due-empty, round-due, so-far-next, waving-start, waving-next, so-far-start, all-rounds}
use Rattle.std.proofs.lemmas.List.Elements.{Contains-get_or}
use Rattle.std.specs.List.Sorted.{IsStrictlyIncreasing}
use Rattle.cq_match.proofs.falls.rounds_of.Goals as goal

pub loop-alloc-init : goal.loop-alloc-init
loop-alloc-init g c =
    let ranked = c.args.ranked.now in
    let slots = c.args.slots.now in
    let counts = c.in_ok-counts.counts.items in
    let all : c.in_ok-standing.standing.items ≡ replicate (length ranked) true = c.in_ok-standing.ensures.items_if_clones_equal (λ y h. h) in
    let shown : c.deref-2.result.now ≡ counts = c.deref-2.ensures.value in
    let held : c.deref.result.now ≡ slots.owners.items = c.deref.ensures.value in
    rw (all, c.new-falls.ensures.items) record {
      waving = waving-start ranked slots.starts.items slots.owners.items c.args.offers.now c.requires.rising c.requires.slots counts c.in_ok-waiting.waiting.items c.requires.low
          (omega (arith, c.in_ok-counts.ensures.len, c.in_ok-counts.counts.ok.0, c.len.ensures, slots.owners.ok.0)) (λ slot h. c.in_ok-counts.ensures.counted slot (let low : slot < c.len.result = omega (arith, c.len.ensures, slots.owners.ok.0) in low))
          (rw (held, shown) at c.in_ok-waiting.ensures.each) (rw (held, shown) at c.in_ok-waiting.ensures.only);
      so_far = λ edges ends l. so-far-start ranked edges;
    }

pub falls_of-requires-clause-low : goal.falls_of-requires-clause-low
falls_of-requires-clause-low g c =
    let ranked = c.args.ranked.now in
    let slots = c.args.slots.now in
    let counts = c.loop-alloc.counts.items in
    let round = c.keep_round.new.waiting.items in
    let keeps : Keeps c.loop-alloc.standing.items c.loop-alloc.waiting.items round = rw c.deref-in-loop-alloc.ensures.value at c.keep_round.ensures.kept in
    let due = round-due slots.owners.items counts c.loop-alloc.standing.items c.loop-alloc.waiting.items round keeps c.loop-alloc.invariant.waving.due in
    rw c.deref-in-loop-alloc-4.ensures.value (λ k d low. due-low ranked slots.starts.items slots.owners.items c.args.offers.now c.requires.rising c.requires.slots counts (get_or round k d) (due k d low))

pub falls_of-requires-clause-within : goal.falls_of-requires-clause-within
falls_of-requires-clause-within g c =
    let ranked = c.args.ranked.now in
    let slots = c.args.slots.now in
    let counts = c.loop-alloc.counts.items in
    let round = c.keep_round.new.waiting.items in
    let keeps : Keeps c.loop-alloc.standing.items c.loop-alloc.waiting.items round = rw c.deref-in-loop-alloc.ensures.value at c.keep_round.ensures.kept in
    let due = round-due slots.owners.items counts c.loop-alloc.standing.items c.loop-alloc.waiting.items round keeps c.loop-alloc.invariant.waving.due in
    rw (c.deref-in-loop-alloc-2.ensures.value, c.deref-in-loop-alloc-3.ensures.value, c.deref-in-loop-alloc-4.ensures.value)
    (λ k d low.
    let most = due-within ranked slots.starts.items slots.owners.items c.args.offers.now c.requires.rising c.requires.slots counts (get_or round k d) (due k d low) in
    let len = c.loop-alloc.invariant.waving.counts_len in
    omega arith)

pub falls_of-requires-clause-empty : goal.falls_of-requires-clause-empty
falls_of-requires-clause-empty g c =
    let ranked = c.args.ranked.now in
    let slots = c.args.slots.now in
    let counts = c.loop-alloc.counts.items in
    let round = c.keep_round.new.waiting.items in
    let keeps : Keeps c.loop-alloc.standing.items c.loop-alloc.waiting.items round = rw c.deref-in-loop-alloc.ensures.value at c.keep_round.ensures.kept in
    let due = round-due slots.owners.items counts c.loop-alloc.standing.items c.loop-alloc.waiting.items round keeps c.loop-alloc.invariant.waving.due in
    rw (c.deref-in-loop-alloc-2.ensures.value, c.deref-in-loop-alloc-3.ensures.value, c.deref-in-loop-alloc-4.ensures.value)
    (λ k d low. due-empty ranked slots.starts.items slots.owners.items c.args.offers.now c.requires.rising c.requires.slots counts (get_or round k d) (due k d low))

pub loop-alloc-preserved : goal.loop-alloc-preserved
loop-alloc-preserved g c =
    let ranked = c.args.ranked.now in
    let slots = c.args.slots.now in
    let starts = slots.starts.items in
    let owners = slots.owners.items in
    let offers = c.args.offers.now in
    let standing = c.loop-alloc.standing.items in
    let counts = c.loop-alloc.counts.items in
    let waiting = c.loop-alloc.waiting.items in
    let round = c.keep_round.new.waiting.items in
    let counts' = c.drop_round.new.counts in
    let standing' = c.drop_round.new.standing in
    let waiting' = c.in_ok-waiting-2.waiting.items in
    let falls = c.loop-alloc.falls.items in
    let added = c.in_ok-round.round.items in
    let w = c.loop-alloc.invariant.waving in
    let keeps : Keeps standing waiting round = rw c.deref-in-loop-alloc.ensures.value at c.keep_round.ensures.kept in
    let are : AllZip (IsFallOf ranked starts counts) round added = rw (c.deref-in-loop-alloc-2.ensures.value, c.deref-in-loop-alloc-3.ensures.value, c.deref-in-loop-alloc-4.ensures.value) at c.in_ok-round.ensures in
    let shown_counts : c.deref_mut.result.now ≡ counts = c.deref_mut.ensures.value in
    let shown_standing : c.deref_mut-in-loop-alloc.result.now ≡ standing = c.deref_mut-in-loop-alloc.ensures.value in
    let shown_owners : c.deref-in-loop-alloc-6.result.now ≡ owners = c.deref-in-loop-alloc-6.ensures.value in
    let shown_round : c.deref-in-loop-alloc-7.result.now ≡ round = c.deref-in-loop-alloc-7.ensures.value in
    let fell : Fell standing standing' round = rw (shown_standing, shown_round) at c.in_ok-waiting-2.ensures.fell in
    let counted : Counted owners offers standing' counts' = rw shown_owners at c.in_ok-waiting-2.ensures.counted in
    let each : EachWaits owners counts counts' waiting' = rw (shown_owners, shown_counts) at c.in_ok-waiting-2.ensures.each in
    let only : All (IsUnfed owners counts') waiting' = rw shown_owners at c.in_ok-waiting-2.ensures.only in
    let counts_len : length counts' ≡ length counts = c.drop_round.auto.counts ∙ ap length shown_counts in
    let standing_len : length standing' ≡ length standing = c.drop_round.auto.standing ∙ ap length shown_standing in
    let all : c.extend_from_slice.new.self.items ≡ falls ++ added = c.in_ok-extend_from_slice.ensures.items ∙ ap (λ (l : List Fall). falls ++ l) c.deref-in-loop-alloc-5.ensures.value in
    rw (written-back counts counts' c.loop-alloc.counts.len (counts_len ∙ sym c.loop-alloc.counts.ok.0), all) record {
      waving =
          rw (written-back standing standing' c.loop-alloc.standing.len (standing_len ∙ sym c.loop-alloc.standing.ok.0))
          (waving-next ranked starts owners offers c.requires.rising c.requires.slots standing standing' counts counts' waiting waiting' round w keeps fell standing_len counts_len counted each only);
      so_far = λ edges ends l.
          rw (written-back standing standing' c.loop-alloc.standing.len (standing_len ∙ sym c.loop-alloc.standing.ok.0))
          (so-far-next ranked starts owners offers c.requires.rising c.requires.slots edges ends l standing counts waiting w falls (c.loop-alloc.invariant.so_far edges ends l) round c.keep_round.ensures.rising keeps added are standing' fell);
    }

pub returns : goal.returns
returns g c edges ends l =
    let ranked = c.args.ranked.now in
    let slots = c.args.slots.now in
    let waiting = c.loop-alloc.waiting in
    let len : waiting.len ≡ 0 = eqb-true waiting.len 0 (sym c.loop-alloc-test.ensures) in
    let none : length waiting.items ≡ 0 = omega (arith, waiting.ok.0) in
    all-rounds ranked slots.starts.items slots.owners.items c.args.offers.now c.requires.rising c.requires.slots edges ends l
    c.loop-alloc.standing.items c.loop-alloc.counts.items waiting.items c.loop-alloc.invariant.waving c.loop-alloc.falls.items (c.loop-alloc.invariant.so_far edges ends l) none

pub counts_of-requires : goal.counts_of-requires
counts_of-requires g c =
    let owners = c.args.slots.now.owners in
    let same : length owners.items ≡ c.len.result = sym (c.len.ensures ∙ owners.ok.0) in
    λ k d low. subst (λ n. (get_or c.args.offers.now k d).slot < n) same (c.requires.low k d low).1

pub unfed-requires : goal.unfed-requires
unfed-requires g c =
    let counts = c.in_ok-counts.counts in
    let owners = c.args.slots.now.owners in
    let same : length counts.items ≡ length owners.items = sym counts.ok.0 ∙ c.in_ok-counts.ensures.len ∙ c.len.ensures ∙ owners.ok.0 in
    ap length c.deref-2.ensures.value ∙ same ∙ sym (ap length c.deref.ensures.value)

pub falls_of-requires-clause-starts_len : goal.falls_of-requires-clause-starts_len
falls_of-requires-clause-starts_len g c = ap length c.deref-in-loop-alloc-2.ensures.value ∙ c.requires.slots.starts_len

pub drop_round-requires-clause-same_len : goal.drop_round-requires-clause-same_len
drop_round-requires-clause-same_len g c = ap length c.deref_mut.ensures.value ∙ c.loop-alloc.invariant.waving.counts_len ∙ sym (ap length c.deref-in-loop-alloc-6.ensures.value)

pub drop_round-requires-clause-low : goal.drop_round-requires-clause-low
drop_round-requires-clause-low g c k d low = subst (λ (owners : List ℕ). (get_or c.args.offers.now k d).slot < length owners) (sym c.deref-in-loop-alloc-6.ensures.value) (c.requires.low k d low).1

pub drop_round-requires-clause-grouped : goal.drop_round-requires-clause-grouped
drop_round-requires-clause-grouped g c = c.requires.grouped

pub drop_round-requires-clause-counted : goal.drop_round-requires-clause-counted
drop_round-requires-clause-counted g c = rw (c.deref_mut.ensures.value, c.deref_mut-in-loop-alloc.ensures.value, c.deref-in-loop-alloc-6.ensures.value) c.loop-alloc.invariant.waving.counted

pub drop_round-requires-clause-rising : goal.drop_round-requires-clause-rising
drop_round-requires-clause-rising g c = subst IsStrictlyIncreasing (sym c.deref-in-loop-alloc-7.ensures.value) c.keep_round.ensures.rising

pub drop_round-requires-clause-up : goal.drop_round-requires-clause-up
drop_round-requires-clause-up g c =
    let standing = c.loop-alloc.standing.items in
    let round = c.keep_round.new.waiting.items in
    let keeps : Keeps standing c.loop-alloc.waiting.items round = rw c.deref-in-loop-alloc.ensures.value at c.keep_round.ensures.kept in
    rw (c.deref_mut-in-loop-alloc.ensures.value, c.deref-in-loop-alloc-7.ensures.value) (λ k d low. ((keeps (get_or round k d)).0 (Contains-get_or round k d low)).1)
