use Rattle.std.proofs.Common.{arith, ◌≡◌, ℕ, ◌<◌, Bool, sym, ap, subst, ◌∙◌}
use Rattle.std.proofs.lemmas.List.{get_or_read, get_or-map}
use Rattle.cq_match.proofs.Offered.{posts-of, within-slots}
use Rattle.std.specs.List.{Any, Contains}
use Rattle.cq_match.specs.Matched.{numbers}
use Rattle.cq_match.proofs.Ranks.{Nodes, length-numbers}
use Rattle.cq_match.proofs.matched.offer_of.Goals as goal

pub overflow_add-result : goal.overflow_add-result
overflow_add-result g c =
    let ranked = c.args.ranked.now in
    let starts = c.args.slots.now.starts.items in
    let waiter = c.place_of-waiter.result in
    let post = c.args.edge.post in
    let has = posts-of ranked c.requires.rising c.args.edge.waiter post waiter c.place_of-waiter.ensures.low c.place_of-waiter.ensures.found c.requires.waiter in
    let held = c.requires.slots.slot_low waiter post c.place_of-waiter.ensures.low (within-slots ranked waiter post has) in
    let len = c.requires.slots.starts_len in
    let low = c.place_of-waiter.ensures.low in
    let start = get_or_read starts waiter c.index.result.now (omega arith) c.index.ensures 0 in
    let from = c.from.ensures in
    let owners = c.args.slots.now.owners in
    omega (arith, owners.ok.0, owners.small)

pub returns : goal.returns
returns g c =
    let ranked = c.args.ranked.now in
    let starts = c.args.slots.now.starts.items in
    let waiter = c.place_of-waiter.result in
    let post = c.args.edge.post in
    let low = c.place_of-waiter.ensures.low in
    let len = c.requires.slots.starts_len in
    record {
      waiter = waiter;
      provider_low = c.place_of.ensures.low;
      provider_is = c.place_of.ensures.found;
      waiter_low = low;
      waiter_is = c.place_of-waiter.ensures.found;
      post_low = posts-of ranked c.requires.rising c.args.edge.waiter post waiter low c.place_of-waiter.ensures.found c.requires.waiter;
      slot_is =
          let start = get_or_read starts waiter c.index.result.now (omega arith) c.index.ensures 0 in
          let from = c.from.ensures in
          omega arith;
    }

-- a node of the list has its number there
number-known : (ranked : Nodes) (waiter post : ℕ) → Any (λ (node : ℕ × ℕ × Bool). (node.0 ≡ waiter) × (post < node.1)) ranked → Contains (numbers ranked) waiter
number-known ranked waiter post (k, node, low, at, (is, has)) =
    (k, subst (λ (n : ℕ). k < n) (sym (length-numbers ranked)) low, get_or-map (λ node. node.0) ranked k node waiter low ∙ ap (λ (n : ℕ × ℕ × Bool). n.0) at ∙ is)

pub place_of-waiter-requires-clause-rising : goal.place_of-waiter-requires-clause-rising
place_of-waiter-requires-clause-rising g c = c.requires.rising

pub place_of-waiter-requires-clause-known : goal.place_of-waiter-requires-clause-known
place_of-waiter-requires-clause-known g c = number-known c.args.ranked.now c.args.edge.waiter c.args.edge.post c.requires.waiter

pub place_of-requires-clause-rising : goal.place_of-requires-clause-rising
place_of-requires-clause-rising g c = c.requires.rising

pub place_of-requires-clause-known : goal.place_of-requires-clause-known
place_of-requires-clause-known g c = c.requires.provider

pub index-requires : goal.index-requires
index-requires g c = omega (arith, c.place_of-waiter.ensures.low, c.requires.slots.starts_len, c.args.slots.now.starts.ok.0)
