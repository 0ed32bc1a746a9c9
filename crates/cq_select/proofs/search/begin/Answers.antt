use Rattle.std.proofs.Common.{◌≡◌, ℕ, false, None, [], replicate, nat_eq, refl, ap, ◌∙◌, arith}
use Rattle.std.specs.HashMap.{get}
use Rattle.cq_select.specs.Selection.{member_count}
use Rattle.cq_select.specs.Steps.Facts.{chosen_of}
use Rattle.cq_select.proofs.Beginning.{seats-none, dead-none, lost-none, met-none}
use Rattle.cq_select.proofs.search.begin.Goals as goal

pub returns : goal.returns
returns g c wanted =
    let supply = c.args.supply.now in
    let all : c.in_ok-dead.dead.items ≡ replicate c.len.result false = c.in_ok-dead.ensures.items_if_clones_equal (λ y h. h) in
    let count : c.len.result ≡ member_count supply = c.len.ensures ∙ supply.members.ok.0 in
    let none : (owner : ℕ) → get nat_eq c.new-3.result owner ≡ None = λ owner. rw c.new-3.ensures.empty refl in
    let chosen : chosen_of c.new-2.result.items ≡ [] = ap chosen_of c.new-2.ensures.items in
    record {
      trail_is = record {
        frames = rw c.new-2.ensures.items tt;
        seats = rw chosen (seats-none supply (get nat_eq c.new-3.result) none);
        dead = dead-none supply wanted c.in_ok-dead.dead.items c.len.result all count;
        lost = lost-none supply wanted c.in_ok-lost.lost.items c.len-2.result (c.in_ok-lost.ensures.items_if_clones_equal (λ y h. h));
      };
      low = omega arith;
      met = rw chosen (met-none supply wanted);
      fresh = refl;
      clear = c.new.ensures.items;
    }
