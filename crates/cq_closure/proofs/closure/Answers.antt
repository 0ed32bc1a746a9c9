use Rattle.std.proofs.Common.{◌≡◌, ◌∙◌, ℕ, List, [], Bool, sym, ap, subst, Result, Ok, Err}
use Rattle.std.specs.Prelude.{IfOk}
use Rattle.cq_closure.specs.Steps.Reach.{is_taken, Takes, IsClosing, AreReached}
use Rattle.cq_closure.proofs.Reaching.{closing-starts, reached-ends, reached-starts, set-low, taken-all}
use Rattle.cq_closure.proofs.closure.Goals as goal

both : {X Y : Type 0} (r : Result X Y) (P Q R : X → Type 0) → ((x : X) → P x → Q x → R x) → IfOk r P → IfOk r Q → IfOk r R
both (Ok x) P Q R f p q = f x p q
both (Err e) P Q R f p q = tt

pub returns-clause-reached : goal.returns-clause-reached
returns-clause-reached g c =
    let edges = c.args.edges.now in
    let may = c.args.may.now in
    let first = c.args.first.now in
    let seeds = c.take_first.new.reach in
    let spare : List Bool = c.close.new.reach.spare.items in
    let is : c.deref.result.now ≡ spare = c.deref.ensures.value in
    let begun : c.in_ok-from_slice.field-0.items ≡ may = c.in_ok-from_slice.ensures.items in
    let none : c.new.result.items ≡ [] = c.new.ensures.items in
    let takes : Takes may c.new.result.items seeds.spare.items seeds.left.items = subst (λ (flags : List Bool). Takes flags c.new.result.items seeds.spare.items seeds.left.items) begun c.in_ok-take_first.ensures.takes in
    let start : AreReached edges may first c.in_ok-from_slice.field-0.items c.new.result.items =
    subst (λ (left : List ℕ). AreReached edges may first c.in_ok-from_slice.field-0.items left) (sym none)
    (subst (λ (flags : List Bool). AreReached edges may first flags []) (sym begun) (reached-starts edges may first)) in
    let closed : IsClosing edges may spare [] = c.in_ok-close.ensures.closed may (closing-starts edges may seeds.spare.items c.new.result.items seeds.left.items takes) in
    let are = c.in_ok-close.ensures.only may first (c.in_ok-take_first.ensures.only edges may start) in
    both c.taken.result _ _ _
    (λ flags long each.
    reached-ends edges may first flags.items spare c.close.new.reach.left.items
    (taken-all may spare flags.items long (λ n low. each n low ∙ ap (λ (flags : List Bool). is_taken may flags n) is))
    (λ n f. c.in_ok-close.ensures.kept n (c.in_ok-take_first.ensures.taken n (set-low first n f) f)) closed are)
    c.taken.ensures.long c.taken.ensures.each
