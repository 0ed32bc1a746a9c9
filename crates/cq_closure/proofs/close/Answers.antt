use Rattle.cq_closure.proofs.Reaching.{closing-on, reached-less, reached-providers}
use Rattle.cq_closure.proofs.close.Goals as goal

pub loop-waiter-preserved : goal.loop-waiter-preserved
loop-waiter-preserved g c =
    let edges = c.args.edges.now in
    let so_far = c.loop-waiter.reach in
    let new = c.take_providers.new.reach in
    let waiter = c.in-Some.waiter in
    let rest = c.pop.new.self.items in
    let takes = c.in_ok-take_providers.ensures.takes in
    record {
      kept = λ n f. takes.kept n (c.loop-waiter.invariant.kept n f);
      closed = λ may start.
          closing-on edges may so_far.spare.items so_far.left.items waiter rest new.spare.items new.left.items c.edges_into.result.now c.in-Some.ensures.items c.edges_into.ensures takes
          c.in_ok-take_providers.ensures.taken (c.loop-waiter.invariant.closed may start);
      only = λ may first start.
          let are = c.loop-waiter.invariant.only may first start in
          c.in_ok-take_providers.ensures.only edges may first
          (reached-providers edges may first so_far.spare.items so_far.left.items rest waiter c.in-Some.ensures.items are c.edges_into.result.now c.edges_into.ensures)
          (reached-less edges may first so_far.spare.items so_far.left.items rest waiter c.in-Some.ensures.items are);
    }
