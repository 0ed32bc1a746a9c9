use Rattle.std.proofs.Common.{◌≡◌, ◌<◌, ℕ, ◌++◌, List, drop, map, sym, ap, subst, ◌∙◌, arith}
use Rattle.cq_atom.specs.declared.edge.Edge.{Edge}
use Rattle.cq_board.specs.Named.{crowd_read}
use Rattle.cq_board.specs.Steps.Runs.{run_length, crowd_at}
use Rattle.cq_board.proofs.Crowds.{IsCounting, counting-starts, counting-continues, counting-ends, counting-waiter, first_is, none_is, run_length-le, run_length-some}
use Rattle.cq_board.proofs.ViewSeats.{as-many}
use Rattle.cq_board.proofs.views.crowds.Goals as goal

pub loop-first-init : goal.loop-first-init
loop-first-init g c pending named edges =
    subst (IsCounting pending c.args.edges.now) (sym (ap (map (crowd_read (λ name. name.now))) c.new-crowded.ensures.items))
    (counting-starts pending c.args.edges.now edges)

pub add_crowd-requires : goal.add_crowd-requires
add_crowd-requires g c =
    let many = as-many (λ name. name.now) c.args.names.now c.requires.0 c.requires.1 in
    subst (λ (n : ℕ). c.in-Some.first.now.waiter < n) many
    (counting-waiter c.requires.0 c.loop-first.rest.now (map (crowd_read (λ name. name.now)) c.loop-first.crowded.items) c.in-Some.first.now (drop 1 c.loop-first.rest.now)
    (first_is c.loop-first.rest.now c.in-Some.first.now (sym c.in-Some.ensures.value)) (c.loop-first.invariant c.requires.0 c.requires.1 c.requires.2))

pub split_at-requires : goal.split_at-requires
split_at-requires g c = rw c.run_length-providers.ensures (run_length-le c.in-Some.first.now c.loop-first.rest.now)

pub loop-first-smaller : goal.loop-first-smaller
loop-first-smaller g c =
    let some = run_length-some c.in-Some.first.now c.loop-first.rest.now (drop 1 c.loop-first.rest.now) (first_is c.loop-first.rest.now c.in-Some.first.now (sym c.in-Some.ensures.value)) in
    let counted = c.run_length-providers.ensures in
    let both = c.split_at.ensures.back_len in
    omega (arith, some, counted, both)

pub loop-first-preserved : goal.loop-first-preserved
loop-first-preserved g c pending named edges =
    let first = c.in-Some.first.now in
    let rest = c.loop-first.rest.now in
    let found = map (crowd_read (λ name. name.now)) c.loop-first.crowded.items in
    let counted = c.run_length-providers.ensures in
    let left : c.split_at.result.1.now ≡ drop (run_length first rest) rest = c.split_at.ensures.back ∙ ap (λ n. drop n rest) counted in
    let made = c.in_ok-add_crowd.ensures pending named ∙ ap (λ n. found ++ crowd_at pending first n) counted in
    subst (λ (es : List Edge). IsCounting pending es (map (crowd_read (λ name. name.now)) c.add_crowd.new.crowded.items)) (sym left)
    (subst (IsCounting pending (drop (run_length first rest) rest)) (sym made)
    (counting-continues pending rest found first (drop 1 rest) (first_is rest first (sym c.in-Some.ensures.value)) (c.loop-first.invariant pending named edges)))

pub returns : goal.returns
returns g c pending named edges =
    counting-ends pending c.loop-first.rest.now (map (crowd_read (λ name. name.now)) c.loop-first.crowded.items)
    (none_is c.loop-first.rest.now (sym c.in_default.ensures.value)) (c.loop-first.invariant pending named edges)
