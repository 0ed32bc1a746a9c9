use Rattle.std.proofs.Common.{◌≡◌, ℕ, ◌+◌, Bool, true, false, nat_eq, filter, List, set, sym, ap, ◌∙◌, refl, arith, vec_capacity}
use Rattle.std.specs.Set.{is_member}
use Rattle.cq_match.specs.Matched.{numbers}
use Rattle.cq_match.specs.Matcher.{MatcherRecord, has_node, is_apart}
use Rattle.cq_match.specs.Steps.Kept.{place_at}
use Rattle.cq_match.proofs.Bridge.{number-taken, exact-is}
use Rattle.cq_match.proofs.Placing.{placed-kept, same-edges_from}
use Rattle.cq_match.proofs.Coming.{placed-node, placed-others, absent-apart}
use Rattle.cq_match.proofs.matcher.Matcher.put.Goals as goal

pub invariant_of-self : goal.invariant_of-self
invariant_of-self g c = c.make_room.ensures.kept c.self.inside.number c.self.inside.next c.self.invariant

pub invariant_of-self-in_err-totals : goal.invariant_of-self-in_err-totals
invariant_of-self-in_err-totals g c = c.make_room.ensures.kept c.self.inside.number c.self.inside.next c.self.invariant

pub invariant_of-self-in_err-counts : goal.invariant_of-self-in_err-counts
invariant_of-self-in_err-counts g c = c.make_room.ensures.kept c.self.inside.number c.self.inside.next c.self.invariant

pub index_mut-requires-2 : goal.index_mut-requires-2
index_mut-requires-2 g c =
    let k = c.make_room.ensures.kept c.self.inside.number c.self.inside.next c.self.invariant in
    let low = c.in_ok-make_room.ensures.placed in
    let len = k.totals_len in
    omega (arith, c.make_room.new.graph.totals.ok.0)

pub index_mut-requires-3 : goal.index_mut-requires-3
index_mut-requires-3 g c =
    let k = c.make_room.ensures.kept c.self.inside.number c.self.inside.next c.self.invariant in
    let low = c.in_ok-make_room.ensures.placed in
    let len = k.settled.counting.counts_len in
    omega (arith, c.make_room.new.marks.counts.ok.0)

kept-now : goal.invariant_of-self-2
kept-now g c =
    let i = c.self.inside in
    let node = c.args.node in
    let graph = c.make_room.new.graph in
    let m = c.make_room.new.marks in
    let k = c.make_room.ensures.kept i.number i.next c.self.invariant in
    let vacant : (place_at graph.places.items node).taken ≡ false =
    sym (number-taken graph.places.items node) ∙ ap (λ (ns : List (ℕ × ℕ × Bool)). is_member nat_eq (numbers ns) node) c.make_room.ensures.nodes ∙ ap (λ (r : MatcherRecord). has_node node r) c.self.view_is ∙ c.requires in
    rw (c.replace.ensures.after, c.replace-2.ensures.after, c.in_ok-totals.ensures, c.in_ok-counts.ensures)
    (placed-kept graph.places.items node c.args.posts i.next c.in_ok-make_room.ensures.placed vacant graph.leaving.items graph.totals.items m.matched.items m.raised.items m.counts.items m.waiting.items m.reached.items (vec_capacity m.waiting) i.number k)

pub invariant_of-self-2 : goal.invariant_of-self-2
invariant_of-self-2 g c = kept-now g c

pub returns-clause-exact : goal.returns-clause-exact
returns-clause-exact g c =
    let i = c.self.inside in
    let graph = c.make_room.new.graph in
    let m = c.make_room.new.marks in
    exact-is (set graph.places.items c.args.node (record { taken = true; able = false; posts = c.args.posts; stamp = i.next })) graph.leaving.items (set graph.totals.items c.args.node c.replace.new.dest) m.matched.items m.raised.items
    (set m.counts.items c.args.node c.replace-2.new.dest) m.waiting.items m.reached.items (vec_capacity m.waiting) i.number (i.next + 1) (kept-now g c)

pub returns-clause-node : goal.returns-clause-node
returns-clause-node g c =
    placed-node c.make_room.new.graph.places.items c.args.node (record { taken = true; able = false; posts = c.args.posts; stamp = c.self.inside.next }) c.in_ok-make_room.ensures.placed refl

pub returns-clause-others : goal.returns-clause-others
returns-clause-others g c =
    let node = c.args.node in
    let places = c.make_room.new.graph.places.items in
    let vacant : (place_at places node).taken ≡ false =
    sym (number-taken places node) ∙ ap (λ (ns : List (ℕ × ℕ × Bool)). is_member nat_eq (numbers ns) node) c.make_room.ensures.nodes ∙ ap (λ (r : MatcherRecord). has_node node r) c.self.view_is ∙ c.requires in
    placed-others places node (record { taken = true; able = false; posts = c.args.posts; stamp = c.self.inside.next }) vacant ∙ c.make_room.ensures.nodes ∙ ap (λ (r : MatcherRecord). r.nodes) c.self.view_is

pub returns-clause-edges : goal.returns-clause-edges
returns-clause-edges g c =
    let i = c.self.inside in
    let node = c.args.node in
    let graph = c.make_room.new.graph in
    let k = c.make_room.ensures.kept i.number i.next c.self.invariant in
    let vacant : (place_at graph.places.items node).taken ≡ false =
    sym (number-taken graph.places.items node) ∙ ap (λ (ns : List (ℕ × ℕ × Bool)). is_member nat_eq (numbers ns) node) c.make_room.ensures.nodes ∙ ap (λ (r : MatcherRecord). has_node node r) c.self.view_is ∙ c.requires in
    same-edges_from graph.places.items node c.args.posts i.next c.in_ok-make_room.ensures.placed vacant graph.leaving.items 0 k.outs_older ∙ c.make_room.ensures.edges ∙ ap (λ (r : MatcherRecord). r.edges) c.self.view_is

pub returns-clause-apart : goal.returns-clause-apart
returns-clause-apart g c =
    let i = c.self.inside in
    let node = c.args.node in
    let graph = c.make_room.new.graph in
    let k = c.make_room.ensures.kept i.number i.next c.self.invariant in
    let vacant : (place_at graph.places.items node).taken ≡ false =
    sym (number-taken graph.places.items node) ∙ ap (λ (ns : List (ℕ × ℕ × Bool)). is_member nat_eq (numbers ns) node) c.make_room.ensures.nodes ∙ ap (λ (r : MatcherRecord). has_node node r) c.self.view_is ∙ c.requires in
    ap (filter (is_apart node)) (same-edges_from graph.places.items node c.args.posts i.next c.in_ok-make_room.ensures.placed vacant graph.leaving.items 0 k.outs_older)
    ∙ absent-apart graph.places.items node graph.leaving.items vacant (k.free_leaving node vacant) ∙ c.make_room.ensures.edges ∙ ap (λ (r : MatcherRecord). r.edges) c.self.view_is
