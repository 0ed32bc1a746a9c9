use Rattle.std.proofs.Common.{◌≡◌, ◌↔◌, ◌+◌, ◌*◌, ◌<◌, ◌≤◌, min, Contains, length, ap, subst, sym, ◌∙◌, arith}
use Rattle.std.specs.FinMap.{insert}
use Rattle.cq_atom.specs.declared.limits.TheConstants.{MAX_ATOMS}
use Rattle.cq_links.specs.Links.{LinkMap, ends_of, IsLink, Touches, candidate_pairs}
use Rattle.cq_links.specs.Steps.Blocks.{PutsBlock, TakesBlock}
use Rattle.cq_links.specs.Steps.Asking.{pairs_tested}
use Rattle.cq_links.specs.Steps.Kept.{links_of, IsKept}
use Rattle.cq_links.proofs.Outcomes.{if_ok, on_ok, on_err, from_ok, from_err}
use Rattle.cq_links.proofs.Kept.{kept_of, seen, kept_seen, kept_added, free_heads, free_posts, has_keys, undone_heads}
use Rattle.cq_links.proofs.Linked.{exact, once}
use Rattle.cq_links.proofs.Counted.{pairs_counted}
use Rattle.cq_links.proofs.links.Links.add.Goals as goal

pub put_all-requires-clause-free : goal.put_all-requires-clause-free
put_all-requires-clause-free g c i low =
    let m = c.args.self.now in
    let kept = kept_of m c.self.inside.heads c.self.inside.posts c.self.view_is c.self.invariant in
    free_heads m c.args.place (ends_of c.args.query.now) c.self.inside.heads c.self.inside.posts c.self.inside.heads c.self.inside.posts kept c.requires i (let few = c.heads.ensures.few in omega arith)

pub link-linked-requires-clause-free : goal.link-linked-requires-clause-free
link-linked-requires-clause-free g c =
    let m = c.args.self.now in
    let kept = kept_of m c.self.inside.heads c.self.inside.posts c.self.view_is c.self.invariant in
    free_posts m c.args.place (ends_of c.args.query.now) c.self.inside.heads c.self.inside.posts c.self.inside.heads c.self.inside.posts kept c.requires

-- a failed allocation: the heads are out again
kept_before : (g : _) (c : goal.After-take_all g) → IsKept c.args.self.now c.take_all.new.index c.link-linked.new.posts
kept_before g c =
    let m = c.args.self.now in
    let kept = kept_of m c.self.inside.heads c.self.inside.posts c.self.view_is c.self.invariant in
    let is_heads = c.heads.ensures.value in
    let free = free_heads m c.args.place (ends_of c.args.query.now) c.self.inside.heads c.self.inside.posts c.self.inside.heads c.self.inside.posts kept c.requires in
    let puts : PutsBlock (c.args.place * MAX_ATOMS) c.args.query.now.heads c.self.inside.heads c.put_all.new.index = subst (λ xs. PutsBlock (c.args.place * MAX_ATOMS) xs c.self.inside.heads c.put_all.new.index) c.heads.ensures.value c.in_ok-put_all.ensures.ok in
    let takes : TakesBlock (c.args.place * MAX_ATOMS) (length c.args.query.now.heads) c.put_all.new.index c.take_all.new.index = subst (λ xs. TakesBlock (c.args.place * MAX_ATOMS) (length xs) c.put_all.new.index c.take_all.new.index) c.heads-then-is_err.ensures.value c.take_all.ensures in
    let few : length c.args.query.now.heads ≤ MAX_ATOMS = subst (λ xs. length xs ≤ MAX_ATOMS) c.heads.ensures.value c.heads.ensures.few in
    let heads : c.take_all.new.index ≡ c.self.inside.heads = undone_heads c.args.place c.args.query.now.heads c.self.inside.heads c.put_all.new.index c.take_all.new.index few free puts takes in
    let posts : c.link-linked.new.posts ≡ c.self.inside.posts = from_err c.link-linked.result (sym c.is_err.ensures.value ∙ c.if-is_err.true) c.link-linked.ensures.err in
    subst (λ x. IsKept m x c.link-linked.new.posts) (sym heads) (subst (λ x. IsKept m c.self.inside.heads x) (sym posts) kept)

pub invariant_of-self-then-is_err : goal.invariant_of-self-then-is_err
invariant_of-self-then-is_err g c = kept_seen c.args.self.now c.take_all.new.index c.link-linked.new.posts (kept_before g c)

pub returns-then-is_err-clause-err : goal.returns-then-is_err-clause-err
returns-then-is_err-clause-err g c = on_err c.link-linked.result (seen c.args.self.now c.take_all.new.index c.link-linked.new.posts (kept_before g c))

-- all is in
kept_after : (g : _) (c : goal.Else-is_err g) → IsKept (insert c.args.self.now c.args.place (ends_of c.args.query.now)) c.put_all.new.index c.link-linked.new.posts
kept_after g c =
    let m = c.args.self.now in
    let ends = ends_of c.args.query.now in
    let kept = kept_of m c.self.inside.heads c.self.inside.posts c.self.view_is c.self.invariant in
    let done = sym c.is_err.ensures.value ∙ c.if-is_err.false in
    let few : length c.args.query.now.heads ≤ MAX_ATOMS = subst (λ xs. length xs ≤ MAX_ATOMS) c.heads.ensures.value c.heads.ensures.few in
    let some : 1 ≤ length c.args.query.now.heads = subst (λ xs. 1 ≤ length xs) c.heads.ensures.value c.heads.ensures.some in
    let few_posts : length c.args.query.now.posts ≤ MAX_ATOMS = from_ok c.link-linked.result done c.link-linked.ensures.few in
    let low : c.args.place * MAX_ATOMS + MAX_ATOMS < 18446744073709551616 = omega (arith, c.if-place-ge-PLACES.false) in
    let puts : PutsBlock (c.args.place * MAX_ATOMS) c.args.query.now.heads c.self.inside.heads c.put_all.new.index = subst (λ xs. PutsBlock (c.args.place * MAX_ATOMS) xs c.self.inside.heads c.put_all.new.index) c.heads.ensures.value c.in_ok-put_all.ensures.ok in
    kept_added m c.args.place ends c.self.inside.heads c.self.inside.posts c.put_all.new.index c.link-linked.new.posts kept c.requires (has_keys c.args.place ends low some few few_posts) puts (from_ok c.link-linked.result done c.link-linked.ensures.ok)

pub invariant_of-self-else-is_err : goal.invariant_of-self-else-is_err
invariant_of-self-else-is_err g c = kept_seen (insert c.args.self.now c.args.place (ends_of c.args.query.now)) c.put_all.new.index c.link-linked.new.posts (kept_after g c)

pub returns-else-is_err-clause-ok : goal.returns-else-is_err-clause-ok
returns-else-is_err-clause-ok g c = on_ok c.link-linked.result (seen (insert c.args.self.now c.args.place (ends_of c.args.query.now)) c.put_all.new.index c.link-linked.new.posts (kept_after g c))

pub returns-else-is_err-clause-exact : goal.returns-else-is_err-clause-exact
returns-else-is_err-clause-exact g c =
    let m = c.args.self.now in
    let after = insert m c.args.place (ends_of c.args.query.now) in
    let kept = kept_of m c.self.inside.heads c.self.inside.posts c.self.view_is c.self.invariant in
    let is : links_of c.put_all.new.index c.link-linked.new.posts ≡ after = seen after c.put_all.new.index c.link-linked.new.posts (kept_after g c) in
    if_ok c.link-linked.result (λ edges both edge.
    subst (λ (x : LinkMap). Contains edges.items edge ↔ (IsLink x edge × Touches c.args.place edge)) (sym is)
    (exact m c.args.place (ends_of c.args.query.now) c.self.inside.heads c.self.inside.posts c.put_all.new.index c.link-linked.new.posts c.requires kept (kept_after g c) edges.items both edge)) c.link-linked.ensures.edges

pub returns-else-is_err-clause-once : goal.returns-else-is_err-clause-once
returns-else-is_err-clause-once g c =
    let m = c.args.self.now in
    let kept = kept_of m c.self.inside.heads c.self.inside.posts c.self.view_is c.self.invariant in
    if_ok c.link-linked.result (λ edges both. once m c.args.place (ends_of c.args.query.now) c.self.inside.heads c.self.inside.posts c.put_all.new.index c.link-linked.new.posts c.requires kept (kept_after g c) edges.items both) c.link-linked.ensures.edges

pub returns-else-is_err-clause-ticks : goal.returns-else-is_err-clause-ticks
returns-else-is_err-clause-ticks g c =
    let m = c.args.self.now in
    let kept = kept_of m c.self.inside.heads c.self.inside.posts c.self.view_is c.self.invariant in
    let all : pairs_tested c.args.query.now.posts c.args.query.now.heads c.put_all.new.index c.self.inside.posts ≡ candidate_pairs m c.args.place (ends_of c.args.query.now) =
    pairs_counted m c.args.place (ends_of c.args.query.now) c.self.inside.heads c.self.inside.posts c.put_all.new.index c.link-linked.new.posts kept (kept_after g c) in
    on_ok c.link-linked.result (from_ok c.link-linked.result (sym c.is_err.ensures.value ∙ c.if-is_err.false) c.link-linked.ensures.ticks ∙ ap (λ n. min (c.args.tests.now + n) 18446744073709551615) all)
