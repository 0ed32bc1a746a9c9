use Rattle.std.proofs.Common.{◌*◌, ap, subst, sym, ◌∙◌, length, arith}
use Rattle.std.specs.List.{slice_get}
use Rattle.std.specs.FinMap.{remove}
use Rattle.cq_atom.specs.declared.limits.TheConstants.{MAX_ATOMS}
use Rattle.cq_links.specs.Links.{ends_of}
use Rattle.cq_links.specs.Steps.Blocks.{TakesBlock}
use Rattle.cq_links.specs.Steps.Kept.{IsKept}
use Rattle.cq_links.proofs.Kept.{kept_of, seen, kept_seen, kept_removed, heads_here, posts_here}
use Rattle.cq_links.proofs.links.Links.remove.Goals as goal

pub take_all-requires-clause-fits : goal.take_all-requires-clause-fits
take_all-requires-clause-fits g c =
    let m = c.args.self.now in
    let kept = kept_of m c.self.inside.heads c.self.inside.posts c.self.view_is c.self.invariant in
    (kept.keys c.args.place (ends_of c.args.query.now) c.requires).low

pub take_all-requires-clause-there : goal.take_all-requires-clause-there
take_all-requires-clause-there g c i low =
    let m = c.args.self.now in
    let kept = kept_of m c.self.inside.heads c.self.inside.posts c.self.view_is c.self.invariant in
    heads_here m c.args.place (ends_of c.args.query.now) c.self.inside.heads c.self.inside.posts c.self.inside.heads c.self.inside.posts kept c.requires i (let few = c.heads.ensures.few in omega arith)
    ∙ ap (λ xs. slice_get xs i) (sym c.heads.ensures.value)

pub take_all-requires-2-clause-fits : goal.take_all-requires-2-clause-fits
take_all-requires-2-clause-fits g c =
    let m = c.args.self.now in
    let kept = kept_of m c.self.inside.heads c.self.inside.posts c.self.view_is c.self.invariant in
    (kept.keys c.args.place (ends_of c.args.query.now) c.requires).low

pub take_all-requires-2-clause-there : goal.take_all-requires-2-clause-there
take_all-requires-2-clause-there g c i low =
    let m = c.args.self.now in
    let kept = kept_of m c.self.inside.heads c.self.inside.posts c.self.view_is c.self.invariant in
    posts_here m c.args.place (ends_of c.args.query.now) c.self.inside.heads c.self.inside.posts c.self.inside.heads c.self.inside.posts kept c.requires i (let few = c.posts.ensures.few in omega arith)
    ∙ ap (λ xs. slice_get xs i) (sym c.posts.ensures.value)

pub kept_after : (g : _) (c : goal.After-take_all-2 g) → IsKept (remove c.args.self.now c.args.place) c.take_all.new.index c.take_all-2.new.index
kept_after g c =
    let m = c.args.self.now in
    let kept = kept_of m c.self.inside.heads c.self.inside.posts c.self.view_is c.self.invariant in
    kept_removed m c.args.place (ends_of c.args.query.now) c.self.inside.heads c.self.inside.posts c.take_all.new.index c.take_all-2.new.index kept c.requires
    (subst (λ xs. TakesBlock (c.args.place * MAX_ATOMS) (length xs) c.self.inside.heads c.take_all.new.index) c.heads.ensures.value c.take_all.ensures)
    (subst (λ xs. TakesBlock (c.args.place * MAX_ATOMS) (length xs) c.self.inside.posts c.take_all-2.new.index) c.posts.ensures.value c.take_all-2.ensures)

pub invariant_of-self : goal.invariant_of-self
invariant_of-self g c = kept_seen (remove c.args.self.now c.args.place) c.take_all.new.index c.take_all-2.new.index (kept_after g c)

pub returns : goal.returns
returns g c = seen (remove c.args.self.now c.args.place) c.take_all.new.index c.take_all-2.new.index (kept_after g c)
