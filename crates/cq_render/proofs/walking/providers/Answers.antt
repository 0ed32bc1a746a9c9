use Rattle.std.proofs.Common.{◌==◌, ◌∙◌, List, filter, ap}
use Rattle.cq_atom.specs.declared.edge.Edge.{Edge}
use Rattle.cq_board.specs.Edges.{edges_of}
use Rattle.cq_board.proofs.CallerLemmas.{edges-grouped}
use Rattle.cq_render.proofs.Explained.{filter_both}
use Rattle.cq_render.proofs.Ordered.{posts-grouped}
use Rattle.cq_render.proofs.walking.providers.Goals as goal

pub edges_into-requires : goal.edges_into-requires
edges_into-requires g c =
    let listing = c.args.listing.now in
    rw (c.deref.ensures.value, listing.listed) (edges-grouped listing.board.now.pending)

pub edges_at-requires : goal.edges_at-requires
edges_at-requires g c =
    let listing = c.args.listing.now in
    rw (c.edges_into.ensures, c.deref.ensures.value, listing.listed) (posts-grouped listing.board.now.pending c.args.waiter)

pub returns : goal.returns
returns g c =
    let listing = c.args.listing.now in
    let edges = edges_of listing.board.now.pending in
    c.edges_at.ensures
    ∙ ap (λ (es : List Edge). filter (λ edge. edge.post == c.args.post) es) (c.edges_into.ensures ∙ ap (λ (es : List Edge). filter (λ edge. edge.waiter == c.args.waiter) es) (c.deref.ensures.value ∙ listing.listed))
    ∙ filter_both (λ (edge : Edge). edge.waiter == c.args.waiter) (λ edge. edge.post == c.args.post) edges
