use Rattle.std.proofs.Common.{nat_eq, sym, subst, ap, ◌∙◌}
use Rattle.std.specs.List.{IsDistinct}
use Rattle.cq_board.specs.Edges.{edges_of}
use Rattle.cq_board.specs.Steps.Stores.{StoresRecord, pending_of}
use Rattle.cq_board.proofs.Shows.{seats-read, shown-edges}
use Rattle.cq_board.proofs.Stored.{content_of, same-stores}
use Rattle.cq_board.proofs.showing.edges_by_place.Goals as goal

pub returns : goal.returns
returns g c rows stores =
    let old = content_of c.stores.inside in
    let kept = same-stores c.stores.view_is stores in
    let read = seats-read c.deref.result.now c.in_ok-seats.seats.items (λ s. s.now) old.seats c.deref.ensures.value c.in_ok-seats.ensures in
    let places = c.in_ok-places.ensures (subst (IsDistinct nat_eq) (sym read) kept.roster.places) in
    shown-edges old rows kept c.in_ok-places.places.keys (places ∙ read) c.in_ok-edges.edges.items c.sort_edges.new.edges.items c.in_ok-edges.ensures c.sort_edges.ensures.permutation c.sort_edges.ensures.sorted
    ∙ ap (λ (s : StoresRecord). edges_of (pending_of s)) c.stores.view_is
