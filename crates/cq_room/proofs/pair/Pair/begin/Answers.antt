use Rattle.std.proofs.Common.{◌∷◌, [], ap, sym, ◌∙◌}
use Rattle.cq_room.proofs.Marked.{accepted_none}
use Rattle.cq_room.proofs.Settled.{leaves-none, paired-new}
use Rattle.cq_room.proofs.pair.Pair.begin.Goals as goal

pub over-first-requires : goal.over-first-requires
over-first-requires g c = let none = c.again.ensures ∙ c.requires.trail in record {
  leaves = leaves-none g.L.Live.after g.N.RoomName.opening c.again.result (g.L.Live.content c.args.first) none c.requires.opening;
  accepted = accepted_none g.L.Live.after g.L.Live.why g.N.RoomName.opening c.again.result none;
}

pub over-second-requires : goal.over-second-requires
over-second-requires g c = let none = c.again-2.ensures ∙ c.requires.trail in record {
  leaves = leaves-none g.L.Live.after g.N.RoomName.opening c.again-2.result (g.L.Live.content c.args.second) none (c.requires.opening ∙ ap (λ (z : g.row.L-Content.Denot). z ∷ []) (sym c.requires.alike));
  accepted = accepted_none g.L.Live.after g.L.Live.why g.N.RoomName.opening c.again-2.result none;
}

pub invariant_of-result : goal.invariant_of-result
invariant_of-result g c = let e = c.in_ok-copies.ensures in
    paired-new g.N.RoomName.opening (g.L.Live.content c.args.first) c.in_ok-copies.copies.shown c.over-first.result c.in_ok-copies.copies.pending c.again.result c.args.trail
    c.requires.opening e.0 c.over-first.ensures.0 c.again.ensures c.requires.trail e.1
