use Rattle.std.proofs.Common.{◌≡◌, [], None, ap, sym, ◌∙◌, subst}
use Rattle.cq_desk.specs.History.{grown}
use Rattle.cq_room.specs.Marks.{fresh_in}
use Rattle.cq_room.specs.Steps.Pair.{IsPaired}
use Rattle.cq_room.proofs.Marked.{prefix_publications}
use Rattle.cq_room.proofs.Pairs.{opening_same, paired_after}
use Rattle.cq_room.proofs.Settled.{paired-ended}
use Rattle.cq_room.proofs.pair.PairPublisher.publish.Goals as goal

pub invariant_of-self-2 : goal.invariant_of-self-2
invariant_of-self-2 g c = let old = c.self.inside in let mid = c.end.new in let os = g.N.RoomName.opening in
    let p : IsPaired os mid.copies.shown.content mid.copies.shown.marks old.copies.pending old.waiting old.trail = subst (λ t. IsPaired os t.content t.marks old.copies.pending old.waiting old.trail) (sym c.end.ensures.same) c.self.invariant in
    let none : mid.waiting ≡ None = c.in_ok-end.ensures.ended.0 in
    let fresh : fresh_in mid.trail ≡ [] = c.in_ok-end.ensures.ended.1 in
    paired_after os mid.copies.shown c.publish.new.self.shown old.copies.pending mid.copies.pending c.publish.new.self.pending old.waiting mid.waiting old.trail mid.trail p c.end.ensures.begins c.end.ensures.ends none fresh c.publish.result c.publish.ensures.values

pub returns-in_err-end-clause-begins : goal.returns-in_err-end-clause-begins
returns-in_err-end-clause-begins g c = rw (← c.self.view_is) (prefix_publications c.self.inside.trail c.end.new.trail c.end.ensures.begins)

pub returns-clause-begins : goal.returns-clause-begins
returns-clause-begins g c = rw (← c.self.view_is) (prefix_publications c.self.inside.trail c.end.new.trail c.end.ensures.begins)

pub invariant_of-self : goal.invariant_of-self
invariant_of-self g c = let old = c.self.inside in let mid = c.end.new in let e = c.in_err-end.ensures in
    paired-ended g.N.RoomName.opening old.copies.shown mid.copies.shown old.copies.pending mid.copies.pending old.waiting mid.waiting old.trail mid.trail e.begins.0 c.self.invariant e.same e.begins.1 e.ends

pub returns-in_err-end-clause-opening : goal.returns-in_err-end-clause-opening
returns-in_err-end-clause-opening g c =
    opening_same g.N.RoomName.opening c.self.inside.copies.shown.content c.end.new.copies.shown.content c.self.invariant.opened ∙ ap (λ p. p.opening) c.self.view_is

pub returns-in_err-end-clause-together : goal.returns-in_err-end-clause-together
returns-in_err-end-clause-together g c = c.in_err-end.ensures.grown ∙ ap (λ p. grown p.history p.pending) c.self.view_is

pub returns-clause-opening : goal.returns-clause-opening
returns-clause-opening g c =
    opening_same g.N.RoomName.opening c.self.inside.copies.shown.content c.publish.new.self.shown.content c.self.invariant.opened ∙ ap (λ p. p.opening) c.self.view_is

pub returns-clause-together : goal.returns-clause-together
returns-clause-together g c = c.in_ok-end.ensures.grown ∙ ap (λ p. grown p.history p.pending) c.self.view_is
