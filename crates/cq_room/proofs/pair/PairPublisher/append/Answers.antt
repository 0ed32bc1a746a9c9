use Rattle.std.proofs.Common.{rules, ◌≡◌, ◌++◌, ◌∷◌, [], ap, ◌∙◌}
use Rattle.cq_room.specs.declared.mark.Mark.TheVariants.{Entered}
use Rattle.cq_room.proofs.Marked.{pubs_entered, fresh_entered}
use Rattle.cq_room.proofs.Pairs.{opening_same}
use Rattle.cq_room.proofs.Settled.{paired-settled, paired-unsettled}
use Rattle.cq_room.proofs.pair.PairPublisher.append.Goals as goal

pub invariant_of-self : goal.invariant_of-self
invariant_of-self g c = let old = c.self.inside in let now = c.settle.new in let e = c.in_err-settle.ensures in
    paired-unsettled g.N.RoomName.opening old.copies.shown now.copies.shown old.copies.pending now.copies.pending old.waiting now.waiting old.trail c.self.invariant e.same e.settled.0 e.settled.1

pub invariant_of-self-then-entries-ge-MOST : goal.invariant_of-self-then-entries-ge-MOST
invariant_of-self-then-entries-ge-MOST g c = let old = c.self.inside in let now = c.settle.new in let e = c.in_ok-settle.ensures in
    paired-settled g.N.RoomName.opening old.copies.shown now.copies.shown old.copies.pending now.copies.pending old.waiting now.waiting old.trail c.self.invariant e.same e.settled.0 e.settled.1

pub invariant_of-self-then-not-enter : goal.invariant_of-self-then-not-enter
invariant_of-self-then-not-enter g c = let old = c.self.inside in let now = c.settle.new in let e = c.in_ok-settle.ensures in
    paired-settled g.N.RoomName.opening old.copies.shown now.copies.shown old.copies.pending now.copies.pending old.waiting now.waiting old.trail c.self.invariant e.same e.settled.0 e.settled.1

pub returns-clause-opening : goal.returns-clause-opening
returns-clause-opening g c =
    opening_same g.N.RoomName.opening c.self.inside.copies.shown.content _ c.self.invariant.opened ∙ ap (λ p. p.opening) c.self.view_is

pub returns-clause-history : goal.returns-clause-history
returns-clause-history g c = let old = c.self.inside in
    let is : c.enter.new.self ≡ old.trail ++ Entered (record { author = c.args.author; edit = c.args.edit }) ∷ [] = search rules in
    pubs_entered old.trail c.enter.new.self _ is ∙ ap (λ p. p.history) c.self.view_is

pub returns-clause-ok : goal.returns-clause-ok
returns-clause-ok g c = let old = c.self.inside in
    let is : c.enter.new.self ≡ old.trail ++ Entered (record { author = c.args.author; edit = c.args.edit }) ∷ [] = search rules in
    fresh_entered old.trail c.enter.new.self _ is ∙ ap (λ p. p.pending ++ record { author = c.args.author; edit = c.args.edit } ∷ []) c.self.view_is
