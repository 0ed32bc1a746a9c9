use Rattle.std.proofs.Common.{◌≡◌, ◌<◌, ◌++◌, ◌∷◌, [], List, length, ap, sym, ◌∙◌}
use Rattle.cq_room.specs.declared.mark.Mark.{Mark}
use Rattle.cq_room.specs.declared.mark.Mark.TheVariants.{Cut}
use Rattle.cq_room.specs.Marks.{fresh_in}
use Rattle.cq_room.proofs.Fronts.{prefix_self}
use Rattle.cq_room.proofs.Marked.{cut_same, fresh_cut}
use Rattle.cq_room.proofs.Settled.{ends-appended, ends-settled, ends-unsettled, some-left}
use Rattle.cq_room.proofs.pair.end.Goals as goal

pub over-step-requires : goal.over-step-requires
over-step-requires g c = (c.again-next.result, c.again.ensures ∙ c.if-not-cut.ensures)

pub returns-in_err-settle-clause-begins : goal.returns-in_err-settle-clause-begins
returns-in_err-settle-clause-begins g c = prefix_self c.args.trail.now

pub returns-in_err-settle-clause-ends : goal.returns-in_err-settle-clause-ends
returns-in_err-settle-clause-ends g c = let old = c.args.copies.now in let now = c.settle.new in let e = c.in_err-settle.ensures in
    ends-unsettled old.shown now.copies.shown old.pending now.copies.pending c.args.waiting.now now.waiting c.args.trail.now e.same e.settled.0 e.settled.1 c.requires

pub returns-then-fresh-eq0-clause-begins : goal.returns-then-fresh-eq0-clause-begins
returns-then-fresh-eq0-clause-begins g c = prefix_self c.args.trail.now

pub returns-then-fresh-eq0-clause-ends : goal.returns-then-fresh-eq0-clause-ends
returns-then-fresh-eq0-clause-ends g c = let old = c.args.copies.now in let now = c.settle.new in let e = c.in_ok-settle.ensures in
    ends-settled old.shown now.copies.shown old.pending now.copies.pending c.args.waiting.now now.waiting c.args.trail.now e.same e.settled.0 e.settled.1 c.requires

pub returns-then-entries-ge-MOST-clause-begins : goal.returns-then-entries-ge-MOST-clause-begins
returns-then-entries-ge-MOST-clause-begins g c = prefix_self c.args.trail.now

pub returns-then-entries-ge-MOST-clause-ends : goal.returns-then-entries-ge-MOST-clause-ends
returns-then-entries-ge-MOST-clause-ends g c = let old = c.args.copies.now in let now = c.settle.new in let e = c.in_ok-settle.ensures in
    ends-settled old.shown now.copies.shown old.pending now.copies.pending c.args.waiting.now now.waiting c.args.trail.now e.same e.settled.0 e.settled.1 c.requires

pub returns-then-not-cut-clause-begins : goal.returns-then-not-cut-clause-begins
returns-then-not-cut-clause-begins g c = prefix_self c.args.trail.now

pub returns-then-not-cut-clause-ends : goal.returns-then-not-cut-clause-ends
returns-then-not-cut-clause-ends g c = let old = c.args.copies.now in let now = c.settle.new in let e = c.in_ok-settle.ensures in
    ends-settled old.shown now.copies.shown old.pending now.copies.pending c.args.waiting.now now.waiting c.args.trail.now e.same e.settled.0 e.settled.1 c.requires

pub returns-in-Ok-clause-begins : goal.returns-in-Ok-clause-begins
returns-in-Ok-clause-begins g c = (Cut ∷ [], ap (λ (t : List (Mark g.row.L-Edit.Denot)). t ++ Cut ∷ []) (sym c.again-next.ensures) ∙ sym c.if-not-cut.ensures)

pub returns-in-Ok-clause-ends : goal.returns-in-Ok-clause-ends
returns-in-Ok-clause-ends g c =
    ends-appended c.append.new.self.shown.marks c.settle.new.copies.pending c.append.new.self.pending c.over-step.result c.settle.new.waiting c.in_ok-settle.ensures.settled.0 c.in-Ok.ensures.pending
    ∙ c.over-step.ensures ∙ c.again.ensures

pub returns-in-Ok-clause-grown : goal.returns-in-Ok-clause-grown
returns-in-Ok-clause-grown g c = let old = c.args.trail.now in
    let is : c.cut.new.self ≡ old ++ Cut ∷ [] = c.if-not-cut.ensures ∙ ap (λ (t : List (Mark g.row.L-Edit.Denot)). t ++ Cut ∷ []) c.again-next.ensures in
    let some : 0 < length (fresh_in old) = some-left c.fresh.result (length (fresh_in old)) c.fresh.ensures c.if-fresh-eq0.false in
    cut_same old c.cut.new.self is some

pub returns-in-Ok-clause-ended : goal.returns-in-Ok-clause-ended
returns-in-Ok-clause-ended g c = let old = c.args.trail.now in
    let is : c.cut.new.self ≡ old ++ Cut ∷ [] = c.if-not-cut.ensures ∙ ap (λ (t : List (Mark g.row.L-Edit.Denot)). t ++ Cut ∷ []) c.again-next.ensures in
    (c.in_ok-settle.ensures.settled.0, fresh_cut old c.cut.new.self is)

pub returns-in-Err-clause-begins : goal.returns-in-Err-clause-begins
returns-in-Err-clause-begins g c = (Cut ∷ [], ap (λ (t : List (Mark g.row.L-Edit.Denot)). t ++ Cut ∷ []) (sym c.again-next.ensures) ∙ sym c.if-not-cut.ensures)

pub returns-in-Err-clause-ends : goal.returns-in-Err-clause-ends
returns-in-Err-clause-ends g c = c.in-Err.ensures.pending.0 ∙ c.over-step.ensures ∙ c.again.ensures

pub returns-in-Err-clause-grown : goal.returns-in-Err-clause-grown
returns-in-Err-clause-grown g c = let old = c.args.trail.now in
    let is : c.cut.new.self ≡ old ++ Cut ∷ [] = c.if-not-cut.ensures ∙ ap (λ (t : List (Mark g.row.L-Edit.Denot)). t ++ Cut ∷ []) c.again-next.ensures in
    let some : 0 < length (fresh_in old) = some-left c.fresh.result (length (fresh_in old)) c.fresh.ensures c.if-fresh-eq0.false in
    cut_same old c.cut.new.self is some
