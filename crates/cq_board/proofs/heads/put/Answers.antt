use Rattle.std.proofs.Common.{List, [], ◌∷◌, ◌++◌, length, sym, ap, subst, ◌∙◌, Some, is_some}
use Rattle.std.proofs.lemmas.Result.{IfOk-weaker}
use Rattle.cq_board.specs.Steps.Heads.{heads_in, IsToldOf}
use Rattle.cq_board.specs.Steps.Nearest.{HeadRecord, head_read}
use Rattle.cq_board.proofs.Grouped.{group-found, kept-put, told-put}
use Rattle.cq_board.proofs.heads.put.Goals as goal

pub returns-in-Some-clause-heads : goal.returns-in-Some-clause-heads
returns-in-Some-clause-heads g c =
    let head = c.args.head.now in
    let after = c.get_mut.follows.lender c.push.new.group in
    let found = group-found c.args.groups.now c.key_of.result head.atom.now (Some c.in-Some.group.now) c.key_of.ensures.relation c.key_of.ensures.arity c.in-Some.ensures.value in
    let updates = (c.get_mut.follows.holds c.push.new.group).3 (ap is_some (sym c.in-Some.ensures.value)) in
    IfOk-weaker c.push.result _ _
    (λ _ heads.
    kept-put c.args.groups.now after c.key_of.result head.atom.now c.push.new.group c.key_of.ensures.relation c.key_of.ensures.arity updates.0 head.number head.place
    (heads ∙ ap (λ (hs : List HeadRecord). hs ++ head_read head ∷ []) (ap heads_in (sym found))))
    c.push.ensures.heads

pub returns-in-Some-clause-told : goal.returns-in-Some-clause-told
returns-in-Some-clause-told g c =
    let head = c.args.head.now in
    let after = c.get_mut.follows.lender c.push.new.group in
    let found = group-found c.args.groups.now c.key_of.result head.atom.now (Some c.in-Some.group.now) c.key_of.ensures.relation c.key_of.ensures.arity c.in-Some.ensures.value in
    let updates = (c.get_mut.follows.holds c.push.new.group).3 (ap is_some (sym c.in-Some.ensures.value)) in
    IfOk-weaker c.push.result _ _
    (λ _ told all.
    told-put c.args.groups.now after c.key_of.result head.atom.now c.push.new.group c.key_of.ensures.relation c.key_of.ensures.arity updates.0 all
    (told (subst IsToldOf found (all head.atom.now.relation (length head.atom.now.terms)))))
    c.push.ensures.told
