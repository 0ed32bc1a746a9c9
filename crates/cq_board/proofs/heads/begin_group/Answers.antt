use Rattle.std.proofs.Common.{◌≡◌, List, [], ◌∷◌, ◌++◌, length, map, sym, ap, ◌∙◌, arith, Some}
use Rattle.cq_board.specs.Steps.Heads.{heads_in, kept_under}
use Rattle.cq_board.specs.Steps.Nearest.{HeadRecord, head_read}
use Rattle.cq_board.proofs.Grouped.{kept-put, told-put}
use Rattle.cq_board.proofs.heads.begin_group.Goals as goal

pub returns-clause-heads : goal.returns-clause-heads
returns-clause-heads g c =
    let head = c.args.head.now in
    let more : heads_in (Some c.push.new.group) ≡ kept_under c.args.groups.now head.atom.now.relation (length head.atom.now.terms) ++ head_read head ∷ [] =
    c.in_ok-push.ensures.heads ∙ ap (λ hs. map head_read hs ++ head_read head ∷ []) c.new.ensures.items ∙ ap (λ (hs : List HeadRecord). hs ++ head_read head ∷ []) (sym c.requires) in
    kept-put c.args.groups.now c.insert.new.self c.key_of.result head.atom.now c.push.new.group c.key_of.ensures.relation c.key_of.ensures.arity c.in_ok-insert.ensures.updates.0 head.number head.place more

pub returns-clause-told : goal.returns-clause-told
returns-clause-told g c all =
    let head = c.args.head.now in
    told-put c.args.groups.now c.insert.new.self c.key_of.result head.atom.now c.push.new.group c.key_of.ensures.relation c.key_of.ensures.arity c.in_ok-insert.ensures.updates.0 all
    (c.in_ok-push.ensures.told (λ on k d low. absurd (let none : length c.new.result.items ≡ 0 = ap length c.new.ensures.items in omega (arith, low, none))))
