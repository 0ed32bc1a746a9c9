use Rattle.std.proofs.Common.{◌≡◌, ◌++◌, ◌∷◌, [], sym, ap, ◌∙◌, map, true, nat_le}
use Rattle.std.proofs.lemmas.List.{map-append}
use Rattle.cq_board.specs.Named.{crowd_read}
use Rattle.cq_board.proofs.views.add_crowd.Goals as goal

pub returns-in_ok-push : goal.returns-in_ok-push
returns-in_ok-push g c pending same =
    let many : nat_le 2 c.args.providers ≡ true = sym c.is_crowd.ensures ∙ c.if-is_crowd.true in
    ap (map (crowd_read (λ name. name.now))) c.in_ok-push.ensures.items
    ∙ map-append (crowd_read (λ name. name.now)) c.args.crowded.now.items _
    ∙ ap (λ crowds. map (crowd_read (λ name. name.now)) c.args.crowded.now.items ++ crowds)
    (rw many (ap (λ name. (record { waiter = name; post = c.args.first.now.post; providers = c.args.providers }) ∷ []) (c.name_of.ensures pending same)))
