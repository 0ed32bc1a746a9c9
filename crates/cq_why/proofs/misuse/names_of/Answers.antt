use Rattle.std.proofs.Common.{◌+◌, ◌++◌, ◌∙◌, ◌∷◌, [], List, ℕ, map, drop, ap, arith}
use Rattle.std.proofs.lemmas.List.{map-append}
use Rattle.cq_rel.specs.Tables.{relation_of}
use Rattle.cq_render.proofs.CallerLemmas.{nothing_left, put_end, put_on}
use Rattle.cq_render.proofs.Pieces.{ahead, item_at}
use Rattle.cq_why.proofs.misuse.names_of.Goals as goal

pub loop-place-preserved : goal.loop-place-preserved
loop-place-preserved g c =
    let catalog = c.args.catalog.now in
    let i = c.loop-place.place in
    let so_far = c.loop-place.names.items in
    let item = item_at catalog i (let low = c.loop-place-test.true in let is = c.len-place-end.ensures.value in omega (arith, low, is)) in
    put_on (map (λ name. name.now) so_far) (map (λ name. name.now) c.push.new.self.items) (relation_of item.item ∷ []) _ (map relation_of (drop (i + 1) catalog)) _
    (ap (map relation_of) (ahead catalog i item.item item.got)) c.loop-place.invariant
    (ap (map (λ name. name.now)) c.in_ok-push.ensures.items ∙ map-append (λ name. name.now) so_far (c.name_at.result ∷ []) ∙ ap (λ (name : List ℕ). map (λ name. name.now) so_far ++ name ∷ []) (c.name_at.ensures item.item item.got))

pub returns : goal.returns
returns g c =
    let catalog = c.args.catalog.now in
    let i = c.loop-place.place in
    put_end (map (λ name. name.now) c.loop-place.names.items) (map relation_of (drop i catalog)) _
    (ap (map relation_of) (nothing_left catalog i (let done = c.loop-place-test.false in let within = c.loop-place.auto.place-end in let is = c.len-place-end.ensures.value in omega (arith, done, within, is)))) c.loop-place.invariant
