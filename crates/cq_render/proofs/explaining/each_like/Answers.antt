use Rattle.std.proofs.Common.{◌++◌, ◌∙◌, ◌∷◌, [], ℕ, List, map, string_bytes, take, get_or, sym, ap, arith}
use Rattle.std.proofs.lemmas.List.{take_all, take_more, map-append}
use Rattle.cq_render.specs.Explain.{like_words}
use Rattle.cq_render.proofs.explaining.each_like.Goals as goal

pub like_words-requires : goal.like_words-requires
like_words-requires g c = c.requires c.loop-like.like-index (0, 0, 0) c.loop-like-test.true

pub loop-like-preserved : goal.loop-like-preserved
loop-like-preserved g c =
    let likes = c.args.likes.now in
    let i = c.loop-like.like-index in
    let made = c.in_ok-like_words.field-0 in
    let f = like_words c.args.listing.now.board.now.pending in
    ap (map string_bytes) c.in_ok-push.ensures.items ∙ map-append string_bytes c.loop-like.words.items (made ∷ [])
    ∙ ap (λ (words : List (List ℕ)). words ++ string_bytes made ∷ []) c.loop-like.invariant ∙ ap (λ (word : List ℕ). map f (take i likes) ++ word ∷ []) c.in_ok-like_words.ensures
    ∙ sym (ap (map f) (take_more likes i (0, 0, 0) c.loop-like-test.true) ∙ map-append f (take i likes) (get_or likes i (0, 0, 0) ∷ []))

pub returns : goal.returns
returns g c =
    c.loop-like.invariant ∙ ap (map (like_words c.args.listing.now.board.now.pending)) (take_all c.loop-like.like-index c.args.likes.now (omega arith))
