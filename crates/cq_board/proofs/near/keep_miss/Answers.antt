use Rattle.std.proofs.Common.{◌≡◌, ℕ, ◌∷◌, [], ◌++◌, ◌∙◌, ap, sym, subst, take, length, arith}
use Rattle.std.specs.List.{insert, prefix_len}
use Rattle.std.specs.Prelude.{not}
use Rattle.std.proofs.lemmas.List.Sums.{prefix_len-le-length}
use Rattle.cq_board.specs.Near.{AreNearest}
use Rattle.cq_board.specs.Steps.Nearest.{is_nearer}
use Rattle.cq_board.proofs.Nearest.{nearest_more}
use Rattle.cq_board.proofs.near.keep_miss.Goals as goal

pub insert-requires : goal.insert-requires
insert-requires g c =
    let kept = c.args.kept.now.items in
    let place : c.place_for-place.result ≡ prefix_len (λ other. not (is_nearer c.args.miss other)) kept =
    c.place_for-place.ensures ∙ ap (prefix_len (λ other. not (is_nearer c.args.miss other))) c.deref.ensures.value in
    let within = prefix_len-le-length (λ other. not (is_nearer c.args.miss other)) kept in
    let len = c.deref.ensures.len in
    let same : length c.deref.result.now ≡ length kept = ap length c.deref.ensures.value in
    omega arith

pub returns : goal.returns
returns g c all are =
    let kept = c.args.kept.now.items in
    let place : c.place_for-place.result ≡ prefix_len (λ other. not (is_nearer c.args.miss other)) kept =
    c.place_for-place.ensures ∙ ap (prefix_len (λ other. not (is_nearer c.args.miss other))) c.deref.ensures.value in
    let next = c.truncate.ensures.items ∙ ap (take 3) (c.in_ok-insert.ensures.items ∙ ap (λ (n : ℕ). insert kept n c.args.miss) place) in
    subst (AreNearest (all ++ c.args.miss ∷ [])) (sym next) (nearest_more all kept c.args.miss are)
