use Rattle.std.proofs.Common.{◌≡◌, ◌≤◌, ◌<◌, ◌+◌, ℕ, List, [], ◌∷◌, ◌++◌, length, map, take, get_or, ap, sym, subst, ◌∙◌, arith, append-nil}
use Rattle.std.specs.List.{All, flat_map}
use Rattle.std.proofs.lemmas.Grind.{flat_map-append}
use Rattle.std.proofs.lemmas.List.{map-append, take_all, take_more}
use Rattle.cq_atom.specs.Atom.{AtomRecord}
use Rattle.cq_board.specs.Near.{AreNearest}
use Rattle.cq_board.specs.Steps.Nearest.{HeadRecord, head_read, miss_at}
use Rattle.cq_board.proofs.Nearest.{nearest_ended, nearest_none}
use Rattle.cq_board.proofs.near.nearest_of.Goals.{else-loop-head-test, then-loop-head-test+then-is_settled}
use Rattle.cq_board.proofs.near.nearest_of.Goals as goal

-- the misses of one more head
one-more : {X : Type 0} (read : X → HeadRecord) (wanted : AtomRecord) (heads : List X) (i : ℕ) (h : X) → i < length heads → h ≡ get_or heads i h
    → flat_map (miss_at wanted) (map read (take i heads)) ++ miss_at wanted (read h) ≡ flat_map (miss_at wanted) (map read (take (i + 1) heads))
one-more {X} read wanted heads i h low is =
    let f = miss_at wanted in
    let before = map read (take i heads) in
    sym (ap (λ (hs : List X). flat_map f (map read hs)) (take_more heads i h low ∙ ap (λ (x : X). take i heads ++ x ∷ []) (sym is))
    ∙ ap (flat_map f) (map-append read (take i heads) (h ∷ []))
    ∙ flat_map-append f before (read h ∷ [])
    ∙ ap (λ (ms : List (ℕ × ℕ × ℕ)). flat_map f before ++ ms) (append-nil (f (read h))))

pub loop-head-init : goal.loop-head-init
loop-head-init g c = subst (λ (ms : List (ℕ × ℕ × ℕ)). AreNearest [] ms) (sym c.in_ok-kept.ensures.items) nearest_none

pub loop-head-preserved : goal.loop-head-preserved
loop-head-preserved g c =
    let wanted = c.args.wanted.now in
    let heads = c.args.heads.now in
    let i = c.loop-head.head-index in
    let kept = c.keep_head.new.kept.items in
    let seen = flat_map (miss_at wanted) (map head_read (take i heads)) in
    subst (λ (ms : List (ℕ × ℕ × ℕ)). AreNearest ms kept) (one-more head_read wanted heads i c.head-item.result c.loop-head-test.true c.head-item.is) (c.in_ok-keep_head.ensures seen c.loop-head.invariant)

pub returns : goal.returns
returns g c =
    let heads = c.args.heads.now in
    let wanted = c.args.wanted.now in
    let i = c.loop-head.head-index in
    let kept = c.loop-head.kept.items in
    elim c.loop-head-test.branch [
      | else-loop-head-test w ↦ subst (λ hs. AreNearest (flat_map (miss_at wanted) (map head_read hs)) kept) (take_all i heads (omega (arith, w.loop-head-test.false))) c.loop-head.invariant
      | then-loop-head-test+then-is_settled w ↦
          let same = w.deref.ensures.value in
          let three : length kept ≡ 3 = ap length (sym same) ∙ w.is_settled.ensures.many w.if-is_settled.true in
          let few : All (λ m. m.0 ≤ c.args.least) kept = subst (λ (ms : List (ℕ × ℕ × ℕ)). All (λ m. m.0 ≤ c.args.least) ms) same (w.is_settled.ensures.few w.if-is_settled.true) in
          nearest_ended head_read wanted heads i c.args.least kept c.requires.rising c.requires.least c.loop-head.invariant three few
    ]
