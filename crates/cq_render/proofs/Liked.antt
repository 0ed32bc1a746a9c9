-- Heads that are like a postcondition.
use Rattle.std.proofs.Common.{◌≡◌, ℕ, zero, suc, ◌+◌, ◌<◌, List, [], ◌∷◌, length, map, get_or, refl, sym, ap, subst, ◌∙◌, arith, Some, None, if◌then◌else◌}
use Rattle.std.specs.Prelude.{Option, option_map, ◌==◌}
use Rattle.std.specs.List.{All, flat_map, enumerate_from, slice_get}
use Rattle.std.specs.Option.{option_map_or}
use Rattle.std.proofs.lemmas.Option.{same_Some, slice_get-map, slice_get_read}
use Rattle.std.proofs.lemmas.List.Elements.{All-append, All-take}
use Rattle.std.proofs.lemmas.List.Sorted.{All-permutation}
use Rattle.cq_atom.specs.Atom.{AtomRecord}
use Rattle.cq_near.specs.Alike.{likeness}
use Rattle.cq_board.specs.Pool.{PendingQuery, PoolRecord}
use Rattle.cq_board.specs.Near.{post_named, AreNearest}
use Rattle.cq_render.specs.Hints.{like_if, likes_of, likes_named, body_lack, lack_words}
use Rattle.cq_render.specs.Steps.Walking.{ShownRecord, shown_of, all_shown}
use Rattle.cq_render.proofs.Pieces.{by_bool}

-- ---- queries

shown_from : (pool : PoolRecord) (n i : ℕ) (pending : List PendingQuery) (shown : ShownRecord) → Some shown ≡ slice_get (map (shown_of pool) (enumerate_from n pending)) i
    → (posted : PendingQuery) × (slice_get pending i ≡ Some posted) × (posted.query ≡ shown.query)
shown_from pool n i [] shown is = cc
shown_from pool n zero (p ∷ pending) shown is = (p, refl, ap (λ (s : ShownRecord). s.query) (sym (same_Some shown (shown_of pool (n, p)) is)))
shown_from pool n (suc i) (p ∷ pending) shown is = shown_from pool (n + 1) i pending shown is

-- what was listed at a place is what is pending there
pub query_read : {R : Type 0} (read : R → ShownRecord) (items : List R) (pool : PoolRecord) → map read items ≡ all_shown pool → (i : ℕ) (x : R) → i < length items → x ≡ get_or items i x
    → (posted : PendingQuery) × (slice_get pool.pending i ≡ Some posted) × (posted.query ≡ (read x).query)
query_read read items pool walked i x low is =
    shown_from pool 0 i pool.pending (read x) (ap (option_map read) (sym (slice_get_read items (length items) i x refl low is)) ∙ sym (slice_get-map read items i) ∙ ap (λ (all : List ShownRecord). slice_get all i) walked)

-- what the body of a query lacks
pub lack_at : (pool : PoolRecord) (i : ℕ) (posted : PendingQuery) → slice_get pool.pending i ≡ Some posted → lack_words pool i ≡ body_lack pool.tables posted.query.body
lack_at pool i posted there = ap (λ (o : Option PendingQuery). option_map_or (λ (p : PendingQuery). body_lack pool.tables p.query.body) o []) there

-- ---- the numbers of likes are those of pending queries

all_none : {X : Type 0} (P : X → Type 0) → All P []
all_none P k d low = absurd (omega arith)

all_one : {X : Type 0} (P : X → Type 0) (x : X) → P x → All P (x ∷ [])
all_one P x h zero d low = h
all_one P x h (suc k) d low = absurd (omega arith)

there : (changes : Option ℕ) (n head : ℕ) → All (λ (like : ℕ × ℕ × ℕ). like.1 ≡ n) (option_map_or (λ changes. (changes, n, head) ∷ []) changes [])
there None n head = all_none (λ (like : ℕ × ℕ × ℕ). like.1 ≡ n)
there (Some changes) n head = all_one (λ (like : ℕ × ℕ × ℕ). like.1 ≡ n) (changes, n, head) refl

all_there : (wanted : AtomRecord) (n : ℕ) (heads : List (ℕ × AtomRecord)) → All (λ (like : ℕ × ℕ × ℕ). like.1 ≡ n) (flat_map (like_if wanted n) heads)
all_there wanted n [] = all_none (λ (like : ℕ × ℕ × ℕ). like.1 ≡ n)
all_there wanted n (h ∷ heads) = All-append (λ (like : ℕ × ℕ × ℕ). like.1 ≡ n) (like_if wanted n h) (flat_map (like_if wanted n) heads) (there (likeness wanted h.1) n h.0) (all_there wanted n heads)

numbered_low : (likes : List (ℕ × ℕ × ℕ)) (n most : ℕ) → n < most → All (λ (like : ℕ × ℕ × ℕ). like.1 ≡ n) likes → All (λ (like : ℕ × ℕ × ℕ). like.1 < most) likes
numbered_low likes n most low are k d within = subst (λ (m : ℕ). m < most) (sym (are k d within)) low

abbrev of_query : AtomRecord → ℕ → ℕ × PendingQuery → List (ℕ × ℕ × ℕ)
of_query wanted waiter p = if p.0 == waiter then [] else flat_map (like_if wanted p.0) (enumerate_from 0 p.1.query.heads)

query_low : (wanted : AtomRecord) (waiter n most : ℕ) (p : PendingQuery) → n < most → All (λ (like : ℕ × ℕ × ℕ). like.1 < most) (of_query wanted waiter (n, p))
query_low wanted waiter n most p low =
    by_bool (n == waiter) (All (λ (like : ℕ × ℕ × ℕ). like.1 < most) (of_query wanted waiter (n, p))) (λ t. rw t (all_none (λ (like : ℕ × ℕ × ℕ). like.1 < most)))
    (λ f. rw f (numbered_low (flat_map (like_if wanted n) (enumerate_from 0 p.query.heads)) n most low (all_there wanted n (enumerate_from 0 p.query.heads))))

low_from : (wanted : AtomRecord) (waiter n : ℕ) (pending : List PendingQuery) → All (λ (like : ℕ × ℕ × ℕ). like.1 < n + length pending) (flat_map (of_query wanted waiter) (enumerate_from n pending))
low_from wanted waiter n [] = all_none (λ (like : ℕ × ℕ × ℕ). like.1 < n + 0)
low_from wanted waiter n (p ∷ pending) =
    All-append (λ (like : ℕ × ℕ × ℕ). like.1 < n + length (p ∷ pending)) (of_query wanted waiter (n, p)) (flat_map (of_query wanted waiter) (enumerate_from (n + 1) pending)) (query_low wanted waiter n _ p (omega arith))
    (λ k d within. let h = low_from wanted waiter (n + 1) pending k d within in omega arith)

named_low : (wanted : Option AtomRecord) (waiter : ℕ) (pending : List PendingQuery) → All (λ (like : ℕ × ℕ × ℕ). like.1 < length pending) (option_map_or (λ w. likes_of w waiter pending) wanted [])
named_low None waiter pending = all_none (λ (like : ℕ × ℕ × ℕ). like.1 < length pending)
named_low (Some wanted) waiter pending = λ k d within. let h = low_from wanted waiter 0 pending k d within in omega arith

-- those of the nearest too
pub nearest_low : (name : List ℕ) (waiter post : ℕ) (pending : List PendingQuery) (nearest : List (ℕ × ℕ × ℕ)) → AreNearest (likes_named name waiter post pending) nearest
    → All (λ (like : ℕ × ℕ × ℕ). like.1 < length pending) nearest
nearest_low name waiter post pending nearest are =
    let low = λ (like : ℕ × ℕ × ℕ). like.1 < length pending in
    subst (All low) (sym are.first)
    (All-take low 3 are.sorted (All-permutation low (likes_named name waiter post pending) are.sorted are.permutation (named_low (post_named name post pending) waiter pending)))
