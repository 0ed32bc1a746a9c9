-- A node goes: its edges are counted no longer, and what contracts see of its nodes.
use Rattle.std.proofs.Common.{◌≡◌, ℕ, ◌+◌, ◌-◌, ◌<◌, ◌≤◌, inl, inr, Bool, true, false, ◌&&◌, eqb, ltb, List, [], ◌∷◌, length, set, zero, suc, count_by, refl, sym, ap, ◌∙◌, arith, eq-eqb}
use Rattle.std.proofs.lemmas.Bool.{eqb-true}
use borrow.Author.Tests.{ltb-true, ltb-false}
use Rattle.std.proofs.lemmas.List.{get_or_past}
use Rattle.cq_atom.specs.declared.edge.Edge.{Edge}
use Rattle.cq_match.specs.declared.graph.Place.{Place}
use Rattle.cq_match.specs.Graph.{leads_to}
use Rattle.cq_match.specs.Matched.{numbers}
use Rattle.cq_match.specs.Matcher.{with_flag, without}
use Rattle.cq_match.specs.Steps.Kept.{free, place_at, count_at, nodes_from, is_able}
use Rattle.cq_match.proofs.Tests.{by_bool, and_left, and_right, both}
use Rattle.cq_match.proofs.Rows.{row, with_count, count-cases}
use Rattle.cq_match.proofs.Edges.{one_if, count-cons}

-- ---- the edges that leave it

-- what is counted while some of the edges are yet to be lowered
abbrev pub Lowered : List (List ℕ) → List (List ℕ) → List Edge → List Edge → Type 0
Lowered before totals all left = (n k : ℕ) → count_at totals n k + count_by (leads_to n k) all ≡ count_at before n k + count_by (leads_to n k) left

abbrev pub Counted : List (List ℕ) → List Edge → Type 0
Counted before all = (n k : ℕ) → count_by (leads_to n k) all ≤ count_at before n k

pub row-placed : (rows : List (List ℕ)) (n k : ℕ) → k < length (row rows n) → n < length rows
row-placed rows n k inside =
    by_bool (ltb n (length rows)) (n < length rows) (λ t. ltb-true n (length rows) t)
    (λ f. let none = ap length (get_or_past rows n [] (ltb-false n (length rows) f)) in let zero_len : length (row rows n) ≡ 0 = none in absurd (omega arith))

leads-itself : (e : Edge) → leads_to e.waiter e.post e ≡ true
leads-itself e = both (eqb e.waiter e.waiter) (eqb e.post e.post) (eq-eqb e.waiter e.waiter refl) (eq-eqb e.post e.post refl)

pub one-left : (before totals : List (List ℕ)) (all left : List Edge) (e : Edge) → Counted before all → Lowered before totals all (e ∷ left) → 1 ≤ count_at totals e.waiter e.post
one-left before totals all left e counted lowered =
    let c = counted e.waiter e.post in
    let l = lowered e.waiter e.post in
    let first = count-cons (leads_to e.waiter e.post) e left in
    let one : one_if (leads_to e.waiter e.post e) ≡ 1 = ap one_if (leads-itself e) in
    omega arith

pub lowered-step : (before totals : List (List ℕ)) (all left : List Edge) (e : Edge) → Counted before all → e.waiter < length totals → e.post < length (row totals e.waiter) → Lowered before totals all (e ∷ left)
    → Lowered before (with_count totals e.waiter e.post (count_at totals e.waiter e.post - 1)) all left
lowered-step before totals all left e counted low inside lowered n k =
    let l = lowered n k in
    let first = count-cons (leads_to n k) e left in
    count-cases totals e.waiter e.post (count_at totals e.waiter e.post - 1) n k (λ x. x + count_by (leads_to n k) all ≡ count_at before n k + count_by (leads_to n k) left) low inside
    (λ is also.
    let at : count_at totals e.waiter e.post ≡ count_at totals n k = ap (λ m. count_at totals m e.post) (sym is) ∙ ap (count_at totals n) (sym also) in
    let here : leads_to n k e ≡ true = both (eqb e.waiter n) (eqb e.post k) (eq-eqb e.waiter n (sym is)) (eq-eqb e.post k (sym also)) in
    let one : one_if (leads_to n k e) ≡ 1 = ap one_if here in
    let some = one-left before totals all left e counted lowered in
    omega arith)
    (λ apart.
    let none : one_if (leads_to n k e) ≡ 0 = ap one_if (by_bool (leads_to n k e) (leads_to n k e ≡ false)
    (λ t. absurd (elim apart [
      | inl a ↦ a (sym (eqb-true e.waiter n (and_left (eqb e.waiter n) (eqb e.post k) t)))
      | inr b ↦ b (sym (eqb-true e.post k (and_right (eqb e.waiter n) (eqb e.post k) t)))
    ])) (λ f. f)) in
    omega arith)

-- ---- the nodes that contracts see

pub without-none : (places : List Place) (j n : ℕ) → j < n → without j (nodes_from n places) ≡ nodes_from n places
without-none [] j n low = refl
without-none (p ∷ places) j n low =
    let rest = without-none places j (n + 1) (omega arith) in
    let apart : eqb n j ≡ false = by_bool (eqb n j) (eqb n j ≡ false) (λ t. absurd (let e = eqb-true n j t in omega arith)) (λ f. f) in
    by_bool p.taken (without j (nodes_from n (p ∷ places)) ≡ nodes_from n (p ∷ places))
    (λ t. rw (t, apart) (ap (λ (ns : List (ℕ × ℕ × Bool)). (n, p.posts, p.able) ∷ ns) rest))
    (λ f. rw f rest)

nodes-erased : (places : List Place) (n node : ℕ) → nodes_from n (set places node free) ≡ without (n + node) (nodes_from n places)
nodes-erased [] n node = refl
nodes-erased (p ∷ places) n zero =
    let same : eqb n (n + 0) ≡ true = eq-eqb n (n + 0) (omega arith) in
    let rest = without-none places (n + 0) (n + 1) (omega arith) in
    by_bool p.taken (nodes_from n (free ∷ places) ≡ without (n + 0) (nodes_from n (p ∷ places)))
    (λ t. rw (t, same) (sym rest))
    (λ f. rw f (sym rest))
nodes-erased (p ∷ places) n (suc node) =
    let apart : eqb n (n + suc node) ≡ false = by_bool (eqb n (n + suc node)) (eqb n (n + suc node) ≡ false) (λ t. absurd (let e = eqb-true n (n + suc node) t in omega arith)) (λ f. f) in
    let next : n + 1 + node ≡ n + suc node = omega arith in
    let rest : nodes_from (n + 1) (set places node free) ≡ without (n + suc node) (nodes_from (n + 1) places) = nodes-erased places (n + 1) node ∙ ap (λ m. without m (nodes_from (n + 1) places)) next in
    by_bool p.taken (nodes_from n (p ∷ set places node free) ≡ without (n + suc node) (nodes_from n (p ∷ places)))
    (λ t. rw (t, apart) (ap (λ (ns : List (ℕ × ℕ × Bool)). (n, p.posts, p.able) ∷ ns) rest))
    (λ f. rw f rest)

pub erased-nodes : (places : List Place) (node : ℕ) → nodes_from 0 (set places node free) ≡ without node (nodes_from 0 places)
erased-nodes places node = let is : 0 + node ≡ node = omega arith in nodes-erased places 0 node ∙ ap (λ m. without m (nodes_from 0 places)) is

-- the flag of a node is taken from it
pub flag-unable : (j : ℕ) (nodes : List (ℕ × ℕ × Bool)) → is_able j (with_flag j false nodes) ≡ false
flag-unable j [] = refl
flag-unable j (x ∷ nodes) =
    let rest = flag-unable j nodes in
    by_bool (eqb x.0 j) (is_able j (with_flag j false (x ∷ nodes)) ≡ false)
    (λ t. rw t rest)
    (λ f. rw f rest)

pub flag-without : (j : ℕ) (b : Bool) (nodes : List (ℕ × ℕ × Bool)) → without j (with_flag j b nodes) ≡ without j nodes
flag-without j b [] = refl
flag-without j b (x ∷ nodes) =
    let rest = flag-without j b nodes in
    by_bool (eqb x.0 j) (without j (with_flag j b (x ∷ nodes)) ≡ without j (x ∷ nodes))
    (λ t. rw t rest)
    (λ f. rw f (ap (λ (ns : List (ℕ × ℕ × Bool)). x ∷ ns) rest))

pub flag-numbers : (j : ℕ) (b : Bool) (nodes : List (ℕ × ℕ × Bool)) → numbers (with_flag j b nodes) ≡ numbers nodes
flag-numbers j b [] = refl
flag-numbers j b (x ∷ nodes) = ap (λ (ns : List ℕ). x.0 ∷ ns) (flag-numbers j b nodes)

able-listed : (places : List Place) (n j : ℕ) → (place_at places j).taken ≡ true → (place_at places j).able ≡ true → is_able (n + j) (nodes_from n places) ≡ true
able-listed [] n j taken able = absurd (let never : false ≡ true = taken in cc)
able-listed (p ∷ places) n zero taken able =
    let same : eqb n (n + 0) ≡ true = eq-eqb n (n + 0) (omega arith) in
    rw (taken, same, able) refl
able-listed (p ∷ places) n (suc j) taken able =
    let next : n + 1 + j ≡ n + suc j = omega arith in
    let rest : is_able (n + suc j) (nodes_from (n + 1) places) ≡ true = ap (λ m. is_able m (nodes_from (n + 1) places)) (sym next) ∙ able-listed places (n + 1) j taken able in
    by_bool p.taken (is_able (n + suc j) (nodes_from n (p ∷ places)) ≡ true)
    (λ t. by_bool (eqb n (n + suc j) && p.able) (is_able (n + suc j) (nodes_from n (p ∷ places)) ≡ true) (λ u. rw (t, u) refl) (λ f. rw (t, f) rest))
    (λ f. rw f rest)

pub unable-place : (places : List Place) (j : ℕ) → (place_at places j).taken ≡ true → is_able j (nodes_from 0 places) ≡ false → (place_at places j).able ≡ false
unable-place places j taken unable =
    by_bool (place_at places j).able ((place_at places j).able ≡ false)
    (λ t. absurd (let is : 0 + j ≡ j = omega arith in let never : false ≡ true = sym unable ∙ ap (λ m. is_able m (nodes_from 0 places)) (sym is) ∙ able-listed places 0 j taken t in cc))
    (λ f. f)
