-- Edges that are counted: of a set of providers, of a set without one of them, and of one provider.
use Rattle.std.proofs.Common.{◌≡◌, ℕ, ◌+◌, ◌<◌, ◌≤◌, ◌≢◌, Bool, true, false, not, cond, ◌&&◌, eqb, List, [], ◌∷◌, ◌++◌, length, get_or, set, zero, suc, drop, map, filter, count_by, refl, sym, ap, ◌∙◌, arith, eq-eqb, drop-cons, add-one}
use Rattle.std.specs.List.{list_any}
use Rattle.std.proofs.lemmas.Bool.{eqb-true}
use Rattle.std.proofs.lemmas.List.{get_or-set_other}
use Rattle.std.proofs.lemmas.List.Elements.{filter-append}
use Rattle.std.proofs.lemmas.List.Sums.{sum_by-cons}
use Rattle.cq_atom.specs.declared.edge.Edge.{Edge}
use Rattle.cq_match.specs.declared.graph.Place.{Place}
use Rattle.cq_match.specs.declared.graph.Out.{Out}
use Rattle.cq_match.specs.Graph.{leads_to}
use Rattle.cq_match.specs.Steps.Settle.{stands}
use Rattle.cq_match.specs.Steps.Kept.{is_live, edge_of, edges_left, edges_from, feeds_post, was_raised}
use Rattle.cq_match.proofs.Tests.{by_bool, and_left, and_right, both}
use Rattle.cq_match.proofs.Rows.{differ}

abbrev pub one_if : Bool → ℕ
one_if b = cond b 1 0

pub count-cons : (p : Edge → Bool) (e : Edge) (edges : List Edge) → count_by p (e ∷ edges) ≡ one_if (p e) + count_by p edges
count-cons p e edges = sum_by-cons (λ x. cond (p x) 1 0) e edges

pub some-counted : (p : Edge → Bool) (edges : List Edge) → list_any p edges ≡ true → 1 ≤ count_by p edges
some-counted p [] e = absurd (let never : false ≡ true = e in cc)
some-counted p (x ∷ edges) e =
    by_bool (p x) (1 ≤ count_by p (x ∷ edges))
    (λ t. let one : one_if (p x) ≡ 1 = rw t refl in let all = count-cons p x edges in omega arith)
    (λ f.
    let later : list_any p edges ≡ true = rw f at e in
    let more = some-counted p edges later in let all = count-cons p x edges in omega arith)

pub counted-some : (p : Edge → Bool) (edges : List Edge) → 1 ≤ count_by p edges → list_any p edges ≡ true
counted-some p [] h = absurd (let none : 1 ≤ 0 = h in omega arith)
counted-some p (x ∷ edges) h =
    by_bool (p x) (list_any p (x ∷ edges) ≡ true)
    (λ t. rw t refl)
    (λ f.
    let none : one_if (p x) ≡ 0 = rw f refl in
    let all = count-cons p x edges in
    rw f (counted-some p edges (omega arith)))

-- a larger set feeds whatever a smaller one feeds
pub any-wider : (p q : Edge → Bool) → ((e : Edge) → p e ≡ true → q e ≡ true) → (edges : List Edge) → list_any p edges ≡ true → list_any q edges ≡ true
any-wider p q more [] e = e
any-wider p q more (x ∷ edges) e =
    by_bool (q x) (list_any q (x ∷ edges) ≡ true) (λ t. rw t refl)
    (λ f.
    by_bool (p x) (list_any q (x ∷ edges) ≡ true)
    (λ t. absurd (let never : false ≡ true = sym f ∙ more x t in cc))
    (λ g. rw f (any-wider p q more edges (rw g at e))))

pub feeds-wider : (small large : ℕ → Bool) → ((n : ℕ) → small n ≡ true → large n ≡ true) → (n k : ℕ) (edges : List Edge) → list_any (feeds_post small n k) edges ≡ true → list_any (feeds_post large n k) edges ≡ true
feeds-wider small large more n k edges e =
    any-wider (feeds_post small n k) (feeds_post large n k)
    (λ x t. both (leads_to n k x) (large x.provider) (and_left (leads_to n k x) (small x.provider) t) (more x.provider (and_right (leads_to n k x) (small x.provider) t))) edges e

-- ---- one node is raised no longer

pub lowered-itself : (raised : List Bool) (v : ℕ) → stands (set raised v false) v ≡ false
lowered-itself [] v = refl
lowered-itself (b ∷ bs) zero = refl
lowered-itself (b ∷ bs) (suc n) = lowered-itself bs n

pub lowered-other : (raised : List Bool) (v n : ℕ) → n ≢ v → stands (set raised v false) n ≡ stands raised n
lowered-other raised v n apart = get_or-set_other raised v n false false apart

pub lowered-less : (raised : List Bool) (v n : ℕ) → stands (set raised v false) n ≡ true → stands raised n ≡ true
lowered-less raised v n e =
    by_bool (eqb n v) (stands raised n ≡ true)
    (λ t. absurd (let never : false ≡ true = sym (lowered-itself raised v) ∙ ap (stands (set raised v false)) (sym (eqb-true n v t)) ∙ e in cc))
    (λ f. sym (lowered-other raised v n (differ n v f)) ∙ e)

-- what is counted of an edge before is what is counted after, or the edge is of that node
one-split : (into before after here : Bool) → (here ≡ true → before ≡ true) → (here ≡ true → after ≡ false) → (here ≡ false → before ≡ after)
    → one_if (into && before) ≡ one_if (into && after) + cond here (one_if into) 0
one-split false before after true p q r = refl
one-split false before after false p q r = refl
one-split true before after true p q r = rw (p refl, q refl) refl
one-split true before after false p q r = rw (r refl) (let same : one_if after ≡ one_if after + 0 = omega arith in same)

pub filter-count : (into here : Edge → Bool) (e : Edge) (edges : List Edge) → count_by into (filter here (e ∷ edges)) ≡ cond (here e) (one_if (into e)) 0 + count_by into (filter here edges)
filter-count into here e edges =
    by_bool (here e) (count_by into (filter here (e ∷ edges)) ≡ cond (here e) (one_if (into e)) 0 + count_by into (filter here edges))
    (λ t. rw t (count-cons into e (filter here edges)))
    (λ f. rw f (let same : count_by into (filter here edges) ≡ 0 + count_by into (filter here edges) = omega arith in same))

-- The edges of the providers that are raised: those of one, and those of the others.
pub count-split : (raised : List Bool) (v n k : ℕ) → stands raised v ≡ true → (edges : List Edge)
    → count_by (feeds_post (stands raised) n k) edges ≡ count_by (feeds_post (stands (set raised v false)) n k) edges + count_by (leads_to n k) (filter (λ e. eqb e.provider v) edges)
count-split raised v n k up [] = refl
count-split raised v n k up (e ∷ edges) =
    let p = e.provider in
    let after = set raised v false in
    let same : eqb p v ≡ true → stands raised p ≡ true = λ t. ap (stands raised) (eqb-true p v t) ∙ up in
    let down : eqb p v ≡ true → stands after p ≡ false = λ t. ap (stands after) (eqb-true p v t) ∙ lowered-itself raised v in
    let other : eqb p v ≡ false → stands raised p ≡ stands after p = λ f. sym (lowered-other raised v p (differ p v f)) in
    let one = one-split (leads_to n k e) (stands raised p) (stands after p) (eqb p v) same down other in
    let rest = count-split raised v n k up edges in
    let before = count-cons (feeds_post (stands raised) n k) e edges in
    let now = count-cons (feeds_post (stands after) n k) e edges in
    let dropped = filter-count (leads_to n k) (λ x. eqb x.provider v) e edges in
    omega arith

-- ---- the edges of one provider

filter-left : (v n : ℕ) (outs : List Out) → eqb n v ≡ true → filter (λ (e : Edge). eqb e.provider v) (map (edge_of n) outs) ≡ map (edge_of n) outs
filter-left v n [] same = refl
filter-left v n (out ∷ outs) same = rw same (ap (λ (es : List Edge). edge_of n out ∷ es) (filter-left v n outs same))

filter-others : (v n : ℕ) (outs : List Out) → eqb n v ≡ false → filter (λ (e : Edge). eqb e.provider v) (map (edge_of n) outs) ≡ []
filter-others v n [] apart = refl
filter-others v n (out ∷ outs) apart = rw apart (filter-others v n outs apart)

-- those of providers that come later are none of v's
later-others : (places : List Place) (leaving : List (List Out)) (v n : ℕ) → v < n → filter (λ (e : Edge). eqb e.provider v) (edges_from places n leaving) ≡ []
later-others places [] v n low = refl
later-others places (outs ∷ more) v n low =
    filter-append (λ (e : Edge). eqb e.provider v) (edges_left places n outs) (edges_from places (n + 1) more)
    ∙ ap (λ (es : List Edge). es ++ filter (λ (e : Edge). eqb e.provider v) (edges_from places (n + 1) more)) (filter-others v n (filter (is_live places) outs) (apart n v low))
    ∙ later-others places more v (n + 1) (omega arith)
  where
    apart : (a b : ℕ) → b < a → eqb a b ≡ false
    apart a b h = by_bool (eqb a b) (eqb a b ≡ false) (λ t. absurd (let e = eqb-true a b t in omega arith)) (λ f. f)

pub append-none : (xs : List Edge) → xs ++ [] ≡ xs
append-none [] = refl
append-none (x ∷ xs) = ap (λ (es : List Edge). x ∷ es) (append-none xs)

-- Of all edges those of one provider are what leaves it.
pub edges-of : (places : List Place) (leaving : List (List Out)) (v n : ℕ) → filter (λ (e : Edge). eqb e.provider (n + v)) (edges_from places n leaving) ≡ edges_left places (n + v) (get_or leaving v [])
edges-of places [] v n = refl
edges-of places (outs ∷ more) zero n =
    let same : eqb n (n + 0) ≡ true = eq-eqb n (n + 0) (omega arith) in
    let here : n ≡ n + 0 = omega arith in
    filter-append (λ (e : Edge). eqb e.provider (n + 0)) (edges_left places n outs) (edges_from places (n + 1) more)
    ∙ ap (λ (es : List Edge). es ++ filter (λ (e : Edge). eqb e.provider (n + 0)) (edges_from places (n + 1) more)) (filter-left (n + 0) n (filter (is_live places) outs) same)
    ∙ ap (λ (es : List Edge). edges_left places n outs ++ es) (later-others places more (n + 0) (n + 1) (omega arith))
    ∙ append-none (edges_left places n outs)
    ∙ ap (λ m. edges_left places m outs) here
edges-of places (outs ∷ more) (suc v) n =
    let apart : eqb n (n + suc v) ≡ false = by_bool (eqb n (n + suc v)) (eqb n (n + suc v) ≡ false) (λ t. absurd (let e = eqb-true n (n + suc v) t in omega arith)) (λ f. f) in
    let next : n + 1 + v ≡ n + suc v = omega arith in
    filter-append (λ (e : Edge). eqb e.provider (n + suc v)) (edges_left places n outs) (edges_from places (n + 1) more)
    ∙ ap (λ (es : List Edge). es ++ filter (λ (e : Edge). eqb e.provider (n + suc v)) (edges_from places (n + 1) more)) (filter-others (n + suc v) n (filter (is_live places) outs) apart)
    ∙ ap (λ m. filter (λ (e : Edge). eqb e.provider m) (edges_from places (n + 1) more)) (sym next)
    ∙ edges-of places more v (n + 1)
    ∙ ap (λ m. edges_left places m (get_or more v [])) next

pub edges-of_node : (places : List Place) (leaving : List (List Out)) (v : ℕ) → filter (λ (e : Edge). eqb e.provider v) (edges_from places 0 leaving) ≡ edges_left places v (get_or leaving v [])
edges-of_node places leaving v =
    let same : 0 + v ≡ v = omega arith in
    ap (λ m. filter (λ (e : Edge). eqb e.provider m) (edges_from places 0 leaving)) (sym same) ∙ edges-of places leaving v 0 ∙ ap (λ m. edges_left places m (get_or leaving v [])) same

-- ---- those of one provider that come after some others

pub left-live : (places : List Place) (v : ℕ) (outs : List Out) (i : ℕ) (d : Out) → i < length outs → is_live places (get_or outs i d) ≡ true
    → edges_left places v (drop i outs) ≡ edge_of v (get_or outs i d) ∷ edges_left places v (drop (i + 1) outs)
left-live places v outs i d low live = rw (drop-cons outs i d, live) (rw add-one refl)

pub left-gone : (places : List Place) (v : ℕ) (outs : List Out) (i : ℕ) (d : Out) → i < length outs → is_live places (get_or outs i d) ≡ false
    → edges_left places v (drop i outs) ≡ edges_left places v (drop (i + 1) outs)
left-gone places v outs i d low gone = rw (drop-cons outs i d, gone) (rw add-one refl)

-- ---- edges whose provider is raised no longer

abbrev was-one : Bool → Bool → Bool → Bool → Type 0
was-one before now after here = one_if (before && not after) ≡ one_if (before && not now) + one_if here

was-split : (before now after here : Bool) → (now ≡ true → before ≡ true) → (here ≡ true → now ≡ true) → (here ≡ true → after ≡ false) → (here ≡ false → now ≡ after) → was-one before now after here
was-split true now after true p q r s = rw (q refl, r refl) refl
was-split true now after false p q r s = rw (s refl) (let same : one_if (not after) ≡ one_if (not after) + 0 = omega arith in same)
was-split false now after true p q r s = absurd (let never : false ≡ true = p (q refl) in cc)
was-split false now after false p q r s = refl

-- none is lost where the same are raised
pub lost-none : (raised : ℕ → Bool) (edges : List Edge) → count_by (was_raised raised raised) edges ≡ 0
lost-none raised [] = refl
lost-none raised (e ∷ edges) =
    let here : one_if (raised e.provider && not (raised e.provider)) ≡ 0 = one (raised e.provider) in
    let rest = lost-none raised edges in
    let all = count-cons (was_raised raised raised) e edges in
    omega arith
  where
    one : (b : Bool) → one_if (b && not b) ≡ 0
    one true = refl
    one false = refl

pub lost-more : (before : ℕ → Bool) (raised : List Bool) (v : ℕ) → ((n : ℕ) → stands raised n ≡ true → before n ≡ true) → stands raised v ≡ true → (edges : List Edge)
    → count_by (was_raised before (stands (set raised v false))) edges ≡ count_by (was_raised before (stands raised)) edges + length (filter (λ e. eqb e.provider v) edges)
lost-more before raised v less up [] = refl
lost-more before raised v less up (e ∷ edges) =
    let p = e.provider in
    let after = set raised v false in
    let same : eqb p v ≡ true → stands raised p ≡ true = λ t. ap (stands raised) (eqb-true p v t) ∙ up in
    let down : eqb p v ≡ true → stands after p ≡ false = λ t. ap (stands after) (eqb-true p v t) ∙ lowered-itself raised v in
    let other : eqb p v ≡ false → stands raised p ≡ stands after p = λ f. sym (lowered-other raised v p (differ p v f)) in
    let one = was-split (before p) (stands raised p) (stands after p) (eqb p v) (less p) same down other in
    let rest = lost-more before raised v less up edges in
    let was = count-cons (was_raised before (stands after)) e edges in
    let now = count-cons (was_raised before (stands raised)) e edges in
    let more : length (filter (λ x. eqb x.provider v) (e ∷ edges)) ≡ one_if (eqb p v) + length (filter (λ x. eqb x.provider v) edges) = length-filter_cons (λ x. eqb x.provider v) e edges in
    omega arith
  where
    length-filter_cons : (q : Edge → Bool) (e : Edge) (edges : List Edge) → length (filter q (e ∷ edges)) ≡ one_if (q e) + length (filter q edges)
    length-filter_cons q e edges =
        by_bool (q e) (length (filter q (e ∷ edges)) ≡ one_if (q e) + length (filter q edges))
        (λ t. rw t (let more : suc (length (filter q edges)) ≡ 1 + length (filter q edges) = omega arith in more))
        (λ f. rw f (let same : length (filter q edges) ≡ 0 + length (filter q edges) = omega arith in same))
