-- What stays true while nodes are taken as matched.
use Rattle.std.proofs.Common.{◌≡◌, ℕ, ◌+◌, ◌<◌, ◌≤◌, ◌⊎◌, inl, inr, Bool, true, false, not, cond, if◌then◌else◌, ◌&&◌, eqb, ltb, List, [], ◌∷◌, ◌++◌, length, get_or, set, zero, suc, take, map, filter, count_by, refl, sym, ap, ◌∙◌, arith, eq-eqb}
use borrow.Author.Tests.{ltb-true, ltb-false}
use Rattle.std.proofs.lemmas.Bool.{eqb-true}
use Rattle.std.proofs.lemmas.List.{length-set, length-append, get_or-set_same, get_or-set_other, get_or_append_left, get_or_push, take_more}
use Rattle.std.proofs.lemmas.List.Elements.{All-push, filter-append}
use Rattle.std.proofs.lemmas.List.Sums.{sum_by-set, count_by-le-length}
use Rattle.cq_atom.specs.declared.edge.Edge.{Edge}
use Rattle.cq_match.specs.declared.graph.Place.{Place}
use Rattle.cq_match.specs.declared.graph.Out.{Out}
use Rattle.cq_match.specs.Graph.{leads_to}
use Rattle.cq_match.specs.Steps.Settle.{stands}
use Rattle.cq_match.specs.Steps.Kept.{place_at, count_at, is_live, edge_of, edges_left, feeds_post, Counting, Grown, Reaches}
use Rattle.cq_match.proofs.Tests.{by_bool, and_left, and_right, both}
use Rattle.cq_match.proofs.Rows.{differ, post-placed, row, with_count, count-cases, row-len}
use Rattle.cq_match.proofs.Edges.{one_if, count-cons, count-split}

-- ---- an edge is counted

module _ (places : List Place) (edges : List Edge) (raised : List Bool) (counts : List (List ℕ)) (e : Edge) (left : List Edge) (p : Counting places edges raised counts (e ∷ left)) (fits : e.post < (place_at places e.waiter).posts) where
  abbrev more : ℕ
  more = count_at counts e.waiter e.post + 1

  abbrev counts-more : List (List ℕ)
  counts-more = with_count counts e.waiter e.post more

  pub raise-waiter_low : e.waiter < length counts
  raise-waiter_low = let low = post-placed places e.waiter e.post fits in let len = p.counts_len in omega arith

  pub raise-post_low : e.post < length (row counts e.waiter)
  raise-post_low = let len = p.row_len e.waiter in omega arith

  pub raise-fits : (most : ℕ) → length edges ≤ most → count_at counts e.waiter e.post < most
  raise-fits most few =
      let all = p.counted e.waiter e.post fits in
      let here : leads_to e.waiter e.post e ≡ true = both (eqb e.waiter e.waiter) (eqb e.post e.post) (eq-eqb e.waiter e.waiter refl) (eq-eqb e.post e.post refl) in
      let one : one_if (leads_to e.waiter e.post e) ≡ 1 = ap one_if here in
      let first = count-cons (leads_to e.waiter e.post) e left in
      let most_edges = count_by-le-length (feeds_post (stands raised) e.waiter e.post) edges in
      omega arith

  pub raise-counting : Counting places edges raised counts-more left
  raise-counting = record {
    counts_len = length-set counts e.waiter (set (row counts e.waiter) e.post more) ∙ p.counts_len;
    row_len = λ n. row-len counts e.waiter e.post more n ∙ p.row_len n;
    counted = λ n k low.
        let all = p.counted n k low in
        let first = count-cons (leads_to n k) e left in
        count-cases counts e.waiter e.post more n k (λ x. x + count_by (leads_to n k) left ≡ count_by (feeds_post (stands raised) n k) edges) raise-waiter_low raise-post_low
        (λ is also.
        let here : leads_to n k e ≡ true = both (eqb e.waiter n) (eqb e.post k) (eq-eqb e.waiter n (sym is)) (eq-eqb e.post k (sym also)) in
        let one : one_if (leads_to n k e) ≡ 1 = ap one_if here in
        let at : count_at counts e.waiter e.post ≡ count_at counts n k = ap (λ m. count_at counts m e.post) (sym is) ∙ ap (count_at counts n) (sym also) in
        omega arith)
        (λ apart.
        let none : one_if (leads_to n k e) ≡ 0 = ap one_if (by_bool (leads_to n k e) (leads_to n k e ≡ false)
        (λ t. absurd (elim apart [
          | inl a ↦ a (sym (eqb-true e.waiter n (and_left (eqb e.waiter n) (eqb e.post k) t)))
          | inr b ↦ b (sym (eqb-true e.post k (and_right (eqb e.waiter n) (eqb e.post k) t)))
        ])) (λ f. f)) in
        omega arith);
  }

-- ---- marks

pub marked-itself : (marks : List Bool) (w : ℕ) → w < length marks → stands (set marks w true) w ≡ true
marked-itself marks w low = get_or-set_same marks w true false low

pub marked-more : (marks : List Bool) (w n : ℕ) → stands marks n ≡ true → stands (set marks w true) n ≡ true
marked-more marks w n up =
    by_bool (eqb n w) (stands (set marks w true) n ≡ true)
    (λ t.
    let is : n ≡ w = eqb-true n w t in
    by_bool (ltb w (length marks)) (stands (set marks w true) n ≡ true)
    (λ u. ap (stands (set marks w true)) is ∙ marked-itself marks w (ltb-true w (length marks) u))
    (λ f. absurd (let past = up-low marks n up in let l = ltb-false w (length marks) f in omega arith)))
    (λ f. get_or-set_other marks w n true false (differ n w f) ∙ up)
  where
    up-low : (marks : List Bool) (n : ℕ) → stands marks n ≡ true → n < length marks
    up-low [] n up = absurd (let never : false ≡ true = up in cc)
    up-low (b ∷ bs) zero up = omega arith
    up-low (b ∷ bs) (suc n) up = let l = up-low bs n up in let next : suc n < suc (length bs) = omega arith in next

pub marked-cases : (marks : List Bool) (w n : ℕ) → stands (set marks w true) n ≡ true → (stands marks n ≡ true) ⊎ (n ≡ w)
marked-cases marks w n up =
    by_bool (eqb n w) ((stands marks n ≡ true) ⊎ (n ≡ w)) (λ t. inr (eqb-true n w t)) (λ f. inl (sym (get_or-set_other marks w n true false (differ n w f)) ∙ up))

pub count-marked : (marks : List Bool) (w : ℕ) → w < length marks → stands marks w ≡ false → count_by (λ mark. mark) (set marks w true) ≡ count_by (λ mark. mark) marks + 1
count-marked marks w low down =
    let change : count_by (λ mark. mark) (set marks w true) + one_if (stands marks w) ≡ count_by (λ mark. mark) marks + 1 = sum_by-set (λ (mark : Bool). cond mark 1 0) marks w true false low in
    let was : one_if (stands marks w) ≡ 0 = ap one_if down in
    omega arith

-- one that is not marked leaves fewer marks than places
pub marks-left : (marks : List Bool) (w : ℕ) → w < length marks → stands marks w ≡ false → count_by (λ mark. mark) marks < length marks
marks-left marks w low down =
    let one = count-marked marks w low down in
    let most : count_by (λ mark. mark) (set marks w true) ≤ length (set marks w true) = count_by-le-length (λ (mark : Bool). mark) (set marks w true) in
    let len = length-set marks w true in
    omega arith

-- ---- more nodes are taken as matched

pub grown-none : (places : List Place) (matched : List Bool) (reached : List ℕ) → Grown places matched reached matched reached
grown-none places matched reached = record {
  len = refl;
  kept = λ n up. up;
  found = λ n up. inl up;
  able = λ n up. inl up;
  front = λ j low. refl;
  longer = omega arith;
  size = refl;
  placed = λ h. h;
  listed = λ h. h;
}

pub grown-one : (places : List Place) (matched : List Bool) (reached : List ℕ) (w : ℕ) → length matched ≡ length places → w < length matched → stands matched w ≡ false → (place_at places w).able ≡ true
    → Grown places matched reached (set matched w true) (reached ++ w ∷ [])
grown-one places matched reached w len low down able =
    let longer : length (reached ++ w ∷ []) ≡ length reached + 1 = length-append reached (w ∷ []) in
    record {
      len = length-set matched w true;
      kept = marked-more matched w;
      found = λ n up. elim (marked-cases matched w n up) [
        | inl was ↦ inl was
        | inr is ↦ inr (length reached, omega arith, omega arith, get_or_push reached w 0 (length reached) refl ∙ sym is)
      ];
      able = λ n up. elim (marked-cases matched w n up) [ inl was ↦ inl was | inr is ↦ inr (ap (λ m. (place_at places m).able) is ∙ able) ];
      front = λ j inside. get_or_append_left reached (w ∷ []) 0 j inside;
      longer = omega arith;
      size = let one = count-marked matched w low down in omega arith;
      placed = λ h. All-push (λ n. n < length places) reached w h (omega arith);
      listed = λ h. All-push (λ n. stands (set matched w true) n ≡ true) reached w (λ k d inside. marked-more matched w (get_or reached k d) (h k d inside)) (marked-itself matched w low);
    }

pub grown-more : (places : List Place) (m0 : List Bool) (r0 : List ℕ) (m1 : List Bool) (r1 : List ℕ) (m2 : List Bool) (r2 : List ℕ) → Grown places m0 r0 m1 r1 → Grown places m1 r1 m2 r2 → Grown places m0 r0 m2 r2
grown-more places m0 r0 m1 r1 m2 r2 a b = record {
  len = b.len ∙ a.len;
  kept = λ n up. b.kept n (a.kept n up);
  found = λ n up. elim (b.found n up) [
    | inl was ↦ elim (a.found n was) [
      | inl first ↦ inl first
      | inr l ↦ inr (l.0, l.1, (let low = l.2 in let more = b.longer in omega arith), b.front l.0 l.2 ∙ l.3)
    ]
    | inr l ↦ inr (l.0, (let from = l.1 in let more = a.longer in omega arith), l.2, l.3)
  ];
  able = λ n up. elim (b.able n up) [ inl was ↦ a.able n was | inr can ↦ inr can ];
  front = λ j low. b.front j (let more = a.longer in omega arith) ∙ a.front j low;
  longer = let f = a.longer in let g = b.longer in omega arith;
  size = let f = a.size in let g = b.size in omega arith;
  placed = λ h. b.placed (a.placed h);
  listed = λ h. b.listed (a.listed h);
}

-- as the code has it: an able waiter is taken as matched, where it is not yet
abbrev pub taken : List Place → List Bool → ℕ → Bool
taken places matched w = (place_at places w).able && not (stands matched w)

not-true : (b : Bool) → not b ≡ true → b ≡ false
not-true true e = sym e
not-true false e = refl

pub take-grown : (places : List Place) (matched : List Bool) (reached : List ℕ) (w : ℕ) → length matched ≡ length places → w < length matched
    → Grown places matched reached (if taken places matched w then set matched w true else matched) (if taken places matched w then reached ++ w ∷ [] else reached)
take-grown places matched reached w len low =
    by_bool (taken places matched w) (Grown places matched reached (if taken places matched w then set matched w true else matched) (if taken places matched w then reached ++ w ∷ [] else reached))
    (λ t. rw t (grown-one places matched reached w len low (not-true (stands matched w) (and_right (place_at places w).able (not (stands matched w)) t)) (and_left (place_at places w).able (not (stands matched w)) t)))
    (λ f. rw f (grown-none places matched reached))

pub take-reaches : (places : List Place) (matched : List Bool) (w : ℕ) → w < length matched → (place_at places w).able ≡ true → stands (if taken places matched w then set matched w true else matched) w ≡ true
take-reaches places matched w low able =
    by_bool (taken places matched w) (stands (if taken places matched w then set matched w true else matched) w ≡ true)
    (λ t. rw t (marked-itself matched w low))
    (λ f. rw f (by_bool (stands matched w) (stands matched w ≡ true) (λ u. u)
    (λ d. absurd (let never : false ≡ true = sym f ∙ both (place_at places w).able (not (stands matched w)) able (ap not d) in cc))))

pub reaches-kept : (places : List Place) (small large : List Bool) (edges : List Edge) → ((n : ℕ) → stands small n ≡ true → stands large n ≡ true) → Reaches places small edges → Reaches places large edges
reaches-kept places small large edges kept h k d low able = kept (get_or edges k d).waiter (h k d low able)

-- one edge more, whose waiter is taken
pub take-reaches_more : (places : List Place) (matched : List Bool) (edges : List Edge) (e : Edge) → e.waiter < length matched → Reaches places matched edges
    → Reaches places (if taken places matched e.waiter then set matched e.waiter true else matched) (edges ++ e ∷ [])
take-reaches_more places matched edges e low h =
    let after : List Bool = if taken places matched e.waiter then set matched e.waiter true else matched in
    let kept : (n : ℕ) → stands matched n ≡ true → stands after n ≡ true = λ n up.
    by_bool (taken places matched e.waiter) (stands after n ≡ true) (λ t. rw t (marked-more matched e.waiter n up)) (λ f. rw f up) in
    All-push (λ (x : Edge). (place_at places x.waiter).able ≡ true → stands after x.waiter ≡ true) edges e (reaches-kept places matched after edges kept h) (take-reaches places matched e.waiter low)

-- ---- the first edges of one provider

map-push : (v : ℕ) (outs : List Out) (out : Out) → map (edge_of v) (outs ++ out ∷ []) ≡ map (edge_of v) outs ++ edge_of v out ∷ []
map-push v [] out = refl
map-push v (o ∷ outs) out = ap (λ (es : List Edge). edge_of v o ∷ es) (map-push v outs out)

pub first-live : (places : List Place) (v : ℕ) (outs : List Out) (i : ℕ) (d : Out) → i < length outs → is_live places (get_or outs i d) ≡ true
    → edges_left places v (take (i + 1) outs) ≡ edges_left places v (take i outs) ++ edge_of v (get_or outs i d) ∷ []
first-live places v outs i d low live =
    let out = get_or outs i d in
    let one : filter (is_live places) (out ∷ []) ≡ out ∷ [] = rw live refl in
    ap (edges_left places v) (take_more outs i d low)
    ∙ ap (map (edge_of v)) (filter-append (is_live places) (take i outs) (out ∷ []) ∙ ap (λ (os : List Out). filter (is_live places) (take i outs) ++ os) one)
    ∙ map-push v (filter (is_live places) (take i outs)) out

append-none : (xs : List Out) → xs ++ [] ≡ xs
append-none [] = refl
append-none (x ∷ xs) = ap (λ (os : List Out). x ∷ os) (append-none xs)

pub first-gone : (places : List Place) (v : ℕ) (outs : List Out) (i : ℕ) (d : Out) → i < length outs → is_live places (get_or outs i d) ≡ false
    → edges_left places v (take (i + 1) outs) ≡ edges_left places v (take i outs)
first-gone places v outs i d low gone =
    let out = get_or outs i d in
    let none : filter (is_live places) (out ∷ []) ≡ [] = rw gone refl in
    ap (edges_left places v) (take_more outs i d low)
    ∙ ap (map (edge_of v)) (filter-append (is_live places) (take i outs) (out ∷ []) ∙ ap (λ (os : List Out). filter (is_live places) (take i outs) ++ os) none ∙ append-none (filter (is_live places) (take i outs)))

-- ---- a node is raised

pub raised-back : (raised : List Bool) (v : ℕ) → stands raised v ≡ false → v < length raised → set (set raised v true) v false ≡ raised
raised-back [] v down low = absurd (let none : v < 0 = low in omega arith)
raised-back (b ∷ bs) zero down low = ap (λ (c : Bool). c ∷ bs) (sym down)
raised-back (b ∷ bs) (suc v) down low = ap (λ (cs : List Bool). b ∷ cs) (raised-back bs v down (let l : suc v < suc (length bs) = low in omega arith))

pub start-raising : (places : List Place) (edges : List Edge) (raised : List Bool) (counts : List (List ℕ)) (v : ℕ) → Counting places edges raised counts [] → v < length raised → stands raised v ≡ false
    → Counting places edges (set raised v true) counts (filter (λ e. eqb e.provider v) edges)
start-raising places edges raised counts v p low down = record {
  counts_len = p.counts_len;
  row_len = p.row_len;
  counted = λ n k inside.
      let parts = count-split (set raised v true) v n k (marked-itself raised v low) edges in
      let back : count_by (feeds_post (stands (set (set raised v true) v false)) n k) edges ≡ count_by (feeds_post (stands raised) n k) edges =
      ap (λ (r : List Bool). count_by (feeds_post (stands r) n k) edges) (raised-back raised v down low) in
      let all = p.counted n k inside in
      let none : count_by (leads_to n k) [] ≡ 0 = refl in
      omega arith;
}
