-- A node that is not able goes, with its edges: what is matched stays.
use Rattle.std.proofs.Common.{◌≡◌, ℕ, ◌+◌, ◌<◌, ◌≤◌, ◌≢◌, Bool, true, false, not, ◌&&◌, cond, eqb, List, [], ◌∷◌, ◌++◌, length, get_or, set, zero, suc, map, filter, count_by, refl, sym, ap, ◌∙◌, subst, arith, eq-eqb}
use Rattle.std.specs.List.{All}
use Rattle.std.proofs.lemmas.Bool.{eqb-true}
use Rattle.std.proofs.lemmas.List.{length-set, get_or-set_same, get_or-set_other}
use Rattle.std.proofs.lemmas.List.Elements.{filter-append}
use Rattle.cq_atom.specs.declared.edge.Edge.{Edge}
use Rattle.cq_match.specs.declared.graph.Place.{Place}
use Rattle.cq_match.specs.declared.graph.Out.{Out}
use Rattle.cq_match.specs.Graph.{leads_to}
use Rattle.cq_match.specs.Matcher.{is_apart}
use Rattle.cq_match.specs.Steps.Settle.{stands}
use Rattle.cq_match.specs.Steps.Kept.{free, place_at, count_at, is_live, edge_of, edges_left, edges_from, feeds_post, IsKept}
use Rattle.cq_match.proofs.Tests.{by_bool, and_left, and_right, both}
use Rattle.cq_match.proofs.Rows.{differ, row}
use Rattle.cq_match.proofs.Edges.{one_if, count-cons, some-counted, counted-some, filter-count, edges-of_node}
use Rattle.cq_match.proofs.Flags.{unmatched}

-- ---- counts over a part of the edges

-- what passes stands in the part: the part counts as all do
pub count-part : (q part : Edge → Bool) → ((e : Edge) → part e ≡ false → q e ≡ false) → (edges : List Edge) → count_by q (filter part edges) ≡ count_by q edges
count-part q part none [] = refl
count-part q part none (e ∷ edges) =
    let rest = count-part q part none edges in
    let first = filter-count q part e edges in
    let all = count-cons q e edges in
    by_bool (part e) (count_by q (filter part (e ∷ edges)) ≡ count_by q (e ∷ edges))
    (λ t. let here : cond (part e) (one_if (q e)) 0 ≡ one_if (q e) = rw t refl in omega arith)
    (λ f. let here : cond (part e) (one_if (q e)) 0 ≡ 0 = rw f refl in let no : one_if (q e) ≡ 0 = ap one_if (none e f) in omega arith)

pub part-less : (q part : Edge → Bool) (edges : List Edge) → count_by q (filter part edges) ≤ count_by q edges
part-less q part [] = omega arith
part-less q part (e ∷ edges) =
    let rest = part-less q part edges in
    let first = filter-count q part e edges in
    let all = count-cons q e edges in
    by_bool (part e) (count_by q (filter part (e ∷ edges)) ≤ count_by q (e ∷ edges))
    (λ t. let here : cond (part e) (one_if (q e)) 0 ≡ one_if (q e) = rw t refl in omega arith)
    (λ f. let here : cond (part e) (one_if (q e)) 0 ≡ 0 = rw f refl in omega arith)

filter-less : (part : Edge → Bool) (edges : List Edge) → length (filter part edges) ≤ length edges
filter-less part [] = omega arith
filter-less part (e ∷ edges) =
    let rest = filter-less part edges in
    let all : length (e ∷ edges) ≡ length edges + 1 = (let m : suc (length edges) ≡ length edges + 1 = omega arith in m) in
    by_bool (part e) (length (filter part (e ∷ edges)) ≤ length (e ∷ edges))
    (λ t. rw t (let m : suc (length (filter part edges)) ≤ suc (length edges) = omega arith in m))
    (λ f. rw f (omega arith))

-- whatever passes stands in just one of two parts
pub count-parts : (q one other : Edge → Bool) → ((e : Edge) → q e ≡ true → one e ≡ not (other e)) → (edges : List Edge) → count_by q (filter one edges) + count_by q (filter other edges) ≡ count_by q edges
count-parts q one other apart [] = refl
count-parts q one other apart (e ∷ edges) =
    let rest = count-parts q one other apart edges in
    let first = filter-count q one e edges in
    let second = filter-count q other e edges in
    let all = count-cons q e edges in
    by_bool (q e) (count_by q (filter one (e ∷ edges)) + count_by q (filter other (e ∷ edges)) ≡ count_by q (e ∷ edges))
    (λ t.
    let yes : one_if (q e) ≡ 1 = ap one_if t in
    let which = apart e t in
    by_bool (other e) (count_by q (filter one (e ∷ edges)) + count_by q (filter other (e ∷ edges)) ≡ count_by q (e ∷ edges))
    (λ u. let a : cond (one e) (one_if (q e)) 0 ≡ 0 = rw (which, u) refl in let b : cond (other e) (one_if (q e)) 0 ≡ one_if (q e) = rw u refl in omega arith)
    (λ u. let a : cond (one e) (one_if (q e)) 0 ≡ one_if (q e) = rw (which, u) refl in let b : cond (other e) (one_if (q e)) 0 ≡ 0 = rw u refl in omega arith))
    (λ f.
    let no : one_if (q e) ≡ 0 = ap one_if f in
    let a : cond (one e) (one_if (q e)) 0 ≡ 0 = rw f (always (one e)) in
    let b : cond (other e) (one_if (q e)) 0 ≡ 0 = rw f (always (other e)) in
    omega arith)
  where
    always : (b : Bool) → let n : ℕ = 0 in cond b n n ≡ n
    always true = refl
    always false = refl

-- ---- the edges that are left

module _ (places : List Place) (node : ℕ) (low : node < length places) where
  abbrev pub without : List Place
  without = set places node free

  pub erased-here : place_at without node ≡ free
  erased-here = get_or-set_same places node free free low

  pub erased-other : (m : ℕ) → m ≢ node → place_at without m ≡ place_at places m
  erased-other m apart = get_or-set_other places node m free free apart

  live-without : (out : Out) → is_live without out ≡ (is_live places out && not (eqb out.waiter node))
  live-without out =
      by_bool (eqb out.waiter node) (is_live without out ≡ (is_live places out && not (eqb out.waiter node)))
      (λ t.
      let now : is_live without out ≡ false = ap (λ m. (place_at without m).taken && eqb (place_at without m).stamp out.stamp) (eqb-true out.waiter node t) ∙ ap (λ (q : Place). q.taken && eqb q.stamp out.stamp) erased-here in
      now ∙ sym (ap (λ (b : Bool). is_live places out && not b) t ∙ and-false (is_live places out)))
      (λ f.
      let now : is_live without out ≡ is_live places out = ap (λ (q : Place). q.taken && eqb q.stamp out.stamp) (erased-other out.waiter (differ out.waiter node f)) in
      now ∙ sym (ap (λ (b : Bool). is_live places out && not b) f ∙ and-true (is_live places out)))
    where
      and-false : (b : Bool) → (b && false) ≡ false
      and-false true = refl
      and-false false = refl

      and-true : (b : Bool) → (b && true) ≡ b
      and-true true = refl
      and-true false = refl

  -- of another provider's edges those are left that do not lead to the node
  left-without : (m : ℕ) (outs : List Out) → eqb m node ≡ false → edges_left without m outs ≡ filter (is_apart node) (edges_left places m outs)
  left-without m [] apart = refl
  left-without m (out ∷ outs) apart =
      let rest = left-without m outs apart in
      let live = live-without out in
      by_bool (is_live places out) (edges_left without m (out ∷ outs) ≡ filter (is_apart node) (edges_left places m (out ∷ outs)))
      (λ t. by_bool (eqb out.waiter node) (edges_left without m (out ∷ outs) ≡ filter (is_apart node) (edges_left places m (out ∷ outs)))
      (λ u. let gone : is_live without out ≡ false = live ∙ rw (t, u) refl in rw (gone, t, apart, u) rest)
      (λ u. let stays : is_live without out ≡ true = live ∙ rw (t, u) refl in rw (stays, t, apart, u) (ap (λ (es : List Edge). edge_of m out ∷ es) rest)))
      (λ f. let gone : is_live without out ≡ false = live ∙ rw f refl in rw (gone, f) rest)

  -- of the node's own edges none is left
  own-gone : (outs : List Out) → filter (is_apart node) (map (edge_of node) outs) ≡ []
  own-gone [] = refl
  own-gone (out ∷ outs) = rw (eq-eqb node node refl) (own-gone outs)

  edges-without_from : (leaving : List (List Out)) (n j : ℕ) → n + j ≡ node → edges_from without n (set leaving j []) ≡ filter (is_apart node) (edges_from places n leaving)
  edges-without_from [] n j at = refl
  edges-without_from (outs ∷ rest) n zero at =
      let is : n ≡ node = (let z : n + 0 ≡ n = omega arith in sym z ∙ at) in
      let own : filter (is_apart node) (edges_left places n outs) ≡ [] = ap (λ m. filter (is_apart node) (edges_left places m outs)) is ∙ own-gone (filter (is_live places) outs) in
      later rest (n + 1) (omega arith) ∙ sym (filter-append (is_apart node) (edges_left places n outs) (edges_from places (n + 1) rest) ∙ ap (λ (es : List Edge). es ++ filter (is_apart node) (edges_from places (n + 1) rest)) own)
    where
      later : (leaving : List (List Out)) (m : ℕ) → node < m → edges_from without m leaving ≡ filter (is_apart node) (edges_from places m leaving)
      later [] m behind = refl
      later (outs ∷ rest) m behind =
          let other : eqb m node ≡ false = by_bool (eqb m node) (eqb m node ≡ false) (λ t. absurd (let e = eqb-true m node t in omega arith)) (λ f. f) in
          ap (λ (es : List Edge). es ++ edges_from without (m + 1) rest) (left-without m outs other)
          ∙ ap (λ (es : List Edge). filter (is_apart node) (edges_left places m outs) ++ es) (later rest (m + 1) (omega arith))
          ∙ sym (filter-append (is_apart node) (edges_left places m outs) (edges_from places (m + 1) rest))
  edges-without_from (outs ∷ rest) n (suc j) at =
      let other : eqb n node ≡ false = by_bool (eqb n node) (eqb n node ≡ false) (λ t. absurd (let e = eqb-true n node t in omega arith)) (λ f. f) in
      ap (λ (es : List Edge). es ++ edges_from without (n + 1) (set rest j [])) (left-without n outs other)
      ∙ ap (λ (es : List Edge). filter (is_apart node) (edges_left places n outs) ++ es) (edges-without_from rest (n + 1) j (omega arith))
      ∙ sym (filter-append (is_apart node) (edges_left places n outs) (edges_from places (n + 1) rest))

  -- The edges that are left are those that do not touch the node.
  pub edges-without : (leaving : List (List Out)) → edges_from without 0 (set leaving node []) ≡ filter (is_apart node) (edges_from places 0 leaving)
  edges-without leaving = edges-without_from leaving 0 node (omega arith)

  apart-from : (e : Edge) → is_apart node e ≡ false → (e.provider ≢ node) → e.waiter ≡ node
  apart-from e f other =
      by_bool (eqb e.waiter node) (e.waiter ≡ node) (λ t. eqb-true e.waiter node t)
      (λ g. absurd (
      let here : eqb e.provider node ≡ false = by_bool (eqb e.provider node) (eqb e.provider node ≡ false) (λ t. absurd (other (eqb-true e.provider node t))) (λ h. h) in
      let never : true ≡ false = sym (both (not (eqb e.provider node)) (not (eqb e.waiter node)) (ap not here) (ap not g)) ∙ f in cc))

  -- a set without the node is fed by the edges that are left
  fed-without : (members : ℕ → Bool) → members node ≡ false → (n k : ℕ) → n ≢ node → (edges : List Edge) → count_by (feeds_post members n k) (filter (is_apart node) edges) ≡ count_by (feeds_post members n k) edges
  fed-without members out n k other edges =
      count-part (feeds_post members n k) (is_apart node)
      (λ e f. by_bool (feeds_post members n k e) (feeds_post members n k e ≡ false)
      (λ t. absurd (
      let leads = and_left (leads_to n k e) (members e.provider) t in
      let from = and_right (leads_to n k e) (members e.provider) t in
      let provider : e.provider ≢ node = λ is. let never : false ≡ true = sym out ∙ ap members (sym is) ∙ from in absurd cc in
      other (sym (eqb-true e.waiter n (and_left (eqb e.waiter n) (eqb e.post k) leads)) ∙ apart-from e f provider)))
      (λ g. g)) edges

  -- of the edges to another node those are left that the node does not provide
  leads-without : (n k : ℕ) → n ≢ node → (edges : List Edge) → count_by (leads_to n k) (filter (is_apart node) edges) + count_by (leads_to n k) (filter (λ e. eqb e.provider node) edges) ≡ count_by (leads_to n k) edges
  leads-without n k other edges =
      count-parts (leads_to n k) (is_apart node) (λ e. eqb e.provider node)
      (λ e t.
      let is : e.waiter ≡ n = eqb-true e.waiter n (and_left (eqb e.waiter n) (eqb e.post k) t) in
      let waiter : eqb e.waiter node ≡ false = by_bool (eqb e.waiter node) (eqb e.waiter node ≡ false) (λ u. absurd (other (sym is ∙ eqb-true e.waiter node u))) (λ f. f) in
      ap (λ (b : Bool). not (eqb e.provider node) && not b) waiter ∙ and-true (not (eqb e.provider node))) edges
    where
      and-true : (b : Bool) → (b && true) ≡ b
      and-true true = refl
      and-true false = refl

  leads-nowhere : (k : ℕ) (edges : List Edge) → count_by (leads_to node k) (filter (is_apart node) edges) ≡ 0
  leads-nowhere k [] = refl
  leads-nowhere k (e ∷ edges) =
      let rest = leads-nowhere k edges in
      by_bool (is_apart node e) (count_by (leads_to node k) (filter (is_apart node) (e ∷ edges)) ≡ 0)
      (λ t.
      let first = count-cons (leads_to node k) e (filter (is_apart node) edges) in
      let waiter = and_right (not (eqb e.provider node)) (not (eqb e.waiter node)) t in
      let no : one_if (leads_to node k e) ≡ 0 = ap one_if (by_bool (leads_to node k e) (leads_to node k e ≡ false)
      (λ u. absurd (let never : false ≡ true = ap not (sym (and_left (eqb e.waiter node) (eqb e.post k) u)) ∙ waiter in cc)) (λ f. f)) in
      let all : count_by (leads_to node k) (e ∷ filter (is_apart node) edges) ≡ 0 = omega arith in
      rw t all)
      (λ f. rw f rest)

  pub erased-kept : (leaving : List (List Out)) (totals lowered : List (List ℕ)) (matched raised : List Bool) (counts : List (List ℕ)) (waiting reached : List ℕ) (room number next : ℕ)
      → IsKept places leaving totals matched raised counts waiting reached room number next → (place_at places node).able ≡ false → 0 < next
      → length lowered ≡ length places → ((n : ℕ) → length (row lowered n) ≡ (place_at places n).posts)
      → ((n k : ℕ) → count_at lowered n k + count_by (leads_to n k) (edges_left places node (get_or leaving node [])) ≡ count_at totals n k)
      → IsKept without (set leaving node []) (set lowered node []) matched raised (set counts node []) waiting reached room number next
  erased-kept leaving totals lowered matched raised counts waiting reached room number next k unable some lowered_len lowered_row lowers =
      let edges : List Edge = edges_from places 0 leaving in
      let left : List Edge = filter (is_apart node) edges in
      let s = k.settled in
      let same = edges-without leaving in
      let len = length-set places node free in
      let down : stands matched node ≡ false = unmatched places edges matched node s.closed unable in
      let raised_down : stands raised node ≡ false = ap (λ (bs : List Bool). stands bs node) s.same ∙ down in
      let off : (members : ℕ → Bool) → members node ≡ false → (n : ℕ) → members n ≡ true → n ≢ node = λ members out n t e. let never : false ≡ true = sym out ∙ ap members (sym e) ∙ t in absurd cc in
      let no_row : (rows : List (List ℕ)) → length rows ≡ length places → get_or (set rows node []) node [] ≡ [] = λ rows l. get_or-set_same rows node [] [] (omega arith) in
      let no_post : (n j : ℕ) → j < (place_at without n).posts → n ≢ node = λ n j inside e. let p : (place_at without n).posts ≡ 0 = ap (λ m. (place_at without m).posts) e ∙ ap (λ (q : Place). q.posts) erased-here in absurd (omega arith) in
      let rows_of : (rows : List (List ℕ)) → length rows ≡ length places → ((n : ℕ) → length (row rows n) ≡ (place_at places n).posts) → (n : ℕ) → length (row (set rows node []) n) ≡ (place_at without n).posts = λ rows l h n.
      by_bool (eqb n node) (length (row (set rows node []) n) ≡ (place_at without n).posts)
      (λ t. let is = eqb-true n node t in ap (λ m. length (row (set rows node []) m)) is ∙ ap length (no_row rows l) ∙ sym (ap (λ (q : Place). q.posts) erased-here) ∙ ap (λ m. (place_at without m).posts) (sym is))
      (λ f. ap length (get_or-set_other rows node n [] [] (differ n node f)) ∙ h n ∙ ap (λ (q : Place). q.posts) (sym (erased-other n (differ n node f)))) in
      let outs_of : (Q : Out → Type 0) → ((n : ℕ) → All Q (get_or leaving n [])) → (n : ℕ) → All Q (get_or (set leaving node []) n []) = λ Q h n.
      by_bool (eqb n node) (All Q (get_or (set leaving node []) n []))
      (λ t. let is = eqb-true n node t in
      let none : get_or (set leaving node []) n [] ≡ [] = ap (λ m. get_or (set leaving node []) m []) is ∙ get_or-set_same leaving node [] [] (let l = k.leaving_len in omega arith) in
      subst (λ (os : List Out). All Q os) (sym none) (λ i d inside. absurd (let nothing : i < 0 = inside in omega arith)))
      (λ f. subst (λ (os : List Out). All Q os) (sym (get_or-set_other leaving node n [] [] (differ n node f))) (h n)) in
      record {
        leaving_len = length-set leaving node [] ∙ k.leaving_len ∙ sym len;
        totals_len = length-set lowered node [] ∙ lowered_len ∙ sym len;
        fit = outs_of (λ out. is_live without out ≡ true → out.post < (place_at without out.waiter).posts)
            (λ n i d inside alive.
            let out = get_or (get_or leaving n []) i d in
            let both_hold = sym (live-without out) ∙ alive in
            let was = and_left (is_live places out) (not (eqb out.waiter node)) both_hold in
            let other : out.waiter ≢ node = λ e. let never : false ≡ true = ap not (sym (eq-eqb out.waiter node e)) ∙ and_right (is_live places out) (not (eqb out.waiter node)) both_hold in absurd cc in
            let fits = k.fit n i d inside was in
            let p = ap (λ (q : Place). q.posts) (erased-other out.waiter other) in
            omega arith);
        totals_row = rows_of lowered lowered_len lowered_row;
        totaled = λ n j. by_bool (eqb n node) (count_at (set lowered node []) n j ≡ count_by (leads_to n j) (edges_from without 0 (set leaving node [])))
            (λ t. let is = eqb-true n node t in
            ap (λ m. count_at (set lowered node []) m j) is ∙ ap (λ (r : List ℕ). get_or r j 0) (no_row lowered lowered_len)
            ∙ sym (leads-nowhere j edges) ∙ ap (λ m. count_by (leads_to m j) left) (sym is) ∙ ap (λ (es : List Edge). count_by (leads_to n j) es) (sym same))
            (λ f.
            let at : count_at (set lowered node []) n j ≡ count_at lowered n j = ap (λ (r : List ℕ). get_or r j 0) (get_or-set_other lowered node n [] [] (differ n node f)) in
            let parts = leads-without n j (differ n node f) edges in
            let own : count_by (leads_to n j) (filter (λ e. eqb e.provider node) edges) ≡ count_by (leads_to n j) (edges_left places node (get_or leaving node [])) = ap (count_by (leads_to n j)) (edges-of_node places leaving node) in
            let l = lowers n j in
            let t = k.totaled n j in
            let now : count_at (set lowered node []) n j ≡ count_by (leads_to n j) left = omega arith in
            now ∙ ap (λ (es : List Edge). count_by (leads_to n j) es) (sym same));
        settled = rw same (record {
          matched_len = s.matched_len ∙ sym len;
          same = s.same;
          counting = record {
            counts_len = length-set counts node [] ∙ s.counting.counts_len ∙ sym len;
            row_len = rows_of counts s.counting.counts_len s.counting.row_len;
            counted = λ n j inside.
                let other = no_post n j inside in
                let at : count_at (set counts node []) n j ≡ count_at counts n j = ap (λ (r : List ℕ). get_or r j 0) (get_or-set_other counts node n [] [] other) in
                let p = ap (λ (q : Place). q.posts) (erased-other n other) in
                let c = s.counting.counted n j (omega arith) in
                let f = fed-without (stands raised) raised_down n j other edges in
                omega arith;
          };
          closed = record {
            able = λ n t. ap (λ (q : Place). q.able) (erased-other n (off (stands matched) down n t)) ∙ s.closed.able n t;
            fed = λ n j t inside.
                let other = off (stands matched) down n t in
                let p = ap (λ (q : Place). q.posts) (erased-other n other) in
                let fed = some-counted (feeds_post (stands matched) n j) edges (s.closed.fed n j t (omega arith)) in
                let f = fed-without (stands matched) down n j other edges in
                counted-some (feeds_post (stands matched) n j) left (omega arith);
          };
          greatest = λ members closed n t.
              let out : members node ≡ false = by_bool (members node) (members node ≡ false) (λ u. absurd (let never : false ≡ true = sym (ap (λ (q : Place). q.able) erased-here) ∙ closed.able node u in cc)) (λ f. f) in
              s.greatest members (record {
                able = λ m u. ap (λ (q : Place). q.able) (sym (erased-other m (off members out m u))) ∙ closed.able m u;
                fed = λ m j u inside.
                    let p = ap (λ (q : Place). q.posts) (erased-other m (off members out m u)) in
                    let fed = some-counted (feeds_post members m j) left (closed.fed m j u (omega arith)) in
                    let less = part-less (feeds_post members m j) (is_apart node) edges in
                    counted-some (feeds_post members m j) edges (omega arith);
              }) n t;
        });
        none_waits = k.none_waits;
        none_reached = k.none_reached;
        roomy = let r = k.roomy in omega arith;
        numbered = let n = k.numbered in let l = ap length same in let f = filter-less (is_apart node) edges in omega arith;
        older = λ n. by_bool (eqb n node) ((place_at without n).stamp < next)
            (λ t. let at : (place_at without n).stamp ≡ 0 = ap (λ m. (place_at without m).stamp) (eqb-true n node t) ∙ ap (λ (q : Place). q.stamp) erased-here in omega arith)
            (λ f. let at = ap (λ (q : Place). q.stamp) (erased-other n (differ n node f)) in let o = k.older n in omega arith);
        outs_older = outs_of (λ out. out.stamp < next) k.outs_older;
        able_taken = λ n t. by_bool (eqb n node) ((place_at without n).taken ≡ true)
            (λ u. absurd (let never : false ≡ true = sym (ap (λ m. (place_at without m).able) (eqb-true n node u) ∙ ap (λ (q : Place). q.able) erased-here) ∙ t in cc))
            (λ f. ap (λ (q : Place). q.taken) (erased-other n (differ n node f)) ∙ k.able_taken n (ap (λ (q : Place). q.able) (sym (erased-other n (differ n node f))) ∙ t));
        free_posts = λ n t. by_bool (eqb n node) ((place_at without n).posts ≡ 0)
            (λ u. ap (λ m. (place_at without m).posts) (eqb-true n node u) ∙ ap (λ (q : Place). q.posts) erased-here)
            (λ f. ap (λ (q : Place). q.posts) (erased-other n (differ n node f)) ∙ k.free_posts n (ap (λ (q : Place). q.taken) (sym (erased-other n (differ n node f))) ∙ t));
        free_leaving = λ n t. by_bool (eqb n node) (get_or (set leaving node []) n [] ≡ [])
            (λ u. ap (λ m. get_or (set leaving node []) m []) (eqb-true n node u) ∙ get_or-set_same leaving node [] [] (let l = k.leaving_len in omega arith))
            (λ f. get_or-set_other leaving node n [] [] (differ n node f) ∙ k.free_leaving n (ap (λ (q : Place). q.taken) (sym (erased-other n (differ n node f))) ∙ t));
      }
