-- A node that is not able takes a free place: edges stay, and what is matched stays.
use Rattle.std.proofs.Common.{◌≡◌, ℕ, ◌+◌, ◌<◌, ◌≤◌, ◌≢◌, Bool, true, false, ◌&&◌, eqb, List, [], ◌∷◌, ◌++◌, length, get_or, set, zero, suc, map, filter, replicate, count_by, refl, sym, ap, ◌∙◌, arith}
use Rattle.std.specs.List.{All}
use Rattle.std.proofs.lemmas.Bool.{eqb-true}
use Rattle.std.proofs.lemmas.List.{length-set, length-replicate, get_or-set_same, get_or-set_other, get_or_past}
use Rattle.std.proofs.lemmas.List.Elements.{All-head, All-tail}
use Rattle.cq_atom.specs.declared.edge.Edge.{Edge}
use Rattle.cq_match.specs.declared.graph.Place.{Place}
use Rattle.cq_match.specs.declared.graph.Out.{Out}
use Rattle.cq_match.specs.Graph.{leads_to}
use Rattle.cq_match.specs.Steps.Settle.{stands}
use Rattle.cq_match.specs.Steps.Kept.{free, place_at, count_at, is_live, edge_of, edges_left, edges_from, feeds_post, IsKept}
use Rattle.cq_match.proofs.Tests.{by_bool, and_left}
use Rattle.cq_match.proofs.Rows.{differ}
use Rattle.cq_match.proofs.Edges.{one_if, count-cons}

pub filter-same : {X : Type 0} (p q : X → Bool) (xs : List X) → All (λ x. p x ≡ q x) xs → filter p xs ≡ filter q xs
filter-same p q [] h = refl
filter-same {X} p q (x ∷ xs) h =
    let rest = filter-same p q xs (All-tail (λ y. p y ≡ q y) x xs h) in
    by_bool (q x) (filter p (x ∷ xs) ≡ filter q (x ∷ xs))
    (λ t. let u : p x ≡ true = All-head (λ y. p y ≡ q y) x xs h ∙ t in rw (t, u) (ap (λ (ys : List X). x ∷ ys) rest))
    (λ f. let u : p x ≡ false = All-head (λ y. p y ≡ q y) x xs h ∙ f in rw (f, u) rest)

pub count-less : (p q : Edge → Bool) → ((e : Edge) → p e ≡ true → q e ≡ true) → (edges : List Edge) → count_by p edges ≤ count_by q edges
count-less p q more [] = omega arith
count-less p q more (e ∷ edges) =
    let rest = count-less p q more edges in
    let first = count-cons p e edges in
    let second = count-cons q e edges in
    by_bool (p e) (count_by p (e ∷ edges) ≤ count_by q (e ∷ edges))
    (λ t. let a : one_if (p e) ≡ 1 = ap one_if t in let b : one_if (q e) ≡ 1 = ap one_if (more e t) in omega arith)
    (λ f. let a : one_if (p e) ≡ 0 = ap one_if f in omega arith)

zeros-at : (n k : ℕ) → let zeros : List ℕ = replicate n 0 in get_or zeros k 0 ≡ 0
zeros-at zero k = refl
zeros-at (suc n) zero = refl
zeros-at (suc n) (suc k) = zeros-at n k

module _ (places : List Place) (node posts next : ℕ) (low : node < length places) (vacant : (place_at places node).taken ≡ false) where
  abbrev pub taker : Place
  taker = record { taken = true; able = false; posts = posts; stamp = next }

  abbrev pub with_node : List Place
  with_node = set places node taker

  pub placed-here : place_at with_node node ≡ taker
  placed-here = get_or-set_same places node taker free low

  pub placed-other : (m : ℕ) → m ≢ node → place_at with_node m ≡ place_at places m
  placed-other m apart = get_or-set_other places node m taker free apart

  -- the edges that were there lead to the same nodes
  same-out : (out : Out) → out.stamp < next → is_live with_node out ≡ is_live places out
  same-out out older =
      by_bool (eqb out.waiter node) (is_live with_node out ≡ is_live places out)
      (λ t.
      let is = eqb-true out.waiter node t in
      let late : eqb next out.stamp ≡ false = by_bool (eqb next out.stamp) (eqb next out.stamp ≡ false) (λ u. absurd (let e = eqb-true next out.stamp u in omega arith)) (λ f. f) in
      let now : is_live with_node out ≡ eqb next out.stamp = ap (λ m. (place_at with_node m).taken && eqb (place_at with_node m).stamp out.stamp) is ∙ ap (λ (q : Place). q.taken && eqb q.stamp out.stamp) placed-here in
      let before : is_live places out ≡ false = ap (λ m. (place_at places m).taken && eqb (place_at places m).stamp out.stamp) is ∙ ap (λ (b : Bool). b && eqb (place_at places node).stamp out.stamp) vacant in
      now ∙ late ∙ sym before)
      (λ f. ap (λ (q : Place). q.taken && eqb q.stamp out.stamp) (placed-other out.waiter (differ out.waiter node f)))

  same-left : (n : ℕ) (outs : List Out) → All (λ out. out.stamp < next) outs → edges_left with_node n outs ≡ edges_left places n outs
  same-left n outs older = ap (map (edge_of n)) (filter-same (is_live with_node) (is_live places) outs (λ k d inside. same-out (get_or outs k d) (older k d inside)))

  pub same-edges_from : (leaving : List (List Out)) (n : ℕ) → ((j : ℕ) → All (λ out. out.stamp < next) (get_or leaving j [])) → edges_from with_node n leaving ≡ edges_from places n leaving
  same-edges_from [] n older = refl
  same-edges_from (outs ∷ rest) n older =
      ap (λ (es : List Edge). es ++ edges_from with_node (n + 1) rest) (same-left n outs (older 0)) ∙ ap (λ (es : List Edge). edges_left places n outs ++ es) (same-edges_from rest (n + 1) (λ j. older (suc j)))

  pub placed-kept : (leaving : List (List Out)) (totals : List (List ℕ)) (matched raised : List Bool) (counts : List (List ℕ)) (waiting reached : List ℕ) (room number : ℕ)
      → IsKept places leaving totals matched raised counts waiting reached room number next
      → IsKept with_node leaving (set totals node (replicate posts 0)) matched raised (set counts node (replicate posts 0)) waiting reached room number (next + 1)
  placed-kept leaving totals matched raised counts waiting reached room number k =
      let edges : List Edge = edges_from places 0 leaving in
      let s = k.settled in
      let same = same-edges_from leaving 0 k.outs_older in
      let len = length-set places node taker in
      let out_of : stands matched node ≡ false = by_bool (stands matched node) (stands matched node ≡ false)
      (λ t. absurd (let never : false ≡ true = sym vacant ∙ k.able_taken node (s.closed.able node t) in cc)) (λ f. f) in
      let off : (members : ℕ → Bool) → members node ≡ false → (n : ℕ) → members n ≡ true → n ≢ node = λ members out n t e. let never : false ≡ true = sym out ∙ ap members (sym e) ∙ t in absurd cc in
      let none_here : (j : ℕ) → count_by (leads_to node j) edges ≡ 0 = λ j.
      let row = k.totals_row node in let no_posts = k.free_posts node vacant in
      sym (k.totaled node j) ∙ get_or_past (get_or totals node []) j 0 (omega arith) in
      record {
        leaving_len = k.leaving_len ∙ sym len;
        totals_len = length-set totals node (replicate posts 0) ∙ k.totals_len ∙ sym len;
        fit = λ n i d inside live.
            let out = get_or (get_or leaving n []) i d in
            let was : is_live places out ≡ true = sym (same-out out (k.outs_older n i d inside)) ∙ live in
            let taken = and_left (place_at places out.waiter).taken (eqb (place_at places out.waiter).stamp out.stamp) was in
            let apart : out.waiter ≢ node = λ e. let never : false ≡ true = sym vacant ∙ ap (λ m. (place_at places m).taken) (sym e) ∙ taken in absurd cc in
            let fits = k.fit n i d inside was in
            let p = ap (λ (q : Place). q.posts) (placed-other out.waiter apart) in
            omega arith;
        totals_row = λ n. by_bool (eqb n node) (length (get_or (set totals node (replicate posts 0)) n []) ≡ (place_at with_node n).posts)
            (λ t. let is = eqb-true n node t in
            ap (λ m. length (get_or (set totals node (replicate posts 0)) m [])) is ∙ ap length (get_or-set_same totals node (replicate posts 0) [] (let l = k.totals_len in omega arith)) ∙ length-replicate posts 0
            ∙ sym (ap (λ (q : Place). q.posts) placed-here) ∙ ap (λ m. (place_at with_node m).posts) (sym is))
            (λ f. ap length (get_or-set_other totals node n (replicate posts 0) [] (differ n node f)) ∙ k.totals_row n ∙ ap (λ (q : Place). q.posts) (sym (placed-other n (differ n node f))));
        totaled = λ n j. by_bool (eqb n node) (count_at (set totals node (replicate posts 0)) n j ≡ count_by (leads_to n j) (edges_from with_node 0 leaving))
            (λ t. let is = eqb-true n node t in
            ap (λ m. count_at (set totals node (replicate posts 0)) m j) is ∙ ap (λ (r : List ℕ). get_or r j 0) (get_or-set_same totals node (replicate posts 0) [] (let l = k.totals_len in omega arith)) ∙ zeros-at posts j
            ∙ sym (none_here j) ∙ ap (λ m. count_by (leads_to m j) edges) (sym is) ∙ ap (λ (es : List Edge). count_by (leads_to n j) es) (sym same))
            (λ f. ap (λ (r : List ℕ). get_or r j 0) (get_or-set_other totals node n (replicate posts 0) [] (differ n node f)) ∙ k.totaled n j ∙ ap (λ (es : List Edge). count_by (leads_to n j) es) (sym same));
        settled = rw same (record {
          matched_len = s.matched_len ∙ sym len;
          same = s.same;
          counting = record {
            counts_len = length-set counts node (replicate posts 0) ∙ s.counting.counts_len ∙ sym len;
            row_len = λ n. by_bool (eqb n node) (length (get_or (set counts node (replicate posts 0)) n []) ≡ (place_at with_node n).posts)
                (λ t. let is = eqb-true n node t in
                ap (λ m. length (get_or (set counts node (replicate posts 0)) m [])) is ∙ ap length (get_or-set_same counts node (replicate posts 0) [] (let l = s.counting.counts_len in omega arith)) ∙ length-replicate posts 0
                ∙ sym (ap (λ (q : Place). q.posts) placed-here) ∙ ap (λ m. (place_at with_node m).posts) (sym is))
                (λ f. ap length (get_or-set_other counts node n (replicate posts 0) [] (differ n node f)) ∙ s.counting.row_len n ∙ ap (λ (q : Place). q.posts) (sym (placed-other n (differ n node f))));
            counted = λ n j inside. by_bool (eqb n node) (count_at (set counts node (replicate posts 0)) n j + count_by (leads_to n j) [] ≡ count_by (feeds_post (stands raised) n j) edges)
                (λ t. let is = eqb-true n node t in
                let zero_here : count_at (set counts node (replicate posts 0)) n j ≡ 0 = ap (λ m. count_at (set counts node (replicate posts 0)) m j) is ∙ ap (λ (r : List ℕ). get_or r j 0) (get_or-set_same counts node (replicate posts 0) [] (let l = s.counting.counts_len in omega arith)) ∙ zeros-at posts j in
                let less = count-less (feeds_post (stands raised) n j) (leads_to n j) (λ e u. and_left (leads_to n j e) (stands raised e.provider) u) edges in
                let none : count_by (leads_to n j) edges ≡ 0 = ap (λ m. count_by (leads_to m j) edges) is ∙ none_here j in
                let nothing : count_by (leads_to n j) [] ≡ 0 = refl in
                omega arith)
                (λ f.
                let at : count_at (set counts node (replicate posts 0)) n j ≡ count_at counts n j = ap (λ (r : List ℕ). get_or r j 0) (get_or-set_other counts node n (replicate posts 0) [] (differ n node f)) in
                let p = ap (λ (q : Place). q.posts) (placed-other n (differ n node f)) in
                let c = s.counting.counted n j (omega arith) in
                omega arith);
          };
          closed = record {
            able = λ n t. ap (λ (q : Place). q.able) (placed-other n (off (stands matched) out_of n t)) ∙ s.closed.able n t;
            fed = λ n j t inside. s.closed.fed n j t (let p = ap (λ (q : Place). q.posts) (placed-other n (off (stands matched) out_of n t)) in omega arith);
          };
          greatest = λ members closed n t.
              let out : members node ≡ false = by_bool (members node) (members node ≡ false) (λ u. absurd (let never : false ≡ true = sym (ap (λ (q : Place). q.able) placed-here) ∙ closed.able node u in cc)) (λ f. f) in
              s.greatest members (record {
                able = λ m u. ap (λ (q : Place). q.able) (sym (placed-other m (off members out m u))) ∙ closed.able m u;
                fed = λ m j u inside. closed.fed m j u (let p = ap (λ (q : Place). q.posts) (placed-other m (off members out m u)) in omega arith);
              }) n t;
        });
        none_waits = k.none_waits;
        none_reached = k.none_reached;
        roomy = let r = k.roomy in omega arith;
        numbered = let n = k.numbered in let l = ap length same in omega arith;
        older = λ n. by_bool (eqb n node) ((place_at with_node n).stamp < next + 1)
            (λ t. let at : (place_at with_node n).stamp ≡ next = ap (λ m. (place_at with_node m).stamp) (eqb-true n node t) ∙ ap (λ (q : Place). q.stamp) placed-here in omega arith)
            (λ f. let at = ap (λ (q : Place). q.stamp) (placed-other n (differ n node f)) in let o = k.older n in omega arith);
        outs_older = λ n i d inside. let o = k.outs_older n i d inside in omega arith;
        able_taken = λ n t. by_bool (eqb n node) ((place_at with_node n).taken ≡ true)
            (λ u. ap (λ m. (place_at with_node m).taken) (eqb-true n node u) ∙ ap (λ (q : Place). q.taken) placed-here)
            (λ f. ap (λ (q : Place). q.taken) (placed-other n (differ n node f)) ∙ k.able_taken n (ap (λ (q : Place). q.able) (sym (placed-other n (differ n node f))) ∙ t));
        free_posts = λ n t. by_bool (eqb n node) ((place_at with_node n).posts ≡ 0)
            (λ u. absurd (let never : false ≡ true = sym t ∙ ap (λ m. (place_at with_node m).taken) (eqb-true n node u) ∙ ap (λ (q : Place). q.taken) placed-here in cc))
            (λ f. ap (λ (q : Place). q.posts) (placed-other n (differ n node f)) ∙ k.free_posts n (ap (λ (q : Place). q.taken) (sym (placed-other n (differ n node f))) ∙ t));
        free_leaving = λ n t. by_bool (eqb n node) (get_or leaving n [] ≡ [])
            (λ u. absurd (let never : false ≡ true = sym t ∙ ap (λ m. (place_at with_node m).taken) (eqb-true n node u) ∙ ap (λ (q : Place). q.taken) placed-here in cc))
            (λ f. k.free_leaving n (ap (λ (q : Place). q.taken) (sym (placed-other n (differ n node f))) ∙ t));
      }
