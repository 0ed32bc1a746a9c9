-- One edge more, of which one end is a node that is not able: what is matched stays.
use Rattle.std.proofs.Common.{◌≡◌, ℕ, ◌+◌, ◌<◌, ◌⊎◌, inl, inr, Bool, true, false, ◌&&◌, if◌then◌else◌, cond, eqb, List, [], ◌∷◌, ◌++◌, length, get_or, set, zero, suc, count_by, refl, sym, ap, ◌∙◌, subst, arith, eq-eqb}
use Rattle.std.specs.List.{All}
use Rattle.std.proofs.lemmas.Bool.{eqb-true}
use Rattle.std.proofs.lemmas.List.{length-set, get_or-set_same, get_or-set_other}
use Rattle.std.proofs.lemmas.List.Elements.{All-push}
use Rattle.std.proofs.lemmas.List.Sums.{sum_by-append}
use Rattle.cq_atom.specs.declared.edge.Edge.{Edge}
use Rattle.cq_match.specs.declared.graph.Place.{Place}
use Rattle.cq_match.specs.declared.graph.Out.{Out}
use Rattle.cq_match.specs.Graph.{leads_to}
use Rattle.cq_match.specs.Steps.Settle.{stands}
use Rattle.cq_match.specs.Steps.Kept.{place_at, count_at, is_live, edge_of, edges_left, edges_from, feeds_post, Closed, Counting, IsKept}
use Rattle.cq_match.proofs.Tests.{by_bool, and_left, and_right, both}
use Rattle.cq_match.proofs.Rows.{differ, post-placed, row, with_count, count-cases, row-len}
use Rattle.cq_match.proofs.Edges.{one_if, count-cons, some-counted, counted-some}

count-append : (q : Edge → Bool) (xs ys : List Edge) → count_by q (xs ++ ys) ≡ count_by q xs + count_by q ys
count-append q xs ys = sum_by-append (λ x. cond (q x) 1 0) xs ys

-- the edges that leave a node, with one live edge more
pub left-more : (places : List Place) (n : ℕ) (outs : List Out) (out : Out) → is_live places out ≡ true → edges_left places n (outs ++ out ∷ []) ≡ edges_left places n outs ++ edge_of n out ∷ []
left-more places n [] out live = rw live refl
left-more places n (o ∷ outs) out live =
    let rest = left-more places n outs out live in
    by_bool (is_live places o) (edges_left places n (o ∷ outs ++ out ∷ []) ≡ edges_left places n (o ∷ outs) ++ edge_of n out ∷ [])
    (λ t. rw t (ap (λ (es : List Edge). edge_of n o ∷ es) rest))
    (λ f. rw f rest)

-- One edge more is counted by a test that it passes, and by no other.
pub count-linked : (places : List Place) (q : Edge → Bool) (leaving : List (List Out)) (n p : ℕ) (out : Out) → p < length leaving → is_live places out ≡ true
    → count_by q (edges_from places n (set leaving p (get_or leaving p [] ++ out ∷ []))) ≡ count_by q (edges_from places n leaving) + one_if (q (edge_of (n + p) out))
count-linked places q [] n p out low live = absurd (let none : p < 0 = low in omega arith)
count-linked places q (outs ∷ rest) n zero out low live =
    let is : n + 0 ≡ n = omega arith in
    let more = left-more places n outs out live in
    let after = count-append q (edges_left places n (outs ++ out ∷ [])) (edges_from places (n + 1) rest) in
    let before = count-append q (edges_left places n outs) (edges_from places (n + 1) rest) in
    let split : count_by q (edges_left places n (outs ++ out ∷ [])) ≡ count_by q (edges_left places n outs) + count_by q (edge_of n out ∷ []) = ap (count_by q) more ∙ count-append q (edges_left places n outs) (edge_of n out ∷ []) in
    let one = count-cons q (edge_of n out) [] in
    let nothing : count_by q [] ≡ 0 = refl in
    let same : one_if (q (edge_of (n + 0) out)) ≡ one_if (q (edge_of n out)) = ap (λ m. one_if (q (edge_of m out))) is in
    omega arith
count-linked places q (outs ∷ rest) n (suc p) out low live =
    let next : n + 1 + p ≡ n + suc p = omega arith in
    let later = count-linked places q rest (n + 1) p out (let l : suc p < suc (length rest) = low in omega arith) live in
    let after = count-append q (edges_left places n outs) (edges_from places (n + 1) (set rest p (get_or rest p [] ++ out ∷ []))) in
    let before = count-append q (edges_left places n outs) (edges_from places (n + 1) rest) in
    let same : one_if (q (edge_of (n + 1 + p) out)) ≡ one_if (q (edge_of (n + suc p) out)) = ap (λ m. one_if (q (edge_of m out))) next in
    omega arith

pub length-counted : (edges : List Edge) → length edges ≡ count_by (λ e. true) edges
length-counted [] = refl
length-counted (e ∷ edges) =
    let rest = length-counted edges in
    let one = count-cons (λ (x : Edge). true) e edges in
    let here : one_if true ≡ 1 = refl in
    let more : length (e ∷ edges) ≡ length edges + 1 = (let m : suc (length edges) ≡ length edges + 1 = omega arith in m) in
    omega arith

module _ (places : List Place) (leaving : List (List Out)) (p node : ℕ) (out : Out) (low : p < length leaving) (live : is_live places out ≡ true) (fits : out.post < (place_at places out.waiter).posts)
    (older : ℕ) (stamp : out.stamp < older) (unable : (place_at places node).able ≡ false) (touches : (p ≡ node) ⊎ (out.waiter ≡ node)) (from : (place_at places p).taken ≡ true) where
  abbrev pub leaving' : List (List Out)
  leaving' = set leaving p (get_or leaving p [] ++ out ∷ [])

  abbrev edge : Edge
  edge = edge_of p out

  abbrev pub edges : List Edge
  edges = edges_from places 0 leaving

  abbrev pub edges' : List Edge
  edges' = edges_from places 0 leaving'

  pub count-more : (q : Edge → Bool) → count_by q edges' ≡ count_by q edges + one_if (q edge)
  count-more q = let is : 0 + p ≡ p = omega arith in let all = count-linked places q leaving 0 p out low live in let same : one_if (q (edge_of (0 + p) out)) ≡ one_if (q edge) = ap (λ m. one_if (q (edge_of m out))) is in omega arith

  leads-here : (n k : ℕ) → leads_to n k edge ≡ true → (out.waiter ≡ n) × (out.post ≡ k)
  leads-here n k t = (eqb-true out.waiter n (and_left (eqb out.waiter n) (eqb out.post k) t), eqb-true out.post k (and_right (eqb out.waiter n) (eqb out.post k) t))

  closed-linked : (members : ℕ → Bool) → Closed places edges members → Closed places edges' members
  closed-linked members c = record {
    able = c.able;
    fed = λ n k t inside. let some = some-counted (feeds_post members n k) edges (c.fed n k t inside) in let all = count-more (feeds_post members n k) in counted-some (feeds_post members n k) edges' (omega arith);
  }

  -- no closed set has both ends of the edge
  unused : (members : ℕ → Bool) → members node ≡ false → (n k : ℕ) → members n ≡ true → feeds_post members n k edge ≡ false
  unused members out_of n k t =
      by_bool (feeds_post members n k edge) (feeds_post members n k edge ≡ false)
      (λ u. absurd (elim touches [
        | inl is ↦ (let never : false ≡ true = sym out_of ∙ ap members (sym is) ∙ and_right (leads_to n k edge) (members p) u in cc)
        | inr is ↦ (let never : false ≡ true = sym out_of ∙ ap members (sym is ∙ (leads-here n k (and_left (leads_to n k edge) (members p) u)).0) ∙ t in cc)
      ])) (λ f. f)

  closed-unlinked : (members : ℕ → Bool) → Closed places edges' members → Closed places edges members
  closed-unlinked members c =
      let out_of : members node ≡ false = by_bool (members node) (members node ≡ false) (λ u. absurd (let never : false ≡ true = sym unable ∙ c.able node u in cc)) (λ f. f) in
      record {
        able = c.able;
        fed = λ n k t inside.
            let some = some-counted (feeds_post members n k) edges' (c.fed n k t inside) in
            let all = count-more (feeds_post members n k) in
            let none : one_if (feeds_post members n k edge) ≡ 0 = ap one_if (unused members out_of n k t) in
            counted-some (feeds_post members n k) edges (omega arith);
      }

  -- the edge is counted of its postcondition alone
  total-more : (totals : List (List ℕ)) (q : Edge → Bool) → length totals ≡ length places → ((n : ℕ) → length (row totals n) ≡ (place_at places n).posts) → (n k : ℕ)
      → count_at (with_count totals out.waiter out.post (count_at totals out.waiter out.post + 1)) n k ≡ count_at totals n k + one_if (leads_to n k edge)
  total-more totals q len rows n k =
      let placed = post-placed places out.waiter out.post fits in
      let inside = rows out.waiter in
      count-cases totals out.waiter out.post (count_at totals out.waiter out.post + 1) n k (λ x. x ≡ count_at totals n k + one_if (leads_to n k edge)) (omega arith) (omega arith)
      (λ is also.
      let here : leads_to n k edge ≡ true = both (eqb out.waiter n) (eqb out.post k) (eq-eqb out.waiter n (sym is)) (eq-eqb out.post k (sym also)) in
      let one : one_if (leads_to n k edge) ≡ 1 = ap one_if here in
      let at : count_at totals out.waiter out.post ≡ count_at totals n k = ap (λ m. count_at totals m out.post) (sym is) ∙ ap (count_at totals n) (sym also) in
      omega arith)
      (λ apart.
      let none : one_if (leads_to n k edge) ≡ 0 = ap one_if (by_bool (leads_to n k edge) (leads_to n k edge ≡ false)
      (λ t. absurd (elim apart [ inl a ↦ a (sym (leads-here n k t).0) | inr b ↦ b (sym (leads-here n k t).1) ])) (λ f. f)) in
      omega arith)

  -- as the code has it: the edge of a node that is raised is counted
  abbrev pub counts-linked : List Bool → List (List ℕ) → List (List ℕ)
  counts-linked raised counts = if stands raised p then with_count counts out.waiter out.post (count_at counts out.waiter out.post + 1) else counts

  counting-linked : (raised : List Bool) (counts : List (List ℕ)) → Counting places edges raised counts [] → Counting places edges' raised (counts-linked raised counts) []
  counting-linked raised counts c =
      by_bool (stands raised p) (Counting places edges' raised (counts-linked raised counts) [])
      (λ t. rw t (record {
        counts_len = length-set counts out.waiter (set (row counts out.waiter) out.post (count_at counts out.waiter out.post + 1)) ∙ c.counts_len;
        row_len = λ n. row-len counts out.waiter out.post (count_at counts out.waiter out.post + 1) n ∙ c.row_len n;
        counted = λ n k inside.
            let now = total-more counts (λ e. true) c.counts_len c.row_len n k in
            let was = c.counted n k inside in
            let all = count-more (feeds_post (stands raised) n k) in
            let one : one_if (feeds_post (stands raised) n k edge) ≡ one_if (leads_to n k edge) = ap (λ (b : Bool). one_if (leads_to n k edge && b)) t ∙ ap one_if (and-true (leads_to n k edge)) in
            let nothing : count_by (leads_to n k) [] ≡ 0 = refl in
            omega arith;
      }))
      (λ f. rw f (record {
        counts_len = c.counts_len;
        row_len = c.row_len;
        counted = λ n k inside.
            let was = c.counted n k inside in
            let all = count-more (feeds_post (stands raised) n k) in
            let none : one_if (feeds_post (stands raised) n k edge) ≡ 0 = ap (λ (b : Bool). one_if (leads_to n k edge && b)) f ∙ ap one_if (and-false (leads_to n k edge)) in
            omega arith;
      }))
    where
      and-true : (b : Bool) → (b && true) ≡ b
      and-true true = refl
      and-true false = refl

      and-false : (b : Bool) → (b && false) ≡ false
      and-false true = refl
      and-false false = refl

  pub linked-kept : (totals : List (List ℕ)) (matched raised : List Bool) (counts : List (List ℕ)) (waiting reached : List ℕ) (room number : ℕ)
      → IsKept places leaving totals matched raised counts waiting reached room number older
      → IsKept places leaving' (with_count totals out.waiter out.post (count_at totals out.waiter out.post + 1)) matched raised (counts-linked raised counts) waiting reached room (number + 1) older
  linked-kept totals matched raised counts waiting reached room number k =
      let s = k.settled in
      let outs_of : (Q : Out → Type 0) → ((n : ℕ) → All Q (get_or leaving n [])) → Q out → (n : ℕ) → All Q (get_or leaving' n []) = λ Q h own n.
      by_bool (eqb n p) (All Q (get_or leaving' n []))
      (λ t. let is = eqb-true n p t in
      subst (λ m. All Q (get_or leaving' m [])) (sym is) (subst (λ (os : List Out). All Q os) (sym (get_or-set_same leaving p (get_or leaving p [] ++ out ∷ []) [] low)) (All-push Q (get_or leaving p []) out (h p) own)))
      (λ f. subst (λ (os : List Out). All Q os) (sym (get_or-set_other leaving p n (get_or leaving p [] ++ out ∷ []) [] (differ n p f))) (h n)) in
      record {
        leaving_len = length-set leaving p (get_or leaving p [] ++ out ∷ []) ∙ k.leaving_len;
        totals_len = length-set totals out.waiter (set (row totals out.waiter) out.post (count_at totals out.waiter out.post + 1)) ∙ k.totals_len;
        fit = outs_of (λ o. is_live places o ≡ true → o.post < (place_at places o.waiter).posts) k.fit (λ alive. fits);
        totals_row = λ n. row-len totals out.waiter out.post (count_at totals out.waiter out.post + 1) n ∙ k.totals_row n;
        totaled = λ n j. let now = total-more totals (λ e. true) k.totals_len k.totals_row n j in let was = k.totaled n j in let all = count-more (leads_to n j) in omega arith;
        settled = record {
          matched_len = s.matched_len;
          same = s.same;
          counting = counting-linked raised counts s.counting;
          closed = closed-linked (stands matched) s.closed;
          greatest = λ members closed. s.greatest members (closed-unlinked members closed);
        };
        none_waits = k.none_waits;
        none_reached = k.none_reached;
        roomy = k.roomy;
        numbered =
            let all = count-more (λ e. true) in let one : one_if true ≡ 1 = refl in
            let a = length-counted edges in let b = length-counted edges' in let n = k.numbered in omega arith;
        older = k.older;
        outs_older = outs_of (λ o. o.stamp < older) k.outs_older stamp;
        able_taken = k.able_taken;
        free_posts = k.free_posts;
        free_leaving = λ n t. get_or-set_other leaving p n (get_or leaving p [] ++ out ∷ []) [] (λ e. let never : false ≡ true = sym t ∙ ap (λ m. (place_at places m).taken) e ∙ from in absurd cc) ∙ k.free_leaving n t;
      }
