-- What stays true while nodes stop being matched.
use Rattle.std.proofs.Common.{◌≡◌, ℕ, ◌+◌, ◌-◌, ◌<◌, ◌≤◌, ◌≢◌, ◌⊎◌, inl, inr, Bool, true, false, cond, if◌then◌else◌, ◌&&◌, eqb, List, [], ◌∷◌, ◌++◌, length, get_or, set, zero, suc, filter, count_by, refl, sym, ap, ◌∙◌, subst, arith, eq-eqb}
use Rattle.std.specs.List.{All, Contains}
use Rattle.std.proofs.lemmas.Bool.{eqb-true}
use Rattle.std.proofs.lemmas.List.{length-set, length-append}
use Rattle.std.proofs.lemmas.List.Sums.{sum_by-set}
use Rattle.std.proofs.lemmas.List.Elements.{All-push, All-contains, Contains-push, Contains-push_cases, Contains-append_left}
use Rattle.cq_atom.specs.declared.edge.Edge.{Edge}
use Rattle.cq_match.specs.declared.graph.Place.{Place}
use Rattle.cq_match.specs.Graph.{leads_to}
use Rattle.cq_match.specs.Steps.Settle.{stands}
use Rattle.cq_match.specs.Steps.Kept.{place_at, count_at, feeds_post, busy, Closed, Pruning}
use Rattle.cq_match.proofs.Tests.{by_bool, and_left, and_right, both}
use Rattle.cq_match.proofs.Rows.{differ, post-placed, row, with_count, count-cases, row-len}
use Rattle.cq_match.proofs.Edges.{one_if, count-cons, some-counted, counted-some, feeds-wider, lowered-itself, lowered-other, lowered-less, count-split}

pub All-in : (P : ℕ → Type 0) (xs ys : List ℕ) → ((n : ℕ) → Contains ys n → Contains xs n) → All P xs → All P ys
All-in P xs ys within h k d low = All-contains P xs (get_or ys k d) h (within (get_or ys k d) (k, low, get_or-default ys k d low))
  where
    get_or-default : (ys : List ℕ) (k d : ℕ) → k < length ys → get_or ys k (get_or ys k d) ≡ get_or ys k d
    get_or-default [] k d low = absurd (let none : k < 0 = low in omega arith)
    get_or-default (y ∷ ys) zero d low = refl
    get_or-default (y ∷ ys) (suc k) d low = get_or-default ys k d (let more : suc k < suc (length ys) = low in omega arith)

-- whoever falls waits, so that as many are matched or wait as before
pub fallen-busy : (matched : List Bool) (waiting : List ℕ) (w : ℕ) → w < length matched → stands matched w ≡ true → busy (set matched w false) (waiting ++ w ∷ []) ≡ busy matched waiting
fallen-busy matched waiting w low up =
    let change : count_by (λ mark. mark) (set matched w false) + one_if (stands matched w) ≡ count_by (λ mark. mark) matched + 0 = sum_by-set (λ (mark : Bool). cond mark 1 0) matched w false false low in
    let was : one_if (stands matched w) ≡ 1 = ap one_if up in
    let len : length (waiting ++ w ∷ []) ≡ length waiting + 1 = length-append waiting (w ∷ []) in
    omega arith

module _ (places : List Place) (edges : List Edge) where
  -- ---- an edge is counted no longer

  module _ (matched raised : List Bool) (counts : List (List ℕ)) (waiting : List ℕ) (e : Edge) (left : List Edge) (p : Pruning places edges matched raised counts waiting (e ∷ left)) (fits : e.post < (place_at places e.waiter).posts) where
    abbrev now : ℕ
    now = count_at counts e.waiter e.post - 1

    abbrev counts-now : List (List ℕ)
    counts-now = with_count counts e.waiter e.post now

    waiter-low : e.waiter < length counts
    waiter-low = let low = post-placed places e.waiter e.post fits in let len = p.counts_len in omega arith

    post-low : e.post < length (row counts e.waiter)
    post-low = let len = p.row_len e.waiter in omega arith

    -- the edge is counted
    pub lower-some : 1 ≤ count_at counts e.waiter e.post
    lower-some =
        let all = p.counted e.waiter e.post fits in
        let here : leads_to e.waiter e.post e ≡ true = both (eqb e.waiter e.waiter) (eqb e.post e.post) (eq-eqb e.waiter e.waiter refl) (eq-eqb e.post e.post refl) in
        let one : one_if (leads_to e.waiter e.post e) ≡ 1 = ap one_if here in
        let first = count-cons (leads_to e.waiter e.post) e left in
        omega arith

    counted-now : (n k : ℕ) → k < (place_at places n).posts → count_at counts-now n k ≡ count_by (feeds_post (stands raised) n k) edges + count_by (leads_to n k) left
    counted-now n k low =
        let all = p.counted n k low in
        let first = count-cons (leads_to n k) e left in
        let some = lower-some in
        count-cases counts e.waiter e.post now n k (λ x. x ≡ count_by (feeds_post (stands raised) n k) edges + count_by (leads_to n k) left) waiter-low post-low
        (λ is also.
        let here : leads_to n k e ≡ true = both (eqb e.waiter n) (eqb e.post k) (eq-eqb e.waiter n (sym is)) (eq-eqb e.post k (sym also)) in
        let one : one_if (leads_to n k e) ≡ 1 = ap one_if here in
        let at : count_at counts e.waiter e.post ≡ count_at counts n k = ap (λ m. count_at counts m e.post) (sym is) ∙ ap (count_at counts n) (sym also) in
        omega arith)
        (λ apart.
        let none : one_if (leads_to n k e) ≡ 0 = ap one_if (by_bool (leads_to n k e) (leads_to n k e ≡ false)
        (λ t. absurd (elim apart [
          | inl a ↦ a (sym (eqb-true e.waiter n (and_left (eqb e.waiter n) (eqb e.post k) t)))
          | inr b ↦ b (sym (eqb-true e.post k (and_right (eqb e.waiter n) (eqb e.post k) t)))
        ])) (λ f. f)) in
        omega arith)

    -- where others are left the waiter stays matched
    pub lower-kept : ((now ≡ 0) → stands matched e.waiter ≡ false) → Pruning places edges matched raised counts-now waiting left
    lower-kept kept = record {
      matched_len = p.matched_len;
      raised_len = p.raised_len;
      counts_len = length-set counts e.waiter (set (row counts e.waiter) e.post now) ∙ p.counts_len;
      row_len = λ n. row-len counts e.waiter e.post now n ∙ p.row_len n;
      counted = counted-now;
      within = p.within;
      due = p.due;
      able = p.able;
      fed = λ n k up low. count-cases counts e.waiter e.post now n k (λ x. 1 ≤ x) waiter-low post-low
          (λ is also. by_bool (eqb now 0) (1 ≤ now)
          (λ t. absurd (let never : false ≡ true = sym (kept (eqb-true now 0 t)) ∙ ap (stands matched) (sym is) ∙ up in cc))
          (λ f. let some = differ now 0 f in omega arith))
          (λ apart. p.fed n k up low);
      stays = p.stays;
      placed = p.placed;
      fallen = p.fallen;
    }

    -- where none is left the waiter is matched no longer, and waits
    pub lower-fallen : now ≡ 0 → Pruning places edges (set matched e.waiter false) raised counts-now (waiting ++ e.waiter ∷ []) left
    lower-fallen none =
        let w = e.waiter in
        let still : (n : ℕ) → stands (set matched w false) n ≡ true → stands matched n ≡ true = λ n t. lowered-less matched w n t in
        record {
          matched_len = length-set matched w false ∙ p.matched_len;
          raised_len = p.raised_len;
          counts_len = length-set counts w (set (row counts w) e.post now) ∙ p.counts_len;
          row_len = λ n. row-len counts w e.post now n ∙ p.row_len n;
          counted = counted-now;
          within = λ n t. p.within n (still n t);
          due = λ n t. elim (p.due n t) [
            | inl up ↦ by_bool (eqb n w) ((stands (set matched w false) n ≡ true) ⊎ Contains (waiting ++ w ∷ []) n)
                (λ is. inr (subst (Contains (waiting ++ w ∷ [])) (sym (eqb-true n w is)) (Contains-push waiting w)))
                (λ f. inl (lowered-other matched w n (differ n w f) ∙ up))
            | inr h ↦ inr (Contains-append_left waiting (w ∷ []) n h)
          ];
          able = λ n t. p.able n (still n t);
          fed = λ n k up low. count-cases counts w e.post now n k (λ x. 1 ≤ x) waiter-low post-low
              (λ is also. absurd (let never : false ≡ true = sym (lowered-itself matched w) ∙ ap (stands (set matched w false)) (sym is) ∙ up in cc))
              (λ apart. p.fed n k (still n up) low);
          stays = λ members closed n t.
              by_bool (eqb n w) (stands (set matched w false) n ≡ true)
              (λ is.
              let here : members w ≡ true = ap members (sym (eqb-true n w is)) ∙ t in
              let fed = feeds-wider members (stands raised) (λ m u. p.within m (p.stays members closed m u)) w e.post edges (closed.fed w e.post here fits) in
              let some = some-counted (feeds_post (stands raised) w e.post) edges fed in
              let all = counted-now w e.post fits in
              let at : count_at counts-now w e.post ≡ now = count-cases counts w e.post now w e.post (λ x. x ≡ now) waiter-low post-low (λ i a. refl) (λ apart. absurd (elim apart [ inl a ↦ a refl | inr b ↦ b refl ])) in
              absurd (omega arith))
              (λ f. lowered-other matched w n (differ n w f) ∙ p.stays members closed n t);
          placed = All-push (λ n. n < length places) waiting w p.placed (post-placed places w e.post fits);
          fallen = All-push (λ n. stands (set matched w false) n ≡ false) waiting w
              (λ k d low. by_bool (stands (set matched w false) (get_or waiting k d)) (stands (set matched w false) (get_or waiting k d) ≡ false)
              (λ t. absurd (let never : true ≡ false = sym (still (get_or waiting k d) t) ∙ p.fallen k d low in cc)) (λ f. f))
              (lowered-itself matched w);
        }

    -- as the code has it
    abbrev falls : Bool
    falls = eqb now 0 && stands matched e.waiter

    pub lower-step : Pruning places edges (if falls then set matched e.waiter false else matched) raised counts-now (if falls then waiting ++ e.waiter ∷ [] else waiting) left
    lower-step =
        by_bool falls (Pruning places edges (if falls then set matched e.waiter false else matched) raised counts-now (if falls then waiting ++ e.waiter ∷ [] else waiting) left)
        (λ t. rw t (lower-fallen (eqb-true now 0 (and_left (eqb now 0) (stands matched e.waiter) t))))
        (λ f. rw f (lower-kept (λ none. by_bool (stands matched e.waiter) (stands matched e.waiter ≡ false)
        (λ u. absurd (let never : false ≡ true = sym f ∙ both (eqb now 0) (stands matched e.waiter) (eq-eqb now 0 none) u in cc)) (λ u. u))))

    pub lower-busy : busy (if falls then set matched e.waiter false else matched) (if falls then waiting ++ e.waiter ∷ [] else waiting) ≡ busy matched waiting
    lower-busy =
        by_bool falls (busy (if falls then set matched e.waiter false else matched) (if falls then waiting ++ e.waiter ∷ [] else waiting) ≡ busy matched waiting)
        (λ t.
        let up = and_right (eqb now 0) (stands matched e.waiter) t in
        let low : e.waiter < length matched = let l = post-placed places e.waiter e.post fits in let m = p.matched_len in omega arith in
        rw t (fallen-busy matched waiting e.waiter low up))
        (λ f. rw f refl)

  -- ---- a node is taken from those that wait

  module _ (matched raised : List Bool) (counts : List (List ℕ)) (waiting rest : List ℕ) (v : ℕ) (p : Pruning places edges matched raised counts waiting []) (at : waiting ≡ rest ++ v ∷ []) where
    in-rest : (n : ℕ) → Contains rest n → Contains waiting n
    in-rest n h = subst (λ (ns : List ℕ). Contains ns n) (sym at) (Contains-append_left rest (v ∷ []) n h)

    of-rest : (n : ℕ) → n ≢ v → Contains waiting n → Contains rest n
    of-rest n apart h = elim (Contains-push_cases rest v n (subst (λ (ns : List ℕ). Contains ns n) at h)) [ inl r ↦ r | inr e ↦ absurd (apart (sym e)) ]

    v-waits : Contains waiting v
    v-waits = subst (λ (ns : List ℕ). Contains ns v) (sym at) (Contains-push rest v)

    pub popped-low : v < length places
    popped-low = All-contains (λ n. n < length places) waiting v p.placed v-waits

    pub popped-down : stands matched v ≡ false
    popped-down = All-contains (λ n. stands matched n ≡ false) waiting v p.fallen v-waits

    -- its edges are not counted
    pub skip : stands raised v ≡ false → Pruning places edges matched raised counts rest []
    skip down = record {
      matched_len = p.matched_len;
      raised_len = p.raised_len;
      counts_len = p.counts_len;
      row_len = p.row_len;
      counted = p.counted;
      within = p.within;
      due = λ n t. elim (p.due n t) [
        | inl up ↦ inl up
        | inr h ↦ inr (of-rest n (λ e. let never : false ≡ true = sym down ∙ ap (stands raised) (sym e) ∙ t in absurd cc) h)
      ];
      able = p.able;
      fed = p.fed;
      stays = p.stays;
      placed = All-in (λ n. n < length places) waiting rest in-rest p.placed;
      fallen = All-in (λ n. stands matched n ≡ false) waiting rest in-rest p.fallen;
    }

    -- its edges are to be counted no longer
    pub start : stands raised v ≡ true → Pruning places edges matched (set raised v false) counts rest (filter (λ e. eqb e.provider v) edges)
    start up = record {
      matched_len = p.matched_len;
      raised_len = length-set raised v false ∙ p.raised_len;
      counts_len = p.counts_len;
      row_len = p.row_len;
      counted = λ n k low. let all = p.counted n k low in let none : count_by (leads_to n k) [] ≡ 0 = refl in let parts = count-split raised v n k up edges in omega arith;
      within = λ n t. lowered-other raised v n (λ e. let never : false ≡ true = sym popped-down ∙ ap (stands matched) (sym e) ∙ t in absurd cc) ∙ p.within n t;
      due = λ n t. elim (p.due n (lowered-less raised v n t)) [
        | inl m ↦ inl m
        | inr h ↦ inr (of-rest n (λ e. let never : false ≡ true = sym (lowered-itself raised v) ∙ ap (stands (set raised v false)) (sym e) ∙ t in absurd cc) h)
      ];
      able = p.able;
      fed = p.fed;
      stays = p.stays;
      placed = All-in (λ n. n < length places) waiting rest in-rest p.placed;
      fallen = All-in (λ n. stands matched n ≡ false) waiting rest in-rest p.fallen;
    }

  -- ---- nobody waits

  module _ (matched raised : List Bool) (counts : List (List ℕ)) (waiting : List ℕ) (p : Pruning places edges matched raised counts waiting []) (none : length waiting ≡ 0) where
    -- those that are raised are matched
    pub end-raised : (n : ℕ) → stands raised n ≡ true → stands matched n ≡ true
    end-raised n t = elim (p.due n t) [ inl up ↦ up | inr h ↦ absurd (let low = h.1 in omega arith) ]

    pub end-closed : Closed places edges (stands matched)
    end-closed = record {
      able = p.able;
      fed = λ n k up low.
          let some = p.fed n k up low in
          let all = p.counted n k low in
          let nothing : count_by (leads_to n k) [] ≡ 0 = refl in
          feeds-wider (stands raised) (stands matched) end-raised n k edges (counted-some (feeds_post (stands raised) n k) edges (omega arith));
    }
