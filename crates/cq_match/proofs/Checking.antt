-- What stays true while nodes that were taken as matched are looked at.
use Rattle.std.proofs.Common.{◌≡◌, ℕ, ◌+◌, ◌<◌, ◌≤◌, ◌⊎◌, inl, inr, Bool, true, false, if◌then◌else◌, ◌&&◌, eqb, List, [], ◌∷◌, ◌++◌, length, get_or, set, zero, suc, count_by, refl, sym, ap, ◌∙◌, subst, arith}
use Rattle.std.specs.List.{Contains, list_any}
use Rattle.std.proofs.lemmas.Bool.{eqb-true}
use Rattle.std.proofs.lemmas.List.{length-set}
use Rattle.std.proofs.lemmas.List.Elements.{All-push, Contains-push, Contains-append_left}
use Rattle.std.proofs.lemmas.List.Folds.{Any-from_list_any, list_any_at}
use Rattle.cq_atom.specs.declared.edge.Edge.{Edge}
use Rattle.cq_match.specs.declared.graph.Place.{Place}
use Rattle.cq_match.specs.declared.graph.Out.{Out}
use Rattle.cq_match.specs.Graph.{leads_to}
use Rattle.cq_match.specs.Steps.Settle.{stands}
use Rattle.cq_match.specs.Steps.Kept.{place_at, count_at, edges_from, feeds_post, busy, Closed, Pruning, Reaching, Checking, Settled}
use Rattle.cq_match.proofs.Tests.{by_bool, and_left, and_right, both}
use Rattle.cq_match.proofs.Rows.{differ, row}
use Rattle.cq_match.proofs.Edges.{some-counted, feeds-wider, lowered-itself, lowered-other, lowered-less}
use Rattle.cq_match.proofs.Pruning.{fallen-busy, end-raised, end-closed}
use Rattle.cq_match.proofs.Reaching.{later-cases, reached-all}

-- Some postcondition has no counted edge.
abbrev pub lacks : List (List ℕ) → ℕ → Bool
lacks counts n = list_any (λ count. eqb count 0) (row counts n)

pub checking-start : (places : List Place) (leaving : List (List Out)) (before matched raised : List Bool) (counts : List (List ℕ)) (reached : List ℕ) (node : ℕ)
    → Reaching places leaving (edges_from places 0 leaving) before matched raised counts reached (length reached) → stands matched node ≡ true → stands before node ≡ false → Closed places (edges_from places 0 leaving) (stands before)
    → ((members : ℕ → Bool) → members node ≡ false → Closed places (edges_from places 0 leaving) members → (n : ℕ) → members n ≡ true → stands before n ≡ true)
    → Checking places (edges_from places 0 leaving) matched raised counts [] reached 0
checking-start places leaving before matched raised counts reached node r up down first others =
    let edges : List Edge = edges_from places 0 leaving in
    record {
      matched_len = r.matched_len;
      raised_len = r.raised_len;
      counting = r.counting;
      within = λ n t. elim (r.due n t) [ inl b ↦ b | inr l ↦ absurd (let a = l.1 in let b = l.2 in omega arith) ];
      due = λ n t. inl (r.within n t);
      able = r.able;
      fed = λ n t. elim (r.found n t) [
        | inl was ↦ inl (λ k low.
            let fed = feeds-wider (stands before) (stands raised) r.kept n k edges (first.fed n k was low) in
            let some = some-counted (feeds_post (stands raised) n k) edges fed in
            let all = r.counting.counted n k low in
            let none : count_by (leads_to n k) [] ≡ 0 = refl in
            omega arith)
        | inr l ↦ inr l
      ];
      stays = reached-all places leaving before matched raised counts reached node r up down first others;
      placed = λ k d low. absurd (let none : k < 0 = low in omega arith);
      fallen = λ k d low. absurd (let none : k < 0 = low in omega arith);
    }

module _ (places : List Place) (edges : List Edge) (matched raised : List Bool) (counts : List (List ℕ)) (waiting reached : List ℕ) (index : ℕ) (c : Checking places edges matched raised counts waiting reached index) (inside : index < length reached) (low : get_or reached index 0 < length places) where
  abbrev v : ℕ
  v = get_or reached index 0

  abbrev falls : Bool
  falls = stands matched v && lacks counts v

  -- each postcondition of a node that lacks none has a counted edge
  has-all : lacks counts v ≡ false → (k : ℕ) → k < (place_at places v).posts → 1 ≤ count_at counts v k
  has-all none k within =
      let len = c.counting.row_len v in
      by_bool (eqb (count_at counts v k) 0) (1 ≤ count_at counts v k)
      (λ t. absurd (let never : false ≡ true = sym none ∙ list_any_at (λ count. eqb count 0) (row counts v) k 0 (omega arith) t in cc))
      (λ f. let some = differ (count_at counts v k) 0 f in omega arith)

  checking-kept : falls ≡ false → Checking places edges matched raised counts waiting reached (index + 1)
  checking-kept stay = record {
    matched_len = c.matched_len;
    raised_len = c.raised_len;
    counting = c.counting;
    within = c.within;
    due = c.due;
    able = c.able;
    fed = λ n t. elim (c.fed n t) [
      | inl all ↦ inl all
      | inr l ↦ elim (later-cases index n reached l) [
        | inl is ↦ inl (subst (λ m. (k : ℕ) → k < (place_at places m).posts → 1 ≤ count_at counts m k) (sym is)
            (has-all (by_bool (lacks counts v) (lacks counts v ≡ false)
            (λ u. absurd (let never : false ≡ true = sym stay ∙ both (stands matched v) (lacks counts v) (ap (stands matched) (sym is) ∙ t) u in cc)) (λ f. f))))
        | inr later ↦ inr later
      ]
    ];
    stays = c.stays;
    placed = c.placed;
    fallen = c.fallen;
  }

  checking-fallen : falls ≡ true → Checking places edges (set matched v false) raised counts (waiting ++ v ∷ []) reached (index + 1)
  checking-fallen fall =
      let still : (n : ℕ) → stands (set matched v false) n ≡ true → stands matched n ≡ true = λ n t. lowered-less matched v n t in
      let missing = Any-from_list_any (λ count. eqb count 0) (row counts v) (and_right (stands matched v) (lacks counts v) fall) in
      let k = missing.0 in
      let within : k < (place_at places v).posts = let len = c.counting.row_len v in let m = missing.2 in omega arith in
      record {
        matched_len = length-set matched v false ∙ c.matched_len;
        raised_len = c.raised_len;
        counting = c.counting;
        within = λ n t. c.within n (still n t);
        due = λ n t. elim (c.due n t) [
          | inl up ↦ by_bool (eqb n v) ((stands (set matched v false) n ≡ true) ⊎ Contains (waiting ++ v ∷ []) n)
              (λ is. inr (subst (Contains (waiting ++ v ∷ [])) (sym (eqb-true n v is)) (Contains-push waiting v)))
              (λ f. inl (lowered-other matched v n (differ n v f) ∙ up))
          | inr h ↦ inr (Contains-append_left waiting (v ∷ []) n h)
        ];
        able = λ n t. c.able n (still n t);
        fed = λ n t. elim (c.fed n (still n t)) [
          | inl all ↦ inl all
          | inr l ↦ elim (later-cases index n reached l) [
            | inl is ↦ absurd (let never : false ≡ true = sym (lowered-itself matched v) ∙ ap (stands (set matched v false)) (sym is) ∙ t in cc)
            | inr later ↦ inr later
          ]
        ];
        stays = λ members closed n t.
            by_bool (eqb n v) (stands (set matched v false) n ≡ true)
            (λ is.
            let here : members v ≡ true = ap members (sym (eqb-true n v is)) ∙ t in
            let fed = feeds-wider members (stands raised) (λ m u. c.within m (c.stays members closed m u)) v k edges (closed.fed v k here within) in
            let some = some-counted (feeds_post (stands raised) v k) edges fed in
            let all = c.counting.counted v k within in
            let none : count_by (leads_to v k) [] ≡ 0 = refl in
            let zero_here : count_at counts v k ≡ 0 = get_or_is (row counts v) k missing.1 missing.2 missing.3 ∙ eqb-true missing.1 0 missing.4 in
            absurd (omega arith))
            (λ f. lowered-other matched v n (differ n v f) ∙ c.stays members closed n t);
        placed = All-push (λ n. n < length places) waiting v c.placed low;
        fallen = All-push (λ n. stands (set matched v false) n ≡ false) waiting v
            (λ j d within_it. by_bool (stands (set matched v false) (get_or waiting j d)) (stands (set matched v false) (get_or waiting j d) ≡ false)
            (λ t. absurd (let never : true ≡ false = sym (still (get_or waiting j d) t) ∙ c.fallen j d within_it in cc)) (λ f. f))
            (lowered-itself matched v);
      }
    where
      get_or_is : (xs : List ℕ) (k x : ℕ) → k < length xs → get_or xs k x ≡ x → get_or xs k 0 ≡ x
      get_or_is [] k x low e = absurd (let none : k < 0 = low in omega arith)
      get_or_is (y ∷ ys) zero x low e = e
      get_or_is (y ∷ ys) (suc k) x low e = get_or_is ys k x (let l : suc k < suc (length ys) = low in omega arith) e

  pub checking-step : Checking places edges (if falls then set matched v false else matched) raised counts (if falls then waiting ++ v ∷ [] else waiting) reached (index + 1)
  checking-step =
      by_bool falls (Checking places edges (if falls then set matched v false else matched) raised counts (if falls then waiting ++ v ∷ [] else waiting) reached (index + 1))
      (λ t. rw t (checking-fallen t)) (λ f. rw f (checking-kept f))

  pub checking-busy : busy (if falls then set matched v false else matched) (if falls then waiting ++ v ∷ [] else waiting) ≡ busy matched waiting
  checking-busy =
      by_bool falls (busy (if falls then set matched v false else matched) (if falls then waiting ++ v ∷ [] else waiting) ≡ busy matched waiting)
      (λ t. rw t (fallen-busy matched waiting v (let l = c.matched_len in omega arith) (and_left (stands matched v) (lacks counts v) t)))
      (λ f. rw f refl)

pub checking-end : (places : List Place) (edges : List Edge) (matched raised : List Bool) (counts : List (List ℕ)) (waiting reached : List ℕ) (index : ℕ) → Checking places edges matched raised counts waiting reached index → length reached ≤ index
    → Pruning places edges matched raised counts waiting []
checking-end places edges matched raised counts waiting reached index c end = record {
  matched_len = c.matched_len;
  raised_len = c.raised_len;
  counts_len = c.counting.counts_len;
  row_len = c.counting.row_len;
  counted = λ n k low. let all = c.counting.counted n k low in let none : count_by (leads_to n k) [] ≡ 0 = refl in omega arith;
  within = c.within;
  due = c.due;
  able = c.able;
  fed = λ n k t low. elim (c.fed n t) [ inl all ↦ all k low | inr l ↦ absurd (let a = l.1 in let b = l.2 in omega arith) ];
  stays = c.stays;
  placed = c.placed;
  fallen = c.fallen;
}

-- marks that agree everywhere are the same
pub same-marks : (a b : List Bool) → length a ≡ length b → ((n : ℕ) → stands a n ≡ stands b n) → a ≡ b
same-marks [] [] len same = refl
same-marks [] (y ∷ ys) len same = absurd (let never : 0 ≡ suc (length ys) = len in omega arith)
same-marks (x ∷ xs) [] len same = absurd (let never : suc (length xs) ≡ 0 = len in omega arith)
same-marks (x ∷ xs) (y ∷ ys) len same =
    ap (λ (b : Bool). b ∷ xs) (same 0) ∙ ap (λ (bs : List Bool). y ∷ bs) (same-marks xs ys (let l : suc (length xs) ≡ suc (length ys) = len in omega arith) (λ n. same (suc n)))

same-tests : (a b : Bool) → (a ≡ true → b ≡ true) → (b ≡ true → a ≡ true) → a ≡ b
same-tests true b f g = sym (f refl)
same-tests false true f g = g refl
same-tests false false f g = refl

pub settled-end : (places : List Place) (edges : List Edge) (matched raised : List Bool) (counts : List (List ℕ)) (waiting : List ℕ) → Pruning places edges matched raised counts waiting [] → length waiting ≡ 0 → Settled places edges matched raised counts
settled-end places edges matched raised counts waiting p none = record {
  matched_len = p.matched_len;
  same = same-marks raised matched (p.raised_len ∙ sym p.matched_len) (λ n. same-tests (stands raised n) (stands matched n) (end-raised places edges matched raised counts waiting p none n) (p.within n));
  counting = record {
    counts_len = p.counts_len;
    row_len = p.row_len;
    counted = λ n k low. let all = p.counted n k low in let nothing : count_by (leads_to n k) [] ≡ 0 = refl in omega arith;
  };
  closed = end-closed places edges matched raised counts waiting p none;
  greatest = p.stays;
}
