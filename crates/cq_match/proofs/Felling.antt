-- A node that is able no longer is matched no longer.
use Rattle.std.proofs.Common.{◌≡◌, ℕ, ◌+◌, ◌<◌, ◌≤◌, ◌≢◌, ◌⊎◌, inl, inr, Bool, true, false, eqb, List, [], ◌∷◌, length, set, count_by, refl, sym, ap, ◌∙◌, subst, arith}
use Rattle.std.specs.List.{Contains, list_any}
use Rattle.std.proofs.lemmas.Bool.{eqb-true}
use Rattle.std.proofs.lemmas.List.{length-set}
use Rattle.std.proofs.lemmas.List.Elements.{All-push, Contains-push}
use Rattle.cq_atom.specs.declared.edge.Edge.{Edge}
use Rattle.cq_match.specs.declared.graph.Place.{Place}
use Rattle.cq_match.specs.Graph.{leads_to}
use Rattle.cq_match.specs.Steps.Settle.{stands}
use Rattle.cq_match.specs.Steps.Kept.{place_at, count_at, feeds_post, Closed, Pruning, Counting}
use Rattle.cq_match.proofs.Tests.{by_bool}
use Rattle.cq_match.proofs.Rows.{differ}
use Rattle.cq_match.proofs.Edges.{some-counted, lowered-itself, lowered-other, lowered-less}

module _ (places : List Place) (edges : List Edge) (matched raised : List Bool) (counts : List (List ℕ)) (node : ℕ)
    (same : raised ≡ matched) (len : length matched ≡ length places) (counting : Counting places edges matched counts [])
    (able : (n : ℕ) → n ≢ node → stands matched n ≡ true → (place_at places n).able ≡ true)
    (fed : (n k : ℕ) → stands matched n ≡ true → k < (place_at places n).posts → list_any (feeds_post (stands matched) n k) edges ≡ true)
    (unable : (place_at places node).able ≡ false)
    (most : (members : ℕ → Bool) → Closed places edges members → (n : ℕ) → members n ≡ true → stands matched n ≡ true) where
  is-raised : (n : ℕ) → stands raised n ≡ stands matched n
  is-raised n = ap (λ (bs : List Bool). stands bs n) same

  all-counted : (n k : ℕ) → k < (place_at places n).posts → count_at counts n k ≡ count_by (feeds_post (stands raised) n k) edges + count_by (leads_to n k) []
  all-counted n k low =
      let all = counting.counted n k low in
      let none : count_by (leads_to n k) [] ≡ 0 = refl in
      let moved : count_by (feeds_post (stands raised) n k) edges ≡ count_by (feeds_post (stands matched) n k) edges = ap (λ (bs : List Bool). count_by (feeds_post (stands bs) n k) edges) same in
      omega arith

  some-fed : (n k : ℕ) → stands matched n ≡ true → k < (place_at places n).posts → 1 ≤ count_at counts n k
  some-fed n k up low =
      let some = some-counted (feeds_post (stands matched) n k) edges (fed n k up low) in
      let all = counting.counted n k low in
      let none : count_by (leads_to n k) [] ≡ 0 = refl in
      omega arith

  -- the node was not matched
  pub felling-down : stands matched node ≡ false → Pruning places edges matched raised counts [] []
  felling-down down = record {
    matched_len = len;
    raised_len = ap length same ∙ len;
    counts_len = counting.counts_len;
    row_len = counting.row_len;
    counted = all-counted;
    within = λ n up. is-raised n ∙ up;
    due = λ n up. inl (sym (is-raised n) ∙ up);
    able = λ n up. able n (λ e. let never : false ≡ true = sym down ∙ ap (stands matched) (sym e) ∙ up in absurd cc) up;
    fed = some-fed;
    stays = most;
    placed = λ k d low. absurd (let none : k < 0 = low in omega arith);
    fallen = λ k d low. absurd (let none : k < 0 = low in omega arith);
  }

  -- the node was matched
  pub felling-up : node < length places → Pruning places edges (set matched node false) raised counts (node ∷ []) []
  felling-up placed =
      let still : (n : ℕ) → stands (set matched node false) n ≡ true → stands matched n ≡ true = λ n up. lowered-less matched node n up in
      let apart : (n : ℕ) → stands (set matched node false) n ≡ true → n ≢ node = λ n up e. let never : false ≡ true = sym (lowered-itself matched node) ∙ ap (stands (set matched node false)) (sym e) ∙ up in absurd cc in
      record {
        matched_len = length-set matched node false ∙ len;
        raised_len = ap length same ∙ len;
        counts_len = counting.counts_len;
        row_len = counting.row_len;
        counted = all-counted;
        within = λ n up. is-raised n ∙ still n up;
        due = λ n up. by_bool (eqb n node) ((stands (set matched node false) n ≡ true) ⊎ Contains (node ∷ []) n)
            (λ t. inr (subst (Contains (node ∷ [])) (sym (eqb-true n node t)) (Contains-push [] node)))
            (λ f. inl (lowered-other matched node n (differ n node f) ∙ sym (is-raised n) ∙ up));
        able = λ n up. able n (apart n up) (still n up);
        fed = λ n k up low. some-fed n k (still n up) low;
        stays = λ members closed n t.
            by_bool (eqb n node) (stands (set matched node false) n ≡ true)
            (λ is. absurd (let never : false ≡ true = sym unable ∙ closed.able node (ap members (sym (eqb-true n node is)) ∙ t) in cc))
            (λ f. lowered-other matched node n (differ n node f) ∙ most members closed n t);
        placed = All-push (λ n. n < length places) [] node (λ k d low. absurd (let none : k < 0 = low in omega arith)) placed;
        fallen = All-push (λ n. stands (set matched node false) n ≡ false) [] node (λ k d low. absurd (let none : k < 0 = low in omega arith)) (lowered-itself matched node);
      }
