-- What is reached from a node, and which of it is matched.
use Rattle.std.proofs.Common.{◌≡◌, ℕ, ◌+◌, ◌<◌, ◌⊎◌, inl, inr, Bool, true, false, not, ◌&&◌, ◌||◌, eqb, List, [], ◌∷◌, length, get_or, set, zero, suc, filter, refl, sym, ap, ◌∙◌, subst, arith, eq-eqb}
use Rattle.std.specs.List.{All, list_any}
use Rattle.std.proofs.lemmas.Bool.{eqb-true}
use Rattle.std.proofs.lemmas.List.{length-set}
use Rattle.std.proofs.lemmas.List.Elements.{All-head, All-tail, All-push}
use Rattle.cq_atom.specs.declared.edge.Edge.{Edge}
use Rattle.cq_match.specs.declared.graph.Place.{Place}
use Rattle.cq_match.specs.declared.graph.Out.{Out}
use Rattle.cq_match.specs.Graph.{leads_to}
use Rattle.cq_match.specs.Steps.Settle.{stands}
use Rattle.cq_match.specs.Steps.Kept.{place_at, edges_left, edges_from, feeds_post, Closed, Counting, Grown, IsLater, Reaches, Reaching}
use Rattle.cq_match.proofs.Tests.{by_bool, and_left, and_right, both}
use Rattle.cq_match.proofs.Rows.{differ}
use Rattle.cq_match.proofs.Edges.{feeds-wider, edges-of_node}
use Rattle.cq_match.proofs.Raising.{marked-itself, marked-more, marked-cases, count-marked, reaches-kept}

-- the next number of the list is the one at the index, or a later one
pub later-cases : (index n : ℕ) (reached : List ℕ) → IsLater index reached n → (n ≡ get_or reached index 0) ⊎ IsLater (index + 1) reached n
later-cases index n reached (j, from, low, at) =
    by_bool (eqb j index) ((n ≡ get_or reached index 0) ⊎ IsLater (index + 1) reached n)
    (λ t. inl (sym at ∙ ap (λ i. get_or reached i 0) (eqb-true j index t)))
    (λ f. let apart = differ j index f in inr (j, omega arith, low, at))

-- ---- the search

module _ (places : List Place) (leaving : List (List Out)) (edges : List Edge) where
  pub reaching-start : (before : List Bool) (counts : List (List ℕ)) (node : ℕ) → length before ≡ length places → Counting places edges before counts []
      → ((n : ℕ) → stands before n ≡ true → (place_at places n).able ≡ true) → node < length places → stands before node ≡ false → (place_at places node).able ≡ true
      → Reaching places leaving edges before (set before node true) before counts (node ∷ []) 0
  reaching-start before counts node len counting able low down can =
      let first : IsLater 0 (node ∷ []) node = (0, omega arith, (let one : 0 < 1 = omega arith in one), refl) in
      record {
        matched_len = length-set before node true ∙ len;
        raised_len = len;
        counting = counting;
        kept = λ n up. up;
        within = λ n up. marked-more before node n up;
        found = λ n up. elim (marked-cases before node n up) [ inl was ↦ inl was | inr is ↦ inr (subst (IsLater 0 (node ∷ [])) (sym is) first) ];
        due = λ n up. elim (marked-cases before node n up) [ inl was ↦ inl was | inr is ↦ inr (subst (IsLater 0 (node ∷ [])) (sym is) first) ];
        reaches = λ n up. inl up;
        able = λ n up. elim (marked-cases before node n up) [ inl was ↦ able n was | inr is ↦ ap (λ m. (place_at places m).able) is ∙ can ];
        placed = All-push (λ n. n < length places) [] node (λ k d inside. absurd (let none : k < 0 = inside in omega arith)) low;
        listed = All-push (λ n. stands (set before node true) n ≡ true) [] node (λ k d inside. absurd (let none : k < 0 = inside in omega arith)) (marked-itself before node (omega arith));
        size = let one = count-marked before node (omega arith) down in let l : length (node ∷ []) ≡ 1 = refl in omega arith;
        upto = omega arith;
      }

  module _ (before matched raised : List Bool) (counts : List (List ℕ)) (reached : List ℕ) (index : ℕ) (r : Reaching places leaving edges before matched raised counts reached index) (low : index < length reached) where
    abbrev next : ℕ
    next = get_or reached index 0

    pub next-placed : next < length places
    next-placed = r.placed index 0 low

    pub reaching-skip : stands raised next ≡ true → Reaching places leaving edges before matched raised counts reached (index + 1)
    reaching-skip up = record {
      matched_len = r.matched_len;
      raised_len = r.raised_len;
      counting = r.counting;
      kept = r.kept;
      within = r.within;
      found = r.found;
      due = λ n m. elim (r.due n m) [ inl was ↦ inl was | inr l ↦ elim (later-cases index n reached l) [ inl is ↦ inl (ap (stands raised) is ∙ up) | inr later ↦ inr later ] ];
      reaches = r.reaches;
      able = r.able;
      placed = r.placed;
      listed = r.listed;
      size = r.size;
      upto = omega arith;
    }

    pub reaching-step : (matched' : List Bool) (counts' : List (List ℕ)) (reached' : List ℕ) → Counting places edges (set raised next true) counts' [] → Grown places matched reached matched' reached'
        → Reaches places matched' (edges_left places next (get_or leaving next [])) → Reaching places leaving edges before matched' (set raised next true) counts' reached' (index + 1)
    reaching-step matched' counts' reached' counting grown reaches =
        let inside : next < length raised = let p = next-placed in let len = r.raised_len in omega arith in
        let moved : (from n : ℕ) → IsLater from reached n → IsLater from reached' n = λ from n l. (l.0, l.1, (let a = l.2 in let b = grown.longer in omega arith), grown.front l.0 l.2 ∙ l.3) in
        record {
          matched_len = grown.len ∙ r.matched_len;
          raised_len = length-set raised next true ∙ r.raised_len;
          counting = counting;
          kept = λ n up. marked-more raised next n (r.kept n up);
          within = λ n up. elim (marked-cases raised next n up) [ inl was ↦ grown.kept n (r.within n was) | inr is ↦ grown.kept n (ap (stands matched) is ∙ r.listed index 0 low) ];
          found = λ n up. elim (grown.found n up) [
            | inl was ↦ elim (r.found n was) [ inl b ↦ inl b | inr l ↦ inr (moved 0 n l) ]
            | inr l ↦ inr (l.0, omega arith, l.2, l.3)
          ];
          due = λ n up. elim (grown.found n up) [
            | inl was ↦ elim (r.due n was) [
              | inl b ↦ inl (marked-more raised next n b)
              | inr l ↦ elim (later-cases index n reached l) [ inl is ↦ inl (ap (stands (set raised next true)) is ∙ marked-itself raised next inside) | inr later ↦ inr (moved (index + 1) n later) ]
            ]
            | inr l ↦ inr (l.0, (let from = l.1 in omega arith), l.2, l.3)
          ];
          reaches = λ n up. elim (marked-cases raised next n up) [
            | inl was ↦ elim (r.reaches n was) [ inl b ↦ inl b | inr h ↦ inr (reaches-kept places matched matched' (edges_left places n (get_or leaving n [])) grown.kept h) ]
            | inr is ↦ inr (subst (λ m. Reaches places matched' (edges_left places m (get_or leaving m []))) (sym is) reaches)
          ];
          able = λ n up. elim (grown.able n up) [ inl was ↦ r.able n was | inr can ↦ can ];
          placed = grown.placed r.placed;
          listed = grown.listed r.listed;
          size = let a = grown.size in let b = r.size in omega arith;
          upto = let b = grown.longer in omega arith;
        }

-- ---- what holds of the edges of each provider holds of all edges

pub each-provider : (Q : Edge → Type 0) (edges : List Edge) → ((v : ℕ) → All (λ e. Q e) (filter (λ e. eqb e.provider v) edges)) → All Q edges
each-provider Q [] h = λ k d low. absurd (let none : k < 0 = low in omega arith)
each-provider Q (e ∷ edges) h =
    let own : filter (λ (x : Edge). eqb x.provider e.provider) (e ∷ edges) ≡ e ∷ filter (λ (x : Edge). eqb x.provider e.provider) edges = rw (eq-eqb e.provider e.provider refl) refl in
    let head : Q e = All-head Q e (filter (λ (x : Edge). eqb x.provider e.provider) edges) (subst (All Q) own (h e.provider)) in
    let tail : All Q edges = each-provider Q edges (λ v.
    by_bool (eqb e.provider v) (All Q (filter (λ (x : Edge). eqb x.provider v) edges))
    (λ t. let same : filter (λ (x : Edge). eqb x.provider v) (e ∷ edges) ≡ e ∷ filter (λ (x : Edge). eqb x.provider v) edges = rw t refl in All-tail Q e (filter (λ (x : Edge). eqb x.provider v) edges) (subst (All Q) same (h v)))
    (λ f. let same : filter (λ (x : Edge). eqb x.provider v) (e ∷ edges) ≡ filter (λ (x : Edge). eqb x.provider v) edges = rw f refl in subst (All Q) same (h v))) in
    All-cons Q e edges head tail
  where
    All-cons : (Q : Edge → Type 0) (e : Edge) (edges : List Edge) → Q e → All Q edges → All Q (e ∷ edges)
    All-cons Q e edges q h zero d low = q
    All-cons Q e edges q h (suc k) d low = h k d (let l : suc k < suc (length edges) = low in omega arith)

-- one test implies the other at each edge of the list
pub any-within : (p q : Edge → Bool) (edges : List Edge) → All (λ e. p e ≡ true → q e ≡ true) edges → list_any p edges ≡ true → list_any q edges ≡ true
any-within p q [] h e = e
any-within p q (x ∷ edges) h e =
    by_bool (q x) (list_any q (x ∷ edges) ≡ true) (λ t. rw t refl)
    (λ f.
    by_bool (p x) (list_any q (x ∷ edges) ≡ true)
    (λ t. absurd (let never : false ≡ true = sym f ∙ All-head (λ e. p e ≡ true → q e ≡ true) x edges h t in cc))
    (λ g. rw f (any-within p q edges (All-tail (λ e. p e ≡ true → q e ≡ true) x edges h) (rw g at e))))

or-first : (a b : Bool) → a ≡ true → (a || b) ≡ true
or-first true b e = refl
or-first false b e = absurd (let never : false ≡ true = e in cc)

or-second : (a b : Bool) → b ≡ true → (a || b) ≡ true
or-second true b e = refl
or-second false b e = e

or-cases : (a b : Bool) (P : Type 0) → (a || b) ≡ true → (a ≡ true → P) → (b ≡ true → P) → P
or-cases true b P e f g = f refl
or-cases false b P e f g = g e

not-true : (b : Bool) → not b ≡ true → b ≡ false
not-true true e = sym e
not-true false e = refl

-- What is matched for certain and what is reached: no closed set has more.
pub reached-all : (places : List Place) (leaving : List (List Out)) (before matched raised : List Bool) (counts : List (List ℕ)) (reached : List ℕ) (node : ℕ)
    → Reaching places leaving (edges_from places 0 leaving) before matched raised counts reached (length reached) → stands matched node ≡ true → stands before node ≡ false → Closed places (edges_from places 0 leaving) (stands before)
    → ((members : ℕ → Bool) → members node ≡ false → Closed places (edges_from places 0 leaving) members → (n : ℕ) → members n ≡ true → stands before n ≡ true)
    → (members : ℕ → Bool) → Closed places (edges_from places 0 leaving) members → (n : ℕ) → members n ≡ true → stands matched n ≡ true
reached-all places leaving before matched raised counts reached node r up down first others members closed n t =
    by_bool (stands matched n) (stands matched n ≡ true) (λ u. u)
    (λ f. absurd (
    let edges : List Edge = edges_from places 0 leaving in
    let raised-up : (m : ℕ) → stands matched m ≡ true → stands raised m ≡ true = λ m u. elim (r.due m u) [ inl b ↦ b | inr l ↦ absurd (let a = l.1 in let b = l.2 in omega arith) ] in
    let left : ℕ → Bool = λ m. members m && not (stands matched m) in
    let rest : ℕ → Bool = λ m. stands before m || left m in
    let off : All (λ (e : Edge). (stands matched e.provider ≡ true) → (stands before e.provider ≡ true) ⊎ ((place_at places e.waiter).able ≡ true → stands matched e.waiter ≡ true)) edges =
    each-provider (λ (e : Edge). (stands matched e.provider ≡ true) → (stands before e.provider ≡ true) ⊎ ((place_at places e.waiter).able ≡ true → stands matched e.waiter ≡ true)) edges
    (λ v k d low u.
    let own = edges-of_node places leaving v in
    let of_v : All (λ (e : Edge). eqb e.provider v ≡ true) (filter (λ (e : Edge). eqb e.provider v) edges) = filtered (λ (e : Edge). eqb e.provider v) edges in
    let is : (get_or (filter (λ (e : Edge). eqb e.provider v) edges) k d).provider ≡ v = eqb-true _ v (of_v k d low) in
    elim (r.reaches v (raised-up v (ap (stands matched) (sym is) ∙ u))) [
      | inl b ↦ inl (ap (stands before) is ∙ b)
      | inr h ↦ inr (subst (λ (es : List Edge). Reaches places matched es) (sym own) h k d low)
    ]) in
    let no_node : rest node ≡ false =
    ap (λ (b : Bool). b || left node) down ∙ ap (λ (b : Bool). members node && not b) up ∙ and-false (members node) in
    let rest_closed : Closed places edges rest = record {
      able = λ m u. or-cases (stands before m) (left m) ((place_at places m).able ≡ true) u (first.able m) (λ l. closed.able m (and_left (members m) (not (stands matched m)) l));
      fed = λ m k u low. or-cases (stands before m) (left m) (list_any (feeds_post rest m k) edges ≡ true) u
          (λ b. feeds-wider (stands before) rest (λ j v. or-first (stands before j) (left j) v) m k edges (first.fed m k b low))
          (λ l.
          let member = and_left (members m) (not (stands matched m)) l in
          let out = not-true (stands matched m) (and_right (members m) (not (stands matched m)) l) in
          any-within (feeds_post members m k) (feeds_post rest m k) edges
          (λ j d inside fed.
          let e = get_or edges j d in
          let leads = and_left (leads_to m k e) (members e.provider) fed in
          let from = and_right (leads_to m k e) (members e.provider) fed in
          let is : e.waiter ≡ m = eqb-true e.waiter m (and_left (eqb e.waiter m) (eqb e.post k) leads) in
          both (leads_to m k e) (rest e.provider) leads
          (by_bool (stands matched e.provider) (rest e.provider ≡ true)
          (λ v. elim (off j d inside v) [
            | inl b ↦ or-first (stands before e.provider) (left e.provider) b
            | inr h ↦ absurd (let never : false ≡ true = sym out ∙ ap (stands matched) (sym is) ∙ h (ap (λ i. (place_at places i).able) is ∙ closed.able m member) in cc)
          ])
          (λ v. or-second (stands before e.provider) (left e.provider) (both (members e.provider) (not (stands matched e.provider)) from (ap not v)))))
          (closed.fed m k member low));
    } in
    let here : rest n ≡ true = or-second (stands before n) (left n) (both (members n) (not (stands matched n)) t (ap not f)) in
    let was : stands before n ≡ true = others rest no_node rest_closed n here in
    let never : false ≡ true = sym f ∙ r.within n (r.kept n was) in
    cc))
  where
    and-false : (b : Bool) → (b && false) ≡ false
    and-false true = refl
    and-false false = refl

    filtered : (p : Edge → Bool) (edges : List Edge) → All (λ e. p e ≡ true) (filter p edges)
    filtered p [] = λ k d low. absurd (let none : k < 0 = low in omega arith)
    filtered p (e ∷ edges) =
        by_bool (p e) (All (λ x. p x ≡ true) (filter p (e ∷ edges)))
        (λ t. rw t (λ k d low. at-place p e edges t (filtered p edges) k d low))
        (λ f. rw f (filtered p edges))
      where
        at-place : (p : Edge → Bool) (e : Edge) (edges : List Edge) → p e ≡ true → All (λ x. p x ≡ true) (filter p edges) → All (λ x. p x ≡ true) (e ∷ filter p edges)
        at-place p e edges t h zero d low = t
        at-place p e edges t h (suc k) d low = h k d (let l : suc k < suc (length (filter p edges)) = low in omega arith)
