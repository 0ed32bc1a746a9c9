-- A node comes: what contracts see of its nodes.
use Rattle.std.proofs.Common.{◌≡◌, ℕ, ◌+◌, ◌<◌, ◌≤◌, ◌⊎◌, inl, inr, Bool, true, false, not, eqb, nat_eq, List, [], ◌∷◌, ◌++◌, length, get_or, set, filter, zero, suc, refl, sym, ap, ◌∙◌, subst, arith, eq-eqb}
use Rattle.std.specs.List.{Any, Contains}
use Rattle.std.specs.Set.{is_member}
use Rattle.std.proofs.lemmas.Bool.{eqb-true}
use Rattle.std.proofs.lemmas.List.Elements.{filter-append}
use Rattle.std.proofs.lemmas.List.Sums.{count_by-le-length}
use Rattle.cq_atom.specs.declared.edge.Edge.{Edge}
use Rattle.cq_match.specs.declared.graph.Out.{Out}
use Rattle.cq_match.specs.declared.graph.Place.{Place}
use Rattle.cq_match.specs.Graph.{leads_to}
use Rattle.cq_match.specs.Matched.{numbers}
use Rattle.cq_match.specs.Matcher.{without, with_number, is_apart}
use Rattle.cq_match.specs.Steps.Settle.{stands}
use Rattle.cq_match.specs.Steps.Kept.{place_at, count_at, is_live, edge_of, edges_left, edges_from, nodes_from, feeds_post, is_able, IsKept}
use Rattle.cq_match.proofs.Tests.{by_bool, and_left, both}
use Rattle.cq_match.proofs.Rows.{taken-placed}
use Rattle.cq_match.proofs.Edges.{append-none}
use Rattle.cq_match.proofs.Union.{contained-member}
use Rattle.cq_match.proofs.Bridge.{number-taken, node-found}
use Rattle.cq_match.proofs.Linking.{left-more}
use Rattle.cq_match.proofs.Going.{without-none, unable-place}

others-placed : (places : List Place) (n node : ℕ) (q : Place) → (place_at places node).taken ≡ false → without (n + node) (nodes_from n (set places node q)) ≡ nodes_from n places
others-placed [] n node q vacant = refl
others-placed (p ∷ places) n zero q vacant =
    let same : eqb n (n + 0) ≡ true = eq-eqb n (n + 0) (omega arith) in
    let rest = without-none places (n + 0) (n + 1) (omega arith) in
    by_bool q.taken (without (n + 0) (nodes_from n (q ∷ places)) ≡ nodes_from n (p ∷ places))
    (λ t. rw (t, same, vacant) rest)
    (λ f. rw (f, vacant) rest)
others-placed (p ∷ places) n (suc node) q vacant =
    let apart : eqb n (n + suc node) ≡ false = by_bool (eqb n (n + suc node)) (eqb n (n + suc node) ≡ false) (λ t. absurd (let e = eqb-true n (n + suc node) t in omega arith)) (λ f. f) in
    let next : n + 1 + node ≡ n + suc node = omega arith in
    let rest : without (n + suc node) (nodes_from (n + 1) (set places node q)) ≡ nodes_from (n + 1) places = ap (λ m. without m (nodes_from (n + 1) (set places node q))) (sym next) ∙ others-placed places (n + 1) node q vacant in
    by_bool p.taken (without (n + suc node) (nodes_from n (p ∷ set places node q)) ≡ nodes_from n (p ∷ places))
    (λ t. rw (t, apart) (ap (λ (ns : List (ℕ × ℕ × Bool)). (n, p.posts, p.able) ∷ ns) rest))
    (λ f. rw f rest)

pub placed-others : (places : List Place) (node : ℕ) (q : Place) → (place_at places node).taken ≡ false → without node (nodes_from 0 (set places node q)) ≡ nodes_from 0 places
placed-others places node q vacant = let is : 0 + node ≡ node = omega arith in ap (λ m. without m (nodes_from 0 (set places node q))) (sym is) ∙ others-placed places 0 node q vacant

none-numbered : (places : List Place) (j n : ℕ) → j < n → with_number j (nodes_from n places) ≡ []
none-numbered [] j n low = refl
none-numbered (p ∷ places) j n low =
    let rest = none-numbered places j (n + 1) (omega arith) in
    let apart : eqb n j ≡ false = by_bool (eqb n j) (eqb n j ≡ false) (λ t. absurd (let e = eqb-true n j t in omega arith)) (λ f. f) in
    by_bool p.taken (with_number j (nodes_from n (p ∷ places)) ≡ []) (λ t. rw (t, apart) rest) (λ f. rw f rest)

node-placed : (places : List Place) (n node : ℕ) (q : Place) → node < length places → q.taken ≡ true → with_number (n + node) (nodes_from n (set places node q)) ≡ (n + node, q.posts, q.able) ∷ []
node-placed [] n node q low taken = absurd (let none : node < 0 = low in omega arith)
node-placed (p ∷ places) n zero q low taken =
    let same : eqb n (n + 0) ≡ true = eq-eqb n (n + 0) (omega arith) in
    let is : n ≡ n + 0 = omega arith in
    let rest = none-numbered places (n + 0) (n + 1) (omega arith) in
    rw (taken, same) (ap (λ (ns : List (ℕ × ℕ × Bool)). (n, q.posts, q.able) ∷ ns) rest ∙ ap (λ (m : ℕ). let one : List (ℕ × ℕ × Bool) = (m, q.posts, q.able) ∷ [] in one) is)
node-placed (p ∷ places) n (suc node) q low taken =
    let apart : eqb n (n + suc node) ≡ false = by_bool (eqb n (n + suc node)) (eqb n (n + suc node) ≡ false) (λ t. absurd (let e = eqb-true n (n + suc node) t in omega arith)) (λ f. f) in
    let next : n + 1 + node ≡ n + suc node = omega arith in
    let rest : with_number (n + suc node) (nodes_from (n + 1) (set places node q)) ≡ (n + suc node, q.posts, q.able) ∷ [] =
    ap (λ m. with_number m (nodes_from (n + 1) (set places node q))) (sym next) ∙ node-placed places (n + 1) node q (let l : suc node < suc (length places) = low in omega arith) taken
    ∙ ap (λ (m : ℕ). let one : List (ℕ × ℕ × Bool) = (m, q.posts, q.able) ∷ [] in one) next in
    by_bool p.taken (with_number (n + suc node) (nodes_from n (p ∷ set places node q)) ≡ (n + suc node, q.posts, q.able) ∷ [])
    (λ t. rw (t, apart) rest)
    (λ f. rw f rest)

pub placed-node : (places : List Place) (node : ℕ) (q : Place) → node < length places → q.taken ≡ true → with_number node (nodes_from 0 (set places node q)) ≡ (node, q.posts, q.able) ∷ []
placed-node places node q low taken =
    let is : 0 + node ≡ node = omega arith in
    ap (λ m. with_number m (nodes_from 0 (set places node q))) (sym is) ∙ node-placed places 0 node q low taken ∙ ap (λ (m : ℕ). let one : List (ℕ × ℕ × Bool) = (m, q.posts, q.able) ∷ [] in one) is

-- ---- an edge that touches a node that is not able

-- as the provider keeps it
abbrev pub out_of : List Place → Edge → Out
out_of places e = record { head = e.head; waiter = e.waiter; post = e.post; stamp = (place_at places e.waiter).stamp }

pub record Ready (places : List Place) (node : ℕ) (e : Edge) (next : ℕ) : Type 0 where
  pub provider_low : e.provider < length places
  pub waiter_low : e.waiter < length places
  pub from : (place_at places e.provider).taken ≡ true
  pub fits : e.post < (place_at places e.waiter).posts
  pub live : is_live places (out_of places e) ≡ true
  pub stamp : (place_at places e.waiter).stamp < next
  pub unable : (place_at places node).able ≡ false
  pub touches : (e.provider ≡ node) ⊎ (e.waiter ≡ node)

waiter-placed : (places : List Place) (w post : ℕ) → Any (λ (node : ℕ × ℕ × Bool). (node.0 ≡ w) × (post < node.1)) (nodes_from 0 places) → ((place_at places w).taken ≡ true) × (post < (place_at places w).posts)
waiter-placed places w post any =
    let x = any.1 in
    let placed = node-found places 0 x (any.0, any.2, any.3) in
    let j = placed.0 in
    let num : 0 + j ≡ w = sym (ap (λ (n : ℕ × ℕ × Bool). n.0) placed.1) ∙ any.4.0 in
    let here : j ≡ w = omega arith in
    let posts : x.1 ≡ (place_at places j).posts = ap (λ (n : ℕ × ℕ × Bool). n.1) placed.1 in
    let within : post < x.1 = any.4.1 in
    (ap (λ i. (place_at places i).taken) (sym here) ∙ placed.2, (let q = ap (λ i. (place_at places i).posts) here in omega arith))

pub ready : {places : List Place} {leaving : List (List Out)} {totals : List (List ℕ)} {matched raised : List Bool} {counts : List (List ℕ)} {waiting reached : List ℕ} {room number next : ℕ}
    → IsKept places leaving totals matched raised counts waiting reached room number next → (node : ℕ) (e : Edge) (nodes : List (ℕ × ℕ × Bool)) → nodes_from 0 places ≡ nodes
    → is_able node nodes ≡ false → is_apart node e ≡ false → Contains (numbers nodes) e.provider → Any (λ (node : ℕ × ℕ × Bool). (node.0 ≡ e.waiter) × (e.post < node.1)) nodes
    → Ready places node e next
ready {places} k node e nodes is unable touches provider waiter =
    let from : (place_at places e.provider).taken ≡ true = sym (number-taken places e.provider) ∙ ap (λ (ns : List (ℕ × ℕ × Bool)). is_member nat_eq (numbers ns) e.provider) is ∙ contained-member (numbers nodes) e.provider provider in
    let to = waiter-placed places e.waiter e.post (subst (Any (λ (node : ℕ × ℕ × Bool). (node.0 ≡ e.waiter) × (e.post < node.1))) (sym is) waiter) in
    record {
      provider_low = taken-placed places e.provider from;
      waiter_low = taken-placed places e.waiter to.0;
      from = from;
      fits = to.1;
      live = both (place_at places e.waiter).taken (eqb (place_at places e.waiter).stamp (place_at places e.waiter).stamp) to.0 (eq-eqb (place_at places e.waiter).stamp (place_at places e.waiter).stamp refl);
      stamp = k.older e.waiter;
      unable = by_bool (place_at places node).able ((place_at places node).able ≡ false)
          (λ t. unable-place places node (k.able_taken node t) (ap (is_able node) is ∙ unable)) (λ f. f);
      touches = by_bool (eqb e.provider node) ((e.provider ≡ node) ⊎ (e.waiter ≡ node)) (λ t. inl (eqb-true e.provider node t))
          (λ f. by_bool (eqb e.waiter node) ((e.provider ≡ node) ⊎ (e.waiter ≡ node)) (λ t. inr (eqb-true e.waiter node t))
          (λ h. absurd (let never : true ≡ false = sym (both (not (eqb e.provider node)) (not (eqb e.waiter node)) (ap not f) (ap not h)) ∙ touches in cc)));
    }

-- how often an edge can be counted
pub total-few : {places : List Place} {leaving : List (List Out)} {totals : List (List ℕ)} {matched raised : List Bool} {counts : List (List ℕ)} {waiting reached : List ℕ} {room number next : ℕ}
    → IsKept places leaving totals matched raised counts waiting reached room number next → (n k : ℕ) → count_at totals n k ≤ number
total-few {places} {leaving} kept n k = let all = kept.totaled n k in let most = count_by-le-length (leads_to n k) (edges_from places 0 leaving) in let few = kept.numbered in omega arith

pub count-few : {places : List Place} {leaving : List (List Out)} {totals : List (List ℕ)} {matched raised : List Bool} {counts : List (List ℕ)} {waiting reached : List ℕ} {room number next : ℕ}
    → IsKept places leaving totals matched raised counts waiting reached room number next → (n k : ℕ) → k < (place_at places n).posts → count_at counts n k ≤ number
count-few {places} {leaving} {totals} {matched} {raised} kept n k inside =
    let all = kept.settled.counting.counted n k inside in let most = count_by-le-length (feeds_post (stands raised) n k) (edges_from places 0 leaving) in let few = kept.numbered in omega arith

-- the edges that do not touch the node stay the same
linked-apart : (places : List Place) (node : ℕ) (leaving : List (List Out)) (n p : ℕ) (out : Out) → is_live places out ≡ true → is_apart node (edge_of (n + p) out) ≡ false
    → filter (is_apart node) (edges_from places n (set leaving p (get_or leaving p [] ++ out ∷ []))) ≡ filter (is_apart node) (edges_from places n leaving)
linked-apart places node [] n p out live touches = refl
linked-apart places node (outs ∷ rest) n zero out live touches =
    let is : n + 0 ≡ n = omega arith in
    let here : is_apart node (edge_of n out) ≡ false = ap (λ m. is_apart node (edge_of m out)) (sym is) ∙ touches in
    let one : filter (is_apart node) (edge_of n out ∷ []) ≡ [] = rw here refl in
    filter-append (is_apart node) (edges_left places n (outs ++ out ∷ [])) (edges_from places (n + 1) rest)
    ∙ ap (λ (es : List Edge). es ++ filter (is_apart node) (edges_from places (n + 1) rest))
    (ap (filter (is_apart node)) (left-more places n outs out live) ∙ filter-append (is_apart node) (edges_left places n outs) (edge_of n out ∷ []) ∙ ap (λ (es : List Edge). filter (is_apart node) (edges_left places n outs) ++ es) one ∙ append-none (filter (is_apart node) (edges_left places n outs)))
    ∙ sym (filter-append (is_apart node) (edges_left places n outs) (edges_from places (n + 1) rest))
linked-apart places node (outs ∷ rest) n (suc p) out live touches =
    let next : n + 1 + p ≡ n + suc p = omega arith in
    filter-append (is_apart node) (edges_left places n outs) (edges_from places (n + 1) (set rest p (get_or rest p [] ++ out ∷ [])))
    ∙ ap (λ (es : List Edge). filter (is_apart node) (edges_left places n outs) ++ es) (linked-apart places node rest (n + 1) p out live (ap (λ m. is_apart node (edge_of m out)) next ∙ touches))
    ∙ sym (filter-append (is_apart node) (edges_left places n outs) (edges_from places (n + 1) rest))

pub apart-linked : (places : List Place) (node : ℕ) (leaving : List (List Out)) (p : ℕ) (out : Out) → is_live places out ≡ true → is_apart node (edge_of p out) ≡ false
    → filter (is_apart node) (edges_from places 0 (set leaving p (get_or leaving p [] ++ out ∷ []))) ≡ filter (is_apart node) (edges_from places 0 leaving)
apart-linked places node leaving p out live touches =
    let is : 0 + p ≡ p = omega arith in linked-apart places node leaving 0 p out live (ap (λ m. is_apart node (edge_of m out)) is ∙ touches)

-- no edge touches a node that is not there
apart-left : (places : List Place) (node n : ℕ) (outs : List Out) → (place_at places node).taken ≡ false → eqb n node ≡ false → filter (is_apart node) (edges_left places n outs) ≡ edges_left places n outs
apart-left places node n [] vacant other = refl
apart-left places node n (out ∷ outs) vacant other =
    let rest = apart-left places node n outs vacant other in
    by_bool (is_live places out) (filter (is_apart node) (edges_left places n (out ∷ outs)) ≡ edges_left places n (out ∷ outs))
    (λ t.
    let taken = and_left (place_at places out.waiter).taken (eqb (place_at places out.waiter).stamp out.stamp) t in
    let apart : eqb out.waiter node ≡ false = by_bool (eqb out.waiter node) (eqb out.waiter node ≡ false)
    (λ u. absurd (let never : false ≡ true = sym vacant ∙ ap (λ m. (place_at places m).taken) (sym (eqb-true out.waiter node u)) ∙ taken in cc)) (λ f. f) in
    rw (t, other, apart) (ap (λ (es : List Edge). edge_of n out ∷ es) rest))
    (λ f. rw f rest)

absent-from : (places : List Place) (node : ℕ) (leaving : List (List Out)) (n : ℕ) → (place_at places node).taken ≡ false → ((j : ℕ) → n + j ≡ node → get_or leaving j [] ≡ [])
    → filter (is_apart node) (edges_from places n leaving) ≡ edges_from places n leaving
absent-from places node [] n vacant none = refl
absent-from places node (outs ∷ rest) n vacant none =
    let later = absent-from places node rest (n + 1) vacant (λ j at. none (suc j) (omega arith)) in
    let here : filter (is_apart node) (edges_left places n outs) ≡ edges_left places n outs =
    by_bool (eqb n node) (filter (is_apart node) (edges_left places n outs) ≡ edges_left places n outs)
    (λ t. let at = eqb-true n node t in let empty : outs ≡ [] = none 0 (omega arith) in rw empty refl)
    (λ f. apart-left places node n outs vacant f) in
    filter-append (is_apart node) (edges_left places n outs) (edges_from places (n + 1) rest)
    ∙ ap (λ (es : List Edge). es ++ filter (is_apart node) (edges_from places (n + 1) rest)) here
    ∙ ap (λ (es : List Edge). edges_left places n outs ++ es) later

pub absent-apart : (places : List Place) (node : ℕ) (leaving : List (List Out)) → (place_at places node).taken ≡ false → get_or leaving node [] ≡ [] → filter (is_apart node) (edges_from places 0 leaving) ≡ edges_from places 0 leaving
absent-apart places node leaving vacant none =
    absent-from places node leaving 0 vacant (λ j at. let is : j ≡ node = omega arith in ap (λ (m : ℕ). get_or leaving m []) is ∙ none)
