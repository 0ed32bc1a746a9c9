-- A node becomes able, or is able no longer: edges and all else stay.
use Rattle.std.proofs.Common.{◌≡◌, ℕ, ◌+◌, ◌<◌, ◌≢◌, Bool, true, false, ◌&&◌, eqb, List, [], ◌∷◌, ◌++◌, length, get_or, set, zero, suc, map, filter, count_by, refl, sym, ap, ◌∙◌, arith, eq-eqb}
use Rattle.std.proofs.Math.Path.{fun_ext}
use Rattle.std.proofs.lemmas.Bool.{eqb-true}
use Rattle.std.proofs.lemmas.List.{length-set, get_or-set_same, get_or-set_other}
use Rattle.cq_atom.specs.declared.edge.Edge.{Edge}
use Rattle.cq_match.specs.declared.graph.Place.{Place}
use Rattle.cq_match.specs.declared.graph.Out.{Out}
use Rattle.cq_match.specs.Graph.{leads_to}
use Rattle.cq_match.specs.Matcher.{with_flag}
use Rattle.cq_match.specs.Steps.Settle.{stands}
use Rattle.cq_match.specs.Steps.Kept.{free, place_at, is_live, edge_of, edges_left, edges_from, nodes_from, Closed, Counting, Settled, IsKept, OutsFit}
use Rattle.cq_match.proofs.Tests.{by_bool}
use Rattle.cq_match.proofs.Rows.{differ}

pub set-itself : (places : List Place) (node : ℕ) → set places node (place_at places node) ≡ places
set-itself [] node = refl
set-itself (p ∷ places) zero = refl
set-itself (p ∷ places) (suc node) = ap (λ (ps : List Place). p ∷ ps) (set-itself places node)

module _ (places : List Place) (node : ℕ) (b : Bool) (low : node < length places) where
  abbrev pub flagged : Place
  flagged = record (place_at places node) { able = b }

  abbrev pub places' : List Place
  places' = set places node flagged

  pub flagged-here : place_at places' node ≡ flagged
  flagged-here = get_or-set_same places node flagged free low

  pub flagged-other : (m : ℕ) → m ≢ node → place_at places' m ≡ place_at places m
  flagged-other m apart = get_or-set_other places node m flagged free apart

  -- whatever is not the flag stays
  same-field : {X : Type 0} (f : Place → X) → ((q : Place) → f (record q { able = b }) ≡ f q) → (m : ℕ) → f (place_at places' m) ≡ f (place_at places m)
  same-field f keeps m =
      by_bool (eqb m node) (f (place_at places' m) ≡ f (place_at places m))
      (λ t. let is = eqb-true m node t in ap (λ i. f (place_at places' i)) is ∙ ap f flagged-here ∙ keeps (place_at places node) ∙ ap (λ i. f (place_at places i)) (sym is))
      (λ n. ap f (flagged-other m (differ m node n)))

  pub same-posts : (m : ℕ) → (place_at places' m).posts ≡ (place_at places m).posts
  same-posts = same-field (λ q. q.posts) (λ q. refl)

  pub same-taken : (m : ℕ) → (place_at places' m).taken ≡ (place_at places m).taken
  same-taken = same-field (λ q. q.taken) (λ q. refl)

  pub same-stamp : (m : ℕ) → (place_at places' m).stamp ≡ (place_at places m).stamp
  same-stamp = same-field (λ q. q.stamp) (λ q. refl)

  pub same-live : is_live places' ≡ is_live places
  same-live = fun_ext (λ out. ap (λ (t : Bool). t && eqb (place_at places' out.waiter).stamp out.stamp) (same-taken out.waiter) ∙ ap (λ s. (place_at places out.waiter).taken && eqb s out.stamp) (same-stamp out.waiter))

  same-edges_from : (leaving : List (List Out)) (n : ℕ) → edges_from places' n leaving ≡ edges_from places n leaving
  same-edges_from [] n = refl
  same-edges_from (outs ∷ more) n =
      ap (λ (live : Out → Bool). map (edge_of n) (filter live outs) ++ edges_from places' (n + 1) more) same-live
      ∙ ap (λ (es : List Edge). edges_left places n outs ++ es) (same-edges_from more (n + 1))

  pub same-edges : (leaving : List (List Out)) → edges_from places' 0 leaving ≡ edges_from places 0 leaving
  same-edges leaving = same-edges_from leaving 0

  pub same-fit : (leaving : List (List Out)) → OutsFit places leaving → OutsFit places' leaving
  same-fit leaving fit n k d inside live =
      let out = get_or (get_or leaving n []) k d in
      let was = fit n k d inside (ap (λ (test : Out → Bool). test out) (sym same-live) ∙ live) in
      let posts = same-posts out.waiter in
      omega arith

  pub same-counting : (edges : List Edge) (raised : List Bool) (counts : List (List ℕ)) (left : List Edge) → Counting places edges raised counts left → Counting places' edges raised counts left
  same-counting edges raised counts left c = record {
    counts_len = c.counts_len ∙ sym (length-set places node flagged);
    row_len = λ n. c.row_len n ∙ sym (same-posts n);
    counted = λ n k inside. c.counted n k (let posts = same-posts n in omega arith);
  }

  -- a set without the node is closed as before
  pub closed-before : (edges : List Edge) (members : ℕ → Bool) → members node ≡ false → Closed places' edges members → Closed places edges members
  closed-before edges members out c = record {
    able = λ n t. ap (λ (q : Place). q.able) (sym (flagged-other n (λ e. let never : false ≡ true = sym out ∙ ap members (sym e) ∙ t in absurd cc))) ∙ c.able n t;
    fed = λ n k t inside. c.fed n k t (let posts = same-posts n in omega arith);
  }

  pub closed-after : (edges : List Edge) (members : ℕ → Bool) → members node ≡ false → Closed places edges members → Closed places' edges members
  closed-after edges members out c = record {
    able = λ n t. ap (λ (q : Place). q.able) (flagged-other n (λ e. let never : false ≡ true = sym out ∙ ap members (sym e) ∙ t in absurd cc)) ∙ c.able n t;
    fed = λ n k t inside. c.fed n k t (let posts = same-posts n in omega arith);
  }

  -- all that is kept but for what is matched stays
  pub same-kept : (leaving : List (List Out)) (totals : List (List ℕ)) (m r m' r' : List Bool) (c c' : List (List ℕ)) (w x w' x' : List ℕ) (room room' number next : ℕ)
      → IsKept places leaving totals m r c w x room number next → (place_at places node).taken ≡ true → Settled places' (edges_from places' 0 leaving) m' r' c' → w' ≡ [] → x' ≡ [] → room' ≡ room
      → IsKept places' leaving totals m' r' c' w' x' room' number next
  same-kept leaving totals m r m' r' c c' w x w' x' room room' number next k taken settled none_w none_x same_room =
      let len = length-set places node flagged in
      record {
        leaving_len = k.leaving_len ∙ sym len;
        totals_len = k.totals_len ∙ sym len;
        fit = same-fit leaving k.fit;
        totals_row = λ n. k.totals_row n ∙ sym (same-posts n);
        totaled = λ n j. k.totaled n j ∙ ap (λ (es : List Edge). count_by (leads_to n j) es) (sym (same-edges leaving));
        settled = settled;
        none_waits = none_w;
        none_reached = none_x;
        roomy = let r = k.roomy in omega arith;
        numbered = let n = k.numbered in let l = ap length (same-edges leaving) in omega arith;
        older = λ n. let s = same-stamp n in let o = k.older n in omega arith;
        outs_older = k.outs_older;
        able_taken = λ n t. by_bool (eqb n node) ((place_at places' n).taken ≡ true)
            (λ is. same-taken n ∙ ap (λ i. (place_at places i).taken) (eqb-true n node is) ∙ taken)
            (λ f. same-taken n ∙ k.able_taken n (ap (λ (q : Place). q.able) (sym (flagged-other n (differ n node f))) ∙ t));
        free_posts = λ n t. same-posts n ∙ k.free_posts n (sym (same-taken n) ∙ t);
        free_leaving = λ n t. k.free_leaving n (sym (same-taken n) ∙ t);
      }

-- ---- the nodes that contracts see

flag-none : (places : List Place) (j n : ℕ) (b : Bool) → j < n → with_flag j b (nodes_from n places) ≡ nodes_from n places
flag-none [] j n b low = refl
flag-none (p ∷ places) j n b low =
    let rest = flag-none places j (n + 1) b (omega arith) in
    let apart : eqb n j ≡ false = by_bool (eqb n j) (eqb n j ≡ false) (λ t. absurd (let e = eqb-true n j t in omega arith)) (λ f. f) in
    by_bool p.taken (with_flag j b (nodes_from n (p ∷ places)) ≡ nodes_from n (p ∷ places))
    (λ t. rw (t, apart) (ap (λ (ns : List (ℕ × ℕ × Bool)). (n, p.posts, p.able) ∷ ns) rest))
    (λ f. rw f rest)

nodes-flagged : (places : List Place) (n node : ℕ) (b : Bool) → nodes_from n (set places node (record (place_at places node) { able = b })) ≡ with_flag (n + node) b (nodes_from n places)
nodes-flagged [] n node b = refl
nodes-flagged (p ∷ places) n zero b =
    let same : eqb n (n + 0) ≡ true = eq-eqb n (n + 0) (omega arith) in
    let rest = flag-none places (n + 0) (n + 1) b (omega arith) in
    by_bool p.taken (nodes_from n (record p { able = b } ∷ places) ≡ with_flag (n + 0) b (nodes_from n (p ∷ places)))
    (λ t. rw (t, same) (ap (λ (ns : List (ℕ × ℕ × Bool)). (n, p.posts, b) ∷ ns) (sym rest)))
    (λ f. rw f (sym rest))
nodes-flagged (p ∷ places) n (suc node) b =
    let apart : eqb n (n + suc node) ≡ false = by_bool (eqb n (n + suc node)) (eqb n (n + suc node) ≡ false) (λ t. absurd (let e = eqb-true n (n + suc node) t in omega arith)) (λ f. f) in
    let next : n + 1 + node ≡ n + suc node = omega arith in
    let rest : nodes_from (n + 1) (set places node (record (place_at places node) { able = b })) ≡ with_flag (n + suc node) b (nodes_from (n + 1) places) =
    nodes-flagged places (n + 1) node b ∙ ap (λ m. with_flag m b (nodes_from (n + 1) places)) next in
    by_bool p.taken (nodes_from n (p ∷ set places node (record (place_at places node) { able = b })) ≡ with_flag (n + suc node) b (nodes_from n (p ∷ places)))
    (λ t. rw (t, apart) (ap (λ (ns : List (ℕ × ℕ × Bool)). (n, p.posts, p.able) ∷ ns) rest))
    (λ f. rw f rest)

pub flagged-nodes : (places : List Place) (node : ℕ) (b : Bool) → nodes_from 0 (set places node (record (place_at places node) { able = b })) ≡ with_flag node b (nodes_from 0 places)
flagged-nodes places node b = let is : 0 + node ≡ node = omega arith in nodes-flagged places 0 node b ∙ ap (λ m. with_flag m b (nodes_from 0 places)) is

-- a flag that stood so already
pub flagged-already : (places : List Place) (node : ℕ) (b : Bool) → (place_at places node).able ≡ b → nodes_from 0 places ≡ with_flag node b (nodes_from 0 places)
flagged-already places node b is =
    let same : set places node (record (place_at places node) { able = b }) ≡ places = ap (λ (c : Bool). set places node (record (place_at places node) { able = c })) (sym is) ∙ set-itself places node in
    ap (nodes_from 0) (sym same) ∙ flagged-nodes places node b

-- no closed set has a node that is not able
pub most-without : (places : List Place) (node : ℕ) (low : node < length places) (edges : List Edge) (matched : List Bool)
    → ((members : ℕ → Bool) → Closed places edges members → (n : ℕ) → members n ≡ true → stands matched n ≡ true)
    → (members : ℕ → Bool) → Closed (set places node (record (place_at places node) { able = false })) edges members → (n : ℕ) → members n ≡ true → stands matched n ≡ true
most-without places node low edges matched most members closed n t =
    by_bool (members node) (stands matched n ≡ true)
    (λ u. absurd (let never : false ≡ true = sym (ap (λ (q : Place). q.able) (flagged-here places node false low)) ∙ closed.able node u in cc))
    (λ f. most members (closed-before places node false low edges members f closed) n t)

-- a node that is not able is not matched
pub unmatched : (places : List Place) (edges : List Edge) (matched : List Bool) (node : ℕ) → Closed places edges (stands matched) → (place_at places node).able ≡ false → stands matched node ≡ false
unmatched places edges matched node closed unable =
    by_bool (stands matched node) (stands matched node ≡ false) (λ t. absurd (let never : false ≡ true = sym unable ∙ closed.able node t in cc)) (λ f. f)
