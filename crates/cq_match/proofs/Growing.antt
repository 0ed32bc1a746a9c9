-- One more place, which is free: nothing that contracts see changes.
use Rattle.std.proofs.Common.{◌≡◌, ℕ, ◌+◌, ◌<◌, ◌≤◌, Bool, true, false, ◌&&◌, if◌then◌else◌, eqb, List, [], ◌∷◌, ◌++◌, length, get_or, zero, suc, map, filter, count_by, refl, sym, ap, ◌∙◌, subst, arith}
use Rattle.std.specs.List.{All}
use Rattle.std.proofs.Math.Path.{fun_ext}
use Rattle.std.proofs.lemmas.List.{length-append}
use Rattle.cq_atom.specs.declared.edge.Edge.{Edge}
use Rattle.cq_match.specs.declared.graph.Place.{Place}
use Rattle.cq_match.specs.declared.graph.Out.{Out}
use Rattle.cq_match.specs.Graph.{leads_to}
use Rattle.cq_match.specs.Steps.Settle.{stands}
use Rattle.cq_match.specs.Steps.Kept.{free, place_at, count_at, is_live, edge_of, edges_left, edges_from, nodes_from, marked_from, feeds_post, Closed, IsKept}

-- a default at the end changes no look-up
pub default-pushed : {X : Type 0} (xs : List X) (n : ℕ) (d : X) → get_or (xs ++ d ∷ []) n d ≡ get_or xs n d
default-pushed [] zero d = refl
default-pushed [] (suc n) d = refl
default-pushed (x ∷ xs) zero d = refl
default-pushed (x ∷ xs) (suc n) d = default-pushed xs n d

module _ (places : List Place) where
  abbrev pub more : List Place
  more = places ++ free ∷ []

  pub grown-place : (n : ℕ) → place_at more n ≡ place_at places n
  grown-place n = default-pushed places n free

  grown-live : is_live more ≡ is_live places
  grown-live = fun_ext (λ out. ap (λ (q : Place). q.taken && eqb q.stamp out.stamp) (grown-place out.waiter))

  grown-edges_from : (leaving : List (List Out)) (n : ℕ) → edges_from more n (leaving ++ [] ∷ []) ≡ edges_from places n leaving
  grown-edges_from [] n = refl
  grown-edges_from (outs ∷ rest) n =
      ap (λ (live : Out → Bool). map (edge_of n) (filter live outs) ++ edges_from more (n + 1) (rest ++ [] ∷ [])) grown-live
      ∙ ap (λ (es : List Edge). edges_left places n outs ++ es) (grown-edges_from rest (n + 1))

  pub grown-edges : (leaving : List (List Out)) → edges_from more 0 (leaving ++ [] ∷ []) ≡ edges_from places 0 leaving
  grown-edges leaving = grown-edges_from leaving 0

  grown-closed : (edges : List Edge) (members : ℕ → Bool) → Closed places edges members → Closed more edges members
  grown-closed edges members c = record {
    able = λ n t. ap (λ (q : Place). q.able) (grown-place n) ∙ c.able n t;
    fed = λ n k t low. c.fed n k t (let p = ap (λ (q : Place). q.posts) (grown-place n) in omega arith);
  }

  closed-grown : (edges : List Edge) (members : ℕ → Bool) → Closed more edges members → Closed places edges members
  closed-grown edges members c = record {
    able = λ n t. ap (λ (q : Place). q.able) (sym (grown-place n)) ∙ c.able n t;
    fed = λ n k t low. c.fed n k t (let p = ap (λ (q : Place). q.posts) (grown-place n) in omega arith);
  }

  pub grown-kept : (leaving : List (List Out)) (totals : List (List ℕ)) (matched raised : List Bool) (counts : List (List ℕ)) (waiting reached : List ℕ) (room room' number next : ℕ)
      → IsKept places leaving totals matched raised counts waiting reached room number next → length places + 1 ≤ room'
      → IsKept more (leaving ++ [] ∷ []) (totals ++ [] ∷ []) (matched ++ false ∷ []) (raised ++ false ∷ []) (counts ++ [] ∷ []) waiting reached room' number next
  grown-kept leaving totals matched raised counts waiting reached room room' number next k roomy =
      let len : length more ≡ length places + 1 = length-append places (free ∷ []) in
      let s = k.settled in
      let up : stands (matched ++ false ∷ []) ≡ stands matched = fun_ext (λ n. default-pushed matched n false) in
      let raised_up : stands (raised ++ false ∷ []) ≡ stands raised = fun_ext (λ n. default-pushed raised n false) in
      let posts : (n : ℕ) → (place_at more n).posts ≡ (place_at places n).posts = λ n. ap (λ (q : Place). q.posts) (grown-place n) in
      let at : (rows : List (List ℕ)) (n j : ℕ) → count_at (rows ++ [] ∷ []) n j ≡ count_at rows n j = λ rows n j. ap (λ (r : List ℕ). get_or r j 0) (default-pushed rows n []) in
      let same = grown-edges leaving in
      record {
        leaving_len = let a = length-append leaving ([] ∷ []) in let b = k.leaving_len in omega arith;
        totals_len = let a = length-append totals ([] ∷ []) in let b = k.totals_len in omega arith;
        fit = λ n i d inside live.
            let outs : get_or (leaving ++ [] ∷ []) n [] ≡ get_or leaving n [] = default-pushed leaving n [] in
            subst (λ (os : List Out). All (λ out. is_live more out ≡ true → out.post < (place_at more out.waiter).posts) os) (sym outs)
            (λ j e within alive.
            let out = get_or (get_or leaving n []) j e in
            let was = k.fit n j e within (ap (λ (test : Out → Bool). test out) (sym grown-live) ∙ alive) in
            let p = posts out.waiter in omega arith) i d inside live;
        totals_row = λ n. ap length (default-pushed totals n []) ∙ k.totals_row n ∙ sym (posts n);
        totaled = λ n j. at totals n j ∙ k.totaled n j ∙ ap (λ (es : List Edge). count_by (leads_to n j) es) (sym same);
        settled = rw same (record {
          matched_len = let a = length-append matched (false ∷ []) in let b = s.matched_len in omega arith;
          same = ap (λ (bs : List Bool). bs ++ false ∷ []) s.same;
          counting = record {
            counts_len = let a = length-append counts ([] ∷ []) in let b = s.counting.counts_len in omega arith;
            row_len = λ n. ap length (default-pushed counts n []) ∙ s.counting.row_len n ∙ sym (posts n);
            counted = λ n j low.
                let c = s.counting.counted n j (let p = posts n in omega arith) in
                let a = at counts n j in
                let f : count_by (feeds_post (stands (raised ++ false ∷ [])) n j) (edges_from places 0 leaving) ≡ count_by (feeds_post (stands raised) n j) (edges_from places 0 leaving) =
                ap (λ (g : ℕ → Bool). count_by (feeds_post g n j) (edges_from places 0 leaving)) raised_up in
                omega arith;
          };
          closed = subst (λ (g : ℕ → Bool). Closed more (edges_from places 0 leaving) g) (sym up) (grown-closed (edges_from places 0 leaving) (stands matched) s.closed);
          greatest = λ members closed n t. ap (λ (g : ℕ → Bool). g n) up ∙ s.greatest members (closed-grown (edges_from places 0 leaving) members closed) n t;
        });
        none_waits = k.none_waits;
        none_reached = k.none_reached;
        roomy = omega arith;
        numbered = let n = k.numbered in let l = ap length same in omega arith;
        older = λ n. let p = ap (λ (q : Place). q.stamp) (grown-place n) in let o = k.older n in omega arith;
        outs_older = λ n. subst (λ (os : List Out). All (λ out. out.stamp < next) os) (sym (default-pushed leaving n [])) (k.outs_older n);
        able_taken = λ n t. ap (λ (q : Place). q.taken) (grown-place n) ∙ k.able_taken n (ap (λ (q : Place). q.able) (sym (grown-place n)) ∙ t);
        free_posts = λ n t. posts n ∙ k.free_posts n (ap (λ (q : Place). q.taken) (sym (grown-place n)) ∙ t);
        free_leaving = λ n t. default-pushed leaving n [] ∙ k.free_leaving n (ap (λ (q : Place). q.taken) (sym (grown-place n)) ∙ t);
      }

-- ---- what contracts see

pub grown-nodes : (places : List Place) (n : ℕ) → nodes_from n (places ++ free ∷ []) ≡ nodes_from n places
grown-nodes [] n = refl
grown-nodes (p ∷ places) n = ap (λ (ns : List (ℕ × ℕ × Bool)). (if p.taken then (n, p.posts, p.able) ∷ [] else []) ++ ns) (grown-nodes places (n + 1))

pub grown-marked : (marks : List Bool) (n : ℕ) → marked_from n (marks ++ false ∷ []) ≡ marked_from n marks
grown-marked [] n = refl
grown-marked (b ∷ bs) n = ap (λ (ns : List ℕ). (if b then n ∷ [] else []) ++ ns) (grown-marked bs (n + 1))
