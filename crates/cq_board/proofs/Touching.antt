-- Which edges touch a resident, and that none of them comes twice.
use Rattle.std.proofs.Common.{◌≡◌, ℕ, ◌<◌, ◌⊎◌, inl, inr, Bool, true, List, [], ◌∷◌, ◌++◌, count_by, refl, sym, ap, subst, ◌∙◌, arith}
use Rattle.std.specs.List.{flat_map, enumerate_from, slice_get}
use Rattle.cq_atom.specs.Atom.{AtomRecord}
use Rattle.cq_atom.specs.declared.edge.Edge.{Edge}
use Rattle.cq_board.specs.Steps.Supply.{unifies}
use Rattle.cq_board.specs.Edges.{edge_if}
use Rattle.cq_board.specs.Steps.Residents.{Resident, Supplies, edges_from, edges_between, edges_touching}
use Rattle.cq_board.proofs.Members.{by_bool, In, In-left, In-right, In-append, In-flat_map, In-flat_map_gives}
use Rattle.cq_board.proofs.Ends.{In-edge_if, In-enumerate}
use Rattle.cq_board.proofs.Among.{enumerate-In}
use Rattle.cq_board.proofs.Pairwise.{Pairwise, Differ, Pairwise-append, Pairwise-flat_map, enumerate-rises, same_counts}

-- ---- members

edge_if_unifies : (provider : ℕ) (head : ℕ × AtomRecord) (waiter : ℕ) (post : ℕ × AtomRecord) (e : Edge) → In e (edge_if provider head waiter post) → unifies head.1 post.1 ≡ true
edge_if_unifies provider head waiter post e h = by_bool (unifies head.1 post.1) (unifies head.1 post.1 ≡ true) (λ t. t) (λ f. absurd (rw f at h))

edge_if_has : (provider : ℕ) (head : ℕ × AtomRecord) (waiter : ℕ) (post : ℕ × AtomRecord) → unifies head.1 post.1 ≡ true
    → In (record { provider = provider; head = head.0; waiter = waiter; post = post.0 }) (edge_if provider head waiter post)
edge_if_has provider head waiter post t = rw t (inl refl)

-- the residents between which an edge leads
abbrev pub Leads : List Resident → List Resident → Edge → Type 0
Leads providers waiters e = (p : Resident) × (w : Resident) × In p providers × In w waiters × Supplies p w e

module _ (providers waiters : List Resident) (e : Edge) where
  pub between_gives : In e (edges_between providers waiters) → Leads providers waiters e
  between_gives h =
      let by_waiter = In-flat_map_gives (λ (w : Resident). flat_map (edges_from providers w.0) (enumerate_from 0 w.1.query.posts)) waiters e h in
      let w = by_waiter.0 in
      let by_post = In-flat_map_gives (edges_from providers w.0) (enumerate_from 0 w.1.query.posts) e by_waiter.2 in
      let post = by_post.0 in
      let by_provider = In-flat_map_gives (λ (p : Resident). flat_map (λ head. edge_if p.0 head w.0 post) (enumerate_from 0 p.1.query.heads)) providers e by_post.2 in
      let p = by_provider.0 in
      let by_head = In-flat_map_gives (λ head. edge_if p.0 head w.0 post) (enumerate_from 0 p.1.query.heads) e by_provider.2 in
      let head = by_head.0 in
      let is = In-edge_if p.0 head w.0 post e by_head.2 in (
        p,
        w,
        by_provider.1,
        by_waiter.1,
        record {
          offered = head.1;
          wanted = post.1;
          comes_from = ap (λ (x : Edge). x.provider) is;
          leads_to = ap (λ (x : Edge). x.waiter) is;
          head = ap (λ (x : Edge). slice_get p.1.query.heads x.head) is ∙ In-enumerate p.1.query.heads head by_head.1;
          post = ap (λ (x : Edge). slice_get w.1.query.posts x.post) is ∙ In-enumerate w.1.query.posts post by_post.1;
          unify = edge_if_unifies p.0 head w.0 post e by_head.2;
        },
      )

  pub between_has : (p w : Resident) → In p providers → In w waiters → Supplies p w e → In e (edges_between providers waiters)
  between_has p w offers waits s =
      let made : Edge = record { provider = p.0; head = e.head; waiter = w.0; post = e.post } in
      let is : made ≡ e = λ i. record { provider = sym s.comes_from i; head = e.head; waiter = sym s.leads_to i; post = e.post } in
      subst (λ (x : Edge). In x (edges_between providers waiters)) is
      (In-flat_map (λ (v : Resident). flat_map (edges_from providers v.0) (enumerate_from 0 v.1.query.posts)) waiters w made waits
      (In-flat_map (edges_from providers w.0) (enumerate_from 0 w.1.query.posts) (e.post, s.wanted) made (enumerate-In w.1.query.posts e.post s.wanted s.post)
      (In-flat_map (λ (v : Resident). flat_map (λ head. edge_if v.0 head w.0 (e.post, s.wanted)) (enumerate_from 0 v.1.query.heads)) providers p made offers
      (In-flat_map (λ head. edge_if p.0 head w.0 (e.post, s.wanted)) (enumerate_from 0 p.1.query.heads) (e.head, s.offered) made (enumerate-In p.1.query.heads e.head s.offered s.head)
      (edge_if_has p.0 (e.head, s.offered) w.0 (e.post, s.wanted) s.unify)))))

-- the resident and one of the others, or the resident and itself
abbrev pub Touches : List Resident → Resident → Edge → Type 0
Touches residents r e = ((p : Resident) × In p residents × Supplies p r e) ⊎ (((w : Resident) × In w residents × Supplies r w e) ⊎ Supplies r r e)

only : (x r : Resident) → In x (r ∷ []) → x ≡ r
only x r (inl e) = e
only x r (inr h) = absurd h

module _ (residents : List Resident) (r : Resident) (e : Edge) where
  abbrev into : List Edge
  into = edges_between residents (r ∷ [])

  abbrev out_of : List Edge
  out_of = edges_between (r ∷ []) residents

  abbrev own : List Edge
  own = edges_between (r ∷ []) (r ∷ [])

  -- An edge touches the resident exactly where a head and a postcondition unify, of which one is its own.
  pub touching_has : Touches residents r e → In e (edges_touching residents r)
  touching_has (inl h) = In-left e into (out_of ++ own) (between_has residents (r ∷ []) e h.0 r h.1 (inl refl) h.2)
  touching_has (inr (inl h)) = In-right e into (out_of ++ own) (In-left e out_of own (between_has (r ∷ []) residents e r h.0 (inl refl) h.1 h.2))
  touching_has (inr (inr h)) = In-right e into (out_of ++ own) (In-right e out_of own (between_has (r ∷ []) (r ∷ []) e r r (inl refl) (inl refl) h))

  pub touching_gives : In e (edges_touching residents r) → Touches residents r e
  touching_gives h =
      elim (In-append e into (out_of ++ own) h) [
        | inl k ↦
            let found = between_gives residents (r ∷ []) e k in
            inl (found.0, found.2, subst (λ (w : Resident). Supplies found.0 w e) (only found.1 r found.3) found.4)
        | inr k ↦
            elim (In-append e out_of own k) [
              | inl l ↦
                  let found = between_gives (r ∷ []) residents e l in
                  inr (inl (found.1, found.3, subst (λ (p : Resident). Supplies p found.1 e) (only found.0 r found.2) found.4))
              | inr l ↦
                  let found = between_gives (r ∷ []) (r ∷ []) e l in
                  inr (inr (subst (λ (p : Resident). Supplies p r e) (only found.0 r found.2) (subst (λ (w : Resident). Supplies found.0 w e) (only found.1 r found.3) found.4)))
            ]
      ]

-- ---- the order of edges

-- What holds of two edges that differ in their waiters, else in their postconditions, else in their providers, else in their heads, holds of each two edges.
module _ (S : ℕ → ℕ → Type 0) (R : Edge → Edge → Type 0)
    (by_waiter : (a b : Edge) → S a.waiter b.waiter → R a b)
    (by_post : (a b : Edge) → a.waiter ≡ b.waiter → a.post < b.post → R a b)
    (by_provider : (a b : Edge) → a.waiter ≡ b.waiter → a.post ≡ b.post → S a.provider b.provider → R a b)
    (by_head : (a b : Edge) → a.waiter ≡ b.waiter → a.post ≡ b.post → a.provider ≡ b.provider → a.head < b.head → R a b) where
  edge_alone : (provider : ℕ) (head : ℕ × AtomRecord) (waiter : ℕ) (post : ℕ × AtomRecord) → Pairwise R (edge_if provider head waiter post)
  edge_alone provider head waiter post =
      by_bool (unifies head.1 post.1) (Pairwise R (edge_if provider head waiter post)) (λ t. rw t (λ y m. absurd m, tt)) (λ f. rw f tt)

  edges_by_head : (waiter : ℕ) (post : ℕ × AtomRecord) (p : Resident) → Pairwise R (flat_map (λ head. edge_if p.0 head waiter post) (enumerate_from 0 p.1.query.heads))
  edges_by_head waiter post p =
      Pairwise-flat_map (λ (h k : ℕ × AtomRecord). h.0 < k.0) R (λ head. edge_if p.0 head waiter post) (enumerate_from 0 p.1.query.heads) (enumerate-rises 0 p.1.query.heads)
      (λ head. edge_alone p.0 head waiter post)
      (λ h k low a b m n.
      let is = In-edge_if p.0 h waiter post a m in
      let also = In-edge_if p.0 k waiter post b n in
      by_head a b
      (ap (λ (x : Edge). x.waiter) is ∙ sym (ap (λ (x : Edge). x.waiter) also))
      (ap (λ (x : Edge). x.post) is ∙ sym (ap (λ (x : Edge). x.post) also))
      (ap (λ (x : Edge). x.provider) is ∙ sym (ap (λ (x : Edge). x.provider) also))
      (let first : a.head ≡ h.0 = ap (λ (x : Edge). x.head) is in let second : b.head ≡ k.0 = ap (λ (x : Edge). x.head) also in omega arith))

  -- the ends of an edge to one postcondition
  from_ends : (providers : List Resident) (waiter : ℕ) (post : ℕ × AtomRecord) (e : Edge) → In e (edges_from providers waiter post) → (e.waiter ≡ waiter) × (e.post ≡ post.0)
  from_ends providers waiter post e h =
      let p = In-flat_map_gives (λ (p : Resident). flat_map (λ head. edge_if p.0 head waiter post) (enumerate_from 0 p.1.query.heads)) providers e h in
      let head = In-flat_map_gives (λ head. edge_if p.0.0 head waiter post) (enumerate_from 0 p.0.1.query.heads) e p.2 in
      let is = In-edge_if p.0.0 head.0 waiter post e head.2 in
      (ap (λ (x : Edge). x.waiter) is, ap (λ (x : Edge). x.post) is)

  head_ends : (p : Resident) (waiter : ℕ) (post : ℕ × AtomRecord) (e : Edge) → In e (flat_map (λ head. edge_if p.0 head waiter post) (enumerate_from 0 p.1.query.heads))
      → (e.waiter ≡ waiter) × (e.post ≡ post.0) × (e.provider ≡ p.0)
  head_ends p waiter post e h =
      let head = In-flat_map_gives (λ head. edge_if p.0 head waiter post) (enumerate_from 0 p.1.query.heads) e h in
      let is = In-edge_if p.0 head.0 waiter post e head.2 in
      (ap (λ (x : Edge). x.waiter) is, ap (λ (x : Edge). x.post) is, ap (λ (x : Edge). x.provider) is)

  module _ (providers : List Resident) (apart : Pairwise (λ (a b : Resident). S a.0 b.0) providers) where
    edges_by_provider : (waiter : ℕ) (post : ℕ × AtomRecord) → Pairwise R (edges_from providers waiter post)
    edges_by_provider waiter post =
        Pairwise-flat_map (λ (a b : Resident). S a.0 b.0) R (λ (p : Resident). flat_map (λ head. edge_if p.0 head waiter post) (enumerate_from 0 p.1.query.heads)) providers apart
        (edges_by_head waiter post)
        (λ p q s a b m n.
        let is = head_ends p waiter post a m in
        let also = head_ends q waiter post b n in
        by_provider a b (is.0 ∙ sym also.0) (is.1 ∙ sym also.1) (subst (λ (k : ℕ). S a.provider k) (sym also.2) (subst (λ (k : ℕ). S k q.0) (sym is.2) s)))

    edges_by_post : (w : Resident) → Pairwise R (flat_map (edges_from providers w.0) (enumerate_from 0 w.1.query.posts))
    edges_by_post w =
        Pairwise-flat_map (λ (h k : ℕ × AtomRecord). h.0 < k.0) R (edges_from providers w.0) (enumerate_from 0 w.1.query.posts) (enumerate-rises 0 w.1.query.posts)
        (edges_by_provider w.0)
        (λ h k low a b m n.
        let is = from_ends providers w.0 h a m in
        let also = from_ends providers w.0 k b n in
        by_post a b (is.0 ∙ sym also.0) (let first : a.post ≡ h.0 = is.1 in let second : b.post ≡ k.0 = also.1 in omega arith))

    pub edges_pairwise : (waiters : List Resident) → Pairwise (λ (a b : Resident). S a.0 b.0) waiters → Pairwise R (edges_between providers waiters)
    edges_pairwise waiters rising =
        Pairwise-flat_map (λ (a b : Resident). S a.0 b.0) R (λ (w : Resident). flat_map (edges_from providers w.0) (enumerate_from 0 w.1.query.posts)) waiters rising
        edges_by_post
        (λ v w s a b m n.
        let is = In-flat_map_gives (edges_from providers v.0) (enumerate_from 0 v.1.query.posts) a m in
        let also = In-flat_map_gives (edges_from providers w.0) (enumerate_from 0 w.1.query.posts) b n in
        let here = (from_ends providers v.0 is.0 a is.2).0 in
        let there = (from_ends providers w.0 also.0 b also.2).0 in
        by_waiter a b (subst (λ (k : ℕ). S a.waiter k) (sym there) (subst (λ (k : ℕ). S k w.0) (sym here) s)))

-- ---- no double

abbrev pub Apart : Resident → Resident → Type 0
Apart a b = Differ a.0 b.0

less-differ : (m n : ℕ) → m < n → Differ m n
less-differ m n low e = omega arith

pub between_differ : (providers waiters : List Resident) → Pairwise Apart providers → Pairwise Apart waiters → Pairwise Differ (edges_between providers waiters)
between_differ providers waiters p w =
    edges_pairwise (λ m n. Differ m n) (λ a b. Differ a b)
    (λ a b s e. s (ap (λ (x : Edge). x.waiter) e))
    (λ a b i s e. less-differ a.post b.post s (ap (λ (x : Edge). x.post) e))
    (λ a b i j s e. s (ap (λ (x : Edge). x.provider) e))
    (λ a b i j k s e. less-differ a.head b.head s (ap (λ (x : Edge). x.head) e))
    providers p waiters w

module _ (residents : List Resident) (r : Resident) (apart : Pairwise Apart residents) (free : (p : Resident) → In p residents → Differ p.0 r.0) where
  alone : Pairwise Apart (r ∷ [])
  alone = (λ y m. absurd m, tt)

  -- No edge touches the resident twice.
  pub touching_differ : Pairwise Differ (edges_touching residents r)
  touching_differ =
      Pairwise-append Differ (edges_between residents (r ∷ [])) (edges_between (r ∷ []) residents ++ edges_between (r ∷ []) (r ∷ [])) (between_differ residents (r ∷ []) apart alone)
      (Pairwise-append Differ (edges_between (r ∷ []) residents) (edges_between (r ∷ []) (r ∷ [])) (between_differ (r ∷ []) residents alone apart) (between_differ (r ∷ []) (r ∷ []) alone alone)
      (λ a b m n e.
      let is = between_gives (r ∷ []) residents a m in
      let also = between_gives (r ∷ []) (r ∷ []) b n in
      free is.1 is.3 (sym is.4.leads_to ∙ ap (λ (x : Edge). x.waiter) e ∙ also.4.leads_to ∙ ap (λ (x : Resident). x.0) (only also.1 r also.3))))
      (λ a b m n e.
      let is = between_gives residents (r ∷ []) a m in
      let from_r : b.provider ≡ r.0 = elim (In-append b (edges_between (r ∷ []) residents) (edges_between (r ∷ []) (r ∷ [])) n) [
        | inl k ↦ let also = between_gives (r ∷ []) residents b k in also.4.comes_from ∙ ap (λ (x : Resident). x.0) (only also.0 r also.2)
        | inr k ↦ let also = between_gives (r ∷ []) (r ∷ []) b k in also.4.comes_from ∙ ap (λ (x : Resident). x.0) (only also.0 r also.2)
      ] in
      free is.0 is.2 (sym is.4.comes_from ∙ ap (λ (x : Edge). x.provider) e ∙ from_r))

  -- A list without doubles of exactly these edges has as many of each kind.
  pub touching_counted : (added : List Edge) → Pairwise Differ added → ((e : Edge) → In e added → Touches residents r e) → ((e : Edge) → Touches residents r e → In e added)
      → (test : Edge → Bool) → count_by test added ≡ count_by test (edges_touching residents r)
  touching_counted added differ gives has test =
      same_counts test added (edges_touching residents r) differ touching_differ
      (λ e m. touching_has residents r e (gives e m)) (λ e m. has e (touching_gives residents r e m))
