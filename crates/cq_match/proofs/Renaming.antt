-- Which nodes are matched depends on neither the order of nodes and edges nor on the nodes' numbers.
use Rattle.std.proofs.Common.{◌≡◌, ◌↔◌, ℕ, ◌<◌, Bool, true, false, not, ◌&&◌, ◌||◌, eqb, List, [], ◌∷◌, length, get_or, map, filter, zero, suc, nat_eq, refl, sym, ap, subst, ◌∙◌, arith, eq-eqb}
use Rattle.std.specs.List.{All, Contains, list_any}
use Rattle.std.specs.Set.{is_member}
use Rattle.std.proofs.lemmas.Bool.{eqb-true}
use Rattle.std.proofs.lemmas.Cmp.{nat_eq_equiv}
use Rattle.std.proofs.lemmas.List.Elements.{Contains-get_or}
use Rattle.std.proofs.lemmas.List.Folds.{Any-from_list_any, list_any_at}
use Rattle.std.proofs.lemmas.List.Sums.{list_all-from_AllPass}
use Rattle.std.proofs.lemmas.Map.Made.{is_member-filter}
use Rattle.cq_atom.specs.declared.edge.Edge.{Edge}
use Rattle.cq_match.specs.Graph.{leads_to}
use Rattle.cq_match.specs.Matched.{numbers, has_each_post, is_closed, is_matched}
use Rattle.cq_match.specs.Steps.Kept.{feeds_post}
use Rattle.cq_match.proofs.Tests.{by_bool, same_tests, and_left, and_right, both}
use Rattle.cq_match.proofs.Union.{member-contained, contained-member, member-fits, has-post, each-post, part-found, found-part}
use Rattle.cq_match.proofs.Edges.{any-wider, feeds-wider}
use Rattle.cq_match.proofs.Reaching.{any-within}
use Rattle.cq_match.proofs.Bridge.{here-Contains, later-Contains, none-Contains, listed-number, number-listed}

abbrev Node : Type 0
Node = ℕ × ℕ × Bool

-- A set that the node is in, and that is closed: each of its members is a node, and fits where it is one.
pub record InClosed (nodes : List Node) (edges : List Edge) (n : ℕ) : Type 0 where
  pub set : ℕ → Bool
  pub within : (m : ℕ) → set m ≡ true → Contains (numbers nodes) m
  pub fits : (node : Node) → Contains nodes node → set node.0 ≡ true → (node.2 ≡ true) × ((k : ℕ) → k < node.1 → list_any (feeds_post set node.0 k) edges ≡ true)
  pub has : set n ≡ true

module _ (nodes : List Node) (edges : List Edge) (n : ℕ) where
  pub matched-closed : is_matched nodes edges n ≡ true → InClosed nodes edges n
  unfolding is_matched
  matched-closed t =
      let found = found-part (λ set. is_closed nodes edges set && is_member nat_eq set n) (numbers nodes) t in
      let set = found.0 in
      let closed = and_left (is_closed nodes edges set) (is_member nat_eq set n) found.1 in
      record {
        set = is_member nat_eq set;
        within = λ m s. member-contained (numbers nodes) m (found.2 m s);
        fits = λ node listed s.
            let fit = member-fits nodes edges set node closed listed s in (
              and_left node.2 (has_each_post edges set node) fit,
              λ k low. has-post edges set node k (and_right node.2 (has_each_post edges set node) fit) low,
            );
        has = and_right (is_closed nodes edges set) (is_member nat_eq set n) found.1;
      }

  module _ (c : InClosed nodes edges n) where
    abbrev part : List ℕ
    part = filter c.set (numbers nodes)

    part-member : (m : ℕ) → is_member nat_eq part m ≡ (is_member nat_eq (numbers nodes) m && c.set m)
    part-member m = is_member-filter nat_eq_equiv c.set m (λ x e. ap c.set (eqb-true m x e)) (numbers nodes)

    part-has : (m : ℕ) → c.set m ≡ true → is_member nat_eq part m ≡ true
    part-has m t = part-member m ∙ both (is_member nat_eq (numbers nodes) m) (c.set m) (contained-member (numbers nodes) m (c.within m t)) t

    part-gives : (m : ℕ) → is_member nat_eq part m ≡ true → c.set m ≡ true
    part-gives m t = and_right (is_member nat_eq (numbers nodes) m) (c.set m) (sym (part-member m) ∙ t)

    or-true : (b : Bool) → (b || true) ≡ true
    or-true true = refl
    or-true false = refl

    part-closed : is_closed nodes edges part ≡ true
    unfolding is_closed
    part-closed =
        list_all-from_AllPass (λ x. not (is_member nat_eq part x.0) || (x.2 && has_each_post edges part x)) nodes
        (λ k d low.
        let node = get_or nodes k d in
        by_bool (is_member nat_eq part node.0) ((not (is_member nat_eq part node.0) || (node.2 && has_each_post edges part node)) ≡ true)
        (λ t.
        let fit = c.fits node (Contains-get_or nodes k d low) (part-gives node.0 t) in
        let posts = each-post edges part node (λ post inside. feeds-wider c.set (is_member nat_eq part) part-has node.0 post edges (fit.1 post inside)) in
        let all = both node.2 (has_each_post edges part node) fit.0 posts in
        rw all (or-true (not (is_member nat_eq part node.0))))
        (λ f. rw f refl))

    pub closed-matched : is_matched nodes edges n ≡ true
    unfolding is_matched
    closed-matched = part-found (λ set. is_closed nodes edges set && is_member nat_eq set n) c.set (numbers nodes) (both (is_closed nodes edges part) (is_member nat_eq part n) part-closed (part-has n c.has))

-- Only a node is matched.
pub matched-known : (nodes : List Node) (edges : List Edge) (n : ℕ) → is_matched nodes edges n ≡ true → Contains (numbers nodes) n
matched-known nodes edges n t = let c = matched-closed nodes edges n t in c.within n c.has

-- ---- the same nodes and edges in another order

module _ (nodes nodes' : List Node) (edges edges' : List Edge) (same_nodes : (node : Node) → Contains nodes node ↔ Contains nodes' node) (same_edges : (test : Edge → Bool) → list_any test edges ≡ list_any test edges') where
  reordered-closed : (n : ℕ) → InClosed nodes edges n → InClosed nodes' edges' n
  reordered-closed n c = record {
    set = c.set;
    within = λ m s.
        let found = number-listed nodes m (c.within m s) in
        subst (Contains (numbers nodes')) found.2 (listed-number nodes' found.0 ((same_nodes found.0).0 found.1));
    fits = λ node listed s.
        let fit = c.fits node ((same_nodes node).1 listed) s in
        (fit.0, λ k low. sym (same_edges (feeds_post c.set node.0 k)) ∙ fit.1 k low);
    has = c.has;
  }

-- Nodes and edges count by their members alone.
pub matched-reordered : (nodes nodes' : List Node) (edges edges' : List Edge) → ((node : Node) → Contains nodes node ↔ Contains nodes' node) → ((test : Edge → Bool) → list_any test edges ≡ list_any test edges')
    → (n : ℕ) → is_matched nodes edges n ≡ is_matched nodes' edges' n
matched-reordered nodes nodes' edges edges' same_nodes same_edges n =
    same_tests (is_matched nodes edges n) (is_matched nodes' edges' n)
    (λ t. closed-matched nodes' edges' n (reordered-closed nodes nodes' edges edges' same_nodes same_edges n (matched-closed nodes edges n t)))
    (λ t. closed-matched nodes edges n (reordered-closed nodes' nodes edges' edges (λ node. ((same_nodes node).1, (same_nodes node).0)) (λ test. sym (same_edges test)) n (matched-closed nodes' edges' n t)))

-- ---- other numbers

-- the node with another number
abbrev pub renumbered : (ℕ → ℕ) → Node → Node
renumbered f node = (f node.0, node.1, node.2)

-- the edge with other numbers for its ends
abbrev pub renamed : (ℕ → ℕ) → Edge → Edge
renamed f edge = record { provider = f edge.provider; head = edge.head; waiter = f edge.waiter; post = edge.post }

module _ {X Y : Type 0} (g : X → Y) where
  Contains-map : (xs : List X) (x : X) → Contains xs x → Contains (map g xs) (g x)
  Contains-map [] x h = absurd (none-Contains x h)
  Contains-map (y ∷ xs) x (zero, low, at) = subst (λ (z : X). Contains (map g (y ∷ xs)) (g z)) at (here-Contains (g y) (map g xs))
  Contains-map (y ∷ xs) x (suc k, low, at) = later-Contains (g y) (g x) (map g xs) (Contains-map xs x (k, (let l : suc k < suc (length xs) = low in omega arith), at))

  Contains-map_gives : (xs : List X) (y : Y) → Contains (map g xs) y → (x : X) × Contains xs x × (y ≡ g x)
  Contains-map_gives [] y h = absurd (none-Contains y h)
  Contains-map_gives (x ∷ xs) y (zero, low, at) = (x, here-Contains x xs, sym at)
  Contains-map_gives (x ∷ xs) y (suc k, low, at) =
      let found = Contains-map_gives xs y (k, (let l : suc k < suc (length (map g xs)) = low in omega arith), at) in
      (found.0, later-Contains x found.0 xs found.1, found.2)

  any-map : (test : Y → Bool) (xs : List X) → list_any test (map g xs) ≡ list_any (λ x. test (g x)) xs
  any-map test [] = refl
  any-map test (x ∷ xs) = ap (λ (b : Bool). test (g x) || b) (any-map test xs)

any-Contains : {X : Type 0} (p : X → Bool) (xs : List X) (x : X) → Contains xs x → p x ≡ true → list_any p xs ≡ true
any-Contains p xs x (k, low, at) t = list_any_at p xs k x low (ap p at ∙ t)

leads-is : (n k : ℕ) (e : Edge) → leads_to n k e ≡ true → (e.waiter ≡ n) × (e.post ≡ k)
leads-is n k e t = (eqb-true e.waiter n (and_left (eqb e.waiter n) (eqb e.post k) t), eqb-true e.post k (and_right (eqb e.waiter n) (eqb e.post k) t))

leads-has : (n k : ℕ) (e : Edge) → e.waiter ≡ n → e.post ≡ k → leads_to n k e ≡ true
leads-has n k e w p = both (eqb e.waiter n) (eqb e.post k) (eq-eqb e.waiter n w) (eq-eqb e.post k p)

-- What is asked of an edge: both of its ends are nodes.
abbrev pub IsWithin : List Node → Edge → Type 0
IsWithin nodes edge = Contains (numbers nodes) edge.provider × Contains (numbers nodes) edge.waiter

module _ (f : ℕ → ℕ) (nodes : List Node) (edges : List Edge)
    (injective : (a b : ℕ) → Contains (numbers nodes) a → Contains (numbers nodes) b → f a ≡ f b → a ≡ b) (ends : All (IsWithin nodes) edges) (n : ℕ) where
  abbrev others : List Node
  others = map (renumbered f) nodes

  abbrev led : List Edge
  led = map (renamed f) edges

  module _ (c : InClosed nodes edges n) where
    abbrev image : ℕ → Bool
    image m = list_any (λ a. c.set a && eqb (f a) m) (numbers nodes)

    image-has : (a : ℕ) → c.set a ≡ true → image (f a) ≡ true
    image-has a t = any-Contains (λ b. c.set b && eqb (f b) (f a)) (numbers nodes) a (c.within a t) (both (c.set a) (eqb (f a) (f a)) t (eq-eqb (f a) (f a) refl))

    image-gives : (m : ℕ) → image m ≡ true → (a : ℕ) × (c.set a ≡ true) × (f a ≡ m)
    image-gives m t =
        let found = Any-from_list_any (λ a. c.set a && eqb (f a) m) (numbers nodes) t in
        let a = found.1 in
        (a, and_left (c.set a) (eqb (f a) m) found.4, eqb-true (f a) m (and_right (c.set a) (eqb (f a) m) found.4))

    image-back : (a : ℕ) → Contains (numbers nodes) a → image (f a) ≡ true → c.set a ≡ true
    image-back a listed t =
        let found = image-gives (f a) t in
        ap c.set (sym (injective found.0 a (c.within found.0 found.1) listed found.2)) ∙ found.1

    image-fits : (x : Node) → Contains nodes x → image (f x.0) ≡ true → (x.2 ≡ true) × ((k : ℕ) → k < x.1 → list_any (feeds_post image (f x.0) k) led ≡ true)
    image-fits x listed s =
        let fit = c.fits x listed (image-back x.0 (listed-number nodes x listed) s) in (
          fit.0,
          λ k low. any-map (renamed f) (feeds_post image (f x.0) k) edges
              ∙ any-wider (feeds_post c.set x.0 k) (λ e. feeds_post image (f x.0) k (renamed f e))
              (λ e t.
              let leads = leads-is x.0 k e (and_left (leads_to x.0 k e) (c.set e.provider) t) in
              both (leads_to (f x.0) k (renamed f e)) (image (f e.provider)) (leads-has (f x.0) k (renamed f e) (ap f leads.0) leads.1)
              (image-has e.provider (and_right (leads_to x.0 k e) (c.set e.provider) t)))
              edges (fit.1 k low),
        )

    renamed-closed : InClosed others led (f n)
    renamed-closed = record {
      set = image;
      within = λ m s.
          let found = image-gives m s in
          let node = number-listed nodes found.0 (c.within found.0 found.1) in
          subst (Contains (numbers others)) (ap f node.2 ∙ found.2) (listed-number others (renumbered f node.0) (Contains-map (renumbered f) nodes node.0 node.1));
      fits = λ node listed.
          let found = Contains-map_gives (renumbered f) nodes node listed in
          subst (λ (y : Node). image y.0 ≡ true → (y.2 ≡ true) × ((k : ℕ) → k < y.1 → list_any (feeds_post image y.0 k) led ≡ true)) (sym found.2) (image-fits found.0 found.1);
      has = image-has n c.has;
    }

  module _ (c : InClosed others led (f n)) (listed : Contains (numbers nodes) n) where
    abbrev source : ℕ → Bool
    source a = is_member nat_eq (numbers nodes) a && c.set (f a)

    source-has : (a : ℕ) → Contains (numbers nodes) a → c.set (f a) ≡ true → source a ≡ true
    source-has a known t = both (is_member nat_eq (numbers nodes) a) (c.set (f a)) (contained-member (numbers nodes) a known) t

    original-closed : InClosed nodes edges n
    original-closed = record {
      set = source;
      within = λ a s. member-contained (numbers nodes) a (and_left (is_member nat_eq (numbers nodes) a) (c.set (f a)) s);
      fits = λ node known s.
          let fit = c.fits (renumbered f node) (Contains-map (renumbered f) nodes node known) (and_right (is_member nat_eq (numbers nodes) node.0) (c.set (f node.0)) s) in (
            fit.0,
            λ k low. any-within (λ e. feeds_post c.set (f node.0) k (renamed f e)) (feeds_post source node.0 k) edges
                (λ j d inside t.
                let e = get_or edges j d in
                let within = ends j d inside in
                let leads = leads-is (f node.0) k (renamed f e) (and_left (leads_to (f node.0) k (renamed f e)) (c.set (f e.provider)) t) in
                both (leads_to node.0 k e) (source e.provider) (leads-has node.0 k e (injective e.waiter node.0 within.1 (listed-number nodes node known) leads.0) leads.1)
                (source-has e.provider within.0 (and_right (leads_to (f node.0) k (renamed f e)) (c.set (f e.provider)) t)))
                (sym (any-map (renamed f) (feeds_post c.set (f node.0) k) edges) ∙ fit.1 k low),
          );
      has = source-has n listed c.has;
    }

  -- A node is matched under one number as under another.
  pub matched-renamed : Contains (numbers nodes) n → is_matched (map (renumbered f) nodes) (map (renamed f) edges) (f n) ≡ is_matched nodes edges n
  matched-renamed listed =
      same_tests (is_matched others led (f n)) (is_matched nodes edges n)
      (λ t. closed-matched nodes edges n (original-closed (matched-closed others led (f n) t) listed))
      (λ t. closed-matched others led (f n) (renamed-closed (matched-closed nodes edges n t)))
