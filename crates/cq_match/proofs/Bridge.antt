-- The nodes of a kept graph, and which of them are matched by the definition.
use Rattle.std.proofs.Common.{◌≡◌, ℕ, ◌+◌, ◌<◌, ◌⊎◌, inl, inr, Bool, true, false, not, if◌then◌else◌, ◌&&◌, ◌||◌, List, [], ◌∷◌, ◌++◌, length, get_or, zero, suc, filter, count_by, nat_eq, refl, sym, ap, ◌∙◌, subst, arith}
use Rattle.std.specs.List.{Contains, list_any}
use Rattle.std.specs.Set.{is_member}
use Rattle.std.proofs.lemmas.Bool.{eqb-true}
use Rattle.std.proofs.lemmas.Cmp.{nat_eq_equiv}
use Rattle.std.proofs.lemmas.List.Elements.{Contains-get_or}
use Rattle.std.proofs.lemmas.List.Sums.{list_all-from_AllPass}
use Rattle.std.proofs.lemmas.Map.Made.{is_member-filter}
use Rattle.cq_atom.specs.declared.edge.Edge.{Edge}
use Rattle.cq_match.specs.declared.graph.Place.{Place}
use Rattle.cq_match.specs.declared.graph.Out.{Out}
use Rattle.std.proofs.Math.Path.{fun_ext}
use Rattle.cq_match.specs.Matched.{numbers, has_each_post, is_closed, is_matched}
use Rattle.cq_match.specs.Matcher.{MatcherRecord, has_node}
use Rattle.cq_match.specs.Steps.Settle.{stands}
use Rattle.cq_match.specs.Steps.Kept.{place_at, nodes_from, edges_from, marked_from, feeds_post, was_raised, Closed, IsKept}
use Rattle.cq_match.proofs.Tests.{by_bool, and_left, and_right, both, same_tests}
use Rattle.cq_match.proofs.Union.{member-contained, contained-member, member-fits, has-post, each-post, part-found, found-part}
use Rattle.cq_match.proofs.Edges.{feeds-wider}

module _ {X : Type 0} where
  pub here-Contains : (x : X) (xs : List X) → Contains (x ∷ xs) x
  here-Contains x xs = (0, (let low : 0 < suc (length xs) = omega arith in low), refl)

  pub later-Contains : (y x : X) (xs : List X) → Contains xs x → Contains (y ∷ xs) x
  later-Contains y x xs (k, low, at) = (suc k, (let more : suc k < suc (length xs) = omega arith in more), at)

  pub none-Contains : (x : X) → Contains [] x → ⊥
  none-Contains x (k, low, at) = absurd (let none : k < 0 = low in omega arith)

  -- what one list adds in front
  opt-left : (b : Bool) (y x : X) (xs : List X) → b ≡ true → x ≡ y → Contains ((if b then y ∷ [] else []) ++ xs) x
  opt-left true y x xs e is = subst (λ z. Contains (y ∷ xs) z) (sym is) (here-Contains y xs)
  opt-left false y x xs e is = absurd (let never : false ≡ true = e in cc)

  opt-right : (b : Bool) (y x : X) (xs : List X) → Contains xs x → Contains ((if b then y ∷ [] else []) ++ xs) x
  opt-right true y x xs h = later-Contains y x xs h
  opt-right false y x xs h = h

  opt-cases : (b : Bool) (y x : X) (xs : List X) → Contains ((if b then y ∷ [] else []) ++ xs) x → ((b ≡ true) × (x ≡ y)) ⊎ Contains xs x
  opt-cases true y x xs (zero, low, at) = inl (refl, sym at)
  opt-cases true y x xs (suc k, low, at) = inr (k, (let l : suc k < suc (length xs) = low in omega arith), at)
  opt-cases false y x xs h = inr h

-- a node by its place
abbrev pub node_at : ℕ → List Place → ℕ → ℕ × ℕ × Bool
node_at n places j = (n + j, (place_at places j).posts, (place_at places j).able)

pub node-listed : (places : List Place) (n j : ℕ) → (place_at places j).taken ≡ true → Contains (nodes_from n places) (node_at n places j)
node-listed [] n j taken = absurd (let never : false ≡ true = taken in cc)
node-listed (p ∷ places) n zero taken =
    let is : n + 0 ≡ n = omega arith in
    opt-left p.taken (n, p.posts, p.able) (node_at n (p ∷ places) 0) (nodes_from (n + 1) places) taken (ap (λ (m : ℕ). (m, p.posts, p.able)) is)
node-listed (p ∷ places) n (suc j) taken =
    let is : n + 1 + j ≡ n + suc j = omega arith in
    opt-right p.taken (n, p.posts, p.able) (node_at n (p ∷ places) (suc j)) (nodes_from (n + 1) places)
    (subst (λ m. Contains (nodes_from (n + 1) places) (m, (place_at places j).posts, (place_at places j).able)) is (node-listed places (n + 1) j taken))

-- the place of a node
abbrev pub Placed : ℕ → List Place → ℕ × ℕ × Bool → Type 0
Placed n places node = (j : ℕ) × (node ≡ node_at n places j) × ((place_at places j).taken ≡ true)

pub node-found : (places : List Place) (n : ℕ) (node : ℕ × ℕ × Bool) → Contains (nodes_from n places) node → Placed n places node
node-found [] n node h = absurd (none-Contains node h)
node-found (p ∷ places) n node h =
    elim (opt-cases p.taken (n, p.posts, p.able) node (nodes_from (n + 1) places) h) [
      | inl f ↦ let is : n ≡ n + 0 = omega arith in (0, f.1 ∙ ap (λ (m : ℕ). (m, p.posts, p.able)) is, f.0)
      | inr rest ↦
          let found = node-found places (n + 1) node rest in
          let is : n + 1 + found.0 ≡ n + suc found.0 = omega arith in
          (suc found.0, found.1 ∙ ap (λ (m : ℕ). (m, (place_at places found.0).posts, (place_at places found.0).able)) is, found.2)
    ]

abbrev nodes : List Place → List (ℕ × ℕ × Bool)
nodes places = nodes_from 0 places

-- the number of a node is among the numbers
pub listed-number : (xs : List (ℕ × ℕ × Bool)) (node : ℕ × ℕ × Bool) → Contains xs node → Contains (numbers xs) node.0
listed-number [] node h = absurd (none-Contains node h)
listed-number (x ∷ xs) node (zero, low, at) = subst (λ (m : ℕ × ℕ × Bool). Contains (numbers (x ∷ xs)) m.0) at (here-Contains x.0 (numbers xs))
listed-number (x ∷ xs) node (suc k, low, at) = later-Contains x.0 node.0 (numbers xs) (listed-number xs node (k, (let l : suc k < suc (length xs) = low in omega arith), at))

pub number-listed : (xs : List (ℕ × ℕ × Bool)) (m : ℕ) → Contains (numbers xs) m → (node : ℕ × ℕ × Bool) × Contains xs node × (node.0 ≡ m)
number-listed [] m h = absurd (none-Contains m h)
number-listed (x ∷ xs) m (zero, low, at) = (x, here-Contains x xs, at)
number-listed (x ∷ xs) m (suc k, low, at) =
    let found = number-listed xs m (k, (let l : suc k < suc (length (numbers xs)) = low in omega arith), at) in
    (found.0, later-Contains x found.0 xs found.1, found.2)

-- a number is a node's where its place is taken
pub number-taken : (places : List Place) (m : ℕ) → is_member nat_eq (numbers (nodes places)) m ≡ (place_at places m).taken
number-taken places m =
    same_tests (is_member nat_eq (numbers (nodes places)) m) (place_at places m).taken
    (λ t.
    let found = number-listed (nodes places) m (member-contained (numbers (nodes places)) m t) in
    let placed = node-found places 0 found.0 found.1 in
    let at : 0 + placed.0 ≡ m = sym (ap (λ (x : ℕ × ℕ × Bool). x.0) placed.1) ∙ found.2 in
    let is : placed.0 ≡ m = omega arith in
    ap (λ j. (place_at places j).taken) (sym is) ∙ placed.2)
    (λ t.
    let is : 0 + m ≡ m = omega arith in
    contained-member (numbers (nodes places)) m (subst (Contains (numbers (nodes places))) is (listed-number (nodes places) (node_at 0 places m) (node-listed places 0 m t))))

module _ (places : List Place) (edges : List Edge) (matched : List Bool)
    (able-taken : (n : ℕ) → (place_at places n).able ≡ true → (place_at places n).taken ≡ true)
    (closed : Closed places edges (stands matched))
    (greatest : (members : ℕ → Bool) → Closed places edges members → (n : ℕ) → members n ≡ true → stands matched n ≡ true) where
  -- a closed set of the definition is closed
  from-definition : (set : List ℕ) → is_closed (nodes places) edges set ≡ true → ((n : ℕ) → is_member nat_eq set n ≡ true → is_member nat_eq (numbers (nodes places)) n ≡ true) → Closed places edges (is_member nat_eq set)
  from-definition set is within = record {
    able = λ n t. and_left (place_at places n).able (has_each_post edges set (node_at 0 places n)) (fits n t);
    fed = λ n k t low.
        let same : 0 + n ≡ n = omega arith in
        let has = has-post edges set (node_at 0 places n) k (and_right (place_at places n).able (has_each_post edges set (node_at 0 places n)) (fits n t)) low in
        subst (λ m. list_any (feeds_post (is_member nat_eq set) m k) edges ≡ true) same has;
  }
    where
      fits : (n : ℕ) → is_member nat_eq set n ≡ true → ((place_at places n).able && has_each_post edges set (node_at 0 places n)) ≡ true
      fits n t =
          let taken = sym (number-taken places n) ∙ within n t in
          let same : 0 + n ≡ n = omega arith in
          member-fits (nodes places) edges set (node_at 0 places n) is (node-listed places 0 n taken) (ap (is_member nat_eq set) same ∙ t)

  abbrev part : List ℕ
  part = filter (stands matched) (numbers (nodes places))

  part-member : (n : ℕ) → is_member nat_eq part n ≡ ((place_at places n).taken && stands matched n)
  part-member n = is_member-filter nat_eq_equiv (stands matched) n (λ x e. ap (stands matched) (eqb-true n x e)) (numbers (nodes places)) ∙ ap (λ (b : Bool). b && stands matched n) (number-taken places n)

  part-has : (n : ℕ) → stands matched n ≡ true → is_member nat_eq part n ≡ true
  part-has n t = part-member n ∙ both (place_at places n).taken (stands matched n) (able-taken n (closed.able n t)) t

  part-closed : is_closed (nodes places) edges part ≡ true
  unfolding is_closed
  part-closed =
      list_all-from_AllPass (λ x. not (is_member nat_eq part x.0) || (x.2 && has_each_post edges part x)) (nodes places)
      (λ k d low.
      let node = get_or (nodes places) k d in
      let placed = node-found places 0 node (Contains-get_or (nodes places) k d low) in
      let j = placed.0 in
      let at : 0 + j ≡ j = omega arith in
      let is : node ≡ (j, (place_at places j).posts, (place_at places j).able) = placed.1 ∙ ap (λ m. (m, (place_at places j).posts, (place_at places j).able)) at in
      rw is (
      by_bool (is_member nat_eq part j) ((not (is_member nat_eq part j) || ((place_at places j).able && has_each_post edges part (j, (place_at places j).posts, (place_at places j).able))) ≡ true)
      (λ t.
      let up : stands matched j ≡ true = and_right (place_at places j).taken (stands matched j) (sym (part-member j) ∙ t) in
      let has = each-post edges part (j, (place_at places j).posts, (place_at places j).able) (λ post inside. feeds-wider (stands matched) (is_member nat_eq part) part-has j post edges (closed.fed j post up inside)) in
      let all = both (place_at places j).able (has_each_post edges part (j, (place_at places j).posts, (place_at places j).able)) (closed.able j up) has in
      rw all (or-true (not (is_member nat_eq part j))))
      (λ f. rw f refl)))
    where
      or-true : (b : Bool) → (b || true) ≡ true
      or-true true = refl
      or-true false = refl

  -- What is kept as matched is what the definition has.
  pub definition-is : (n : ℕ) → is_matched (nodes places) edges n ≡ stands matched n
  unfolding is_matched
  definition-is n =
      let test : List ℕ → Bool = λ set. is_closed (nodes places) edges set && is_member nat_eq set n in
      same_tests (is_matched (nodes places) edges n) (stands matched n)
      (λ t.
      let found = found-part test (numbers (nodes places)) t in
      let is = and_left (is_closed (nodes places) edges found.0) (is_member nat_eq found.0 n) found.1 in
      greatest (is_member nat_eq found.0) (from-definition found.0 is found.2) n (and_right (is_closed (nodes places) edges found.0) (is_member nat_eq found.0 n) found.1))
      (λ t. part-found test (stands matched) (numbers (nodes places)) (both (is_closed (nodes places) edges part) (is_member nat_eq part n) part-closed (part-has n t)))

-- ---- the list of those that are marked

pub marked-has : (marks : List Bool) (n j : ℕ) → stands marks j ≡ true → Contains (marked_from n marks) (n + j)
marked-has [] n j up = absurd (let never : false ≡ true = up in cc)
marked-has (b ∷ bs) n zero up = let is : n + 0 ≡ n = omega arith in opt-left b n (n + 0) (marked_from (n + 1) bs) up is
marked-has (b ∷ bs) n (suc j) up =
    let is : n + 1 + j ≡ n + suc j = omega arith in
    opt-right b n (n + suc j) (marked_from (n + 1) bs) (subst (Contains (marked_from (n + 1) bs)) is (marked-has bs (n + 1) j up))

pub marked-is : (marks : List Bool) (n m : ℕ) → Contains (marked_from n marks) m → (j : ℕ) × (m ≡ n + j) × (stands marks j ≡ true)
marked-is [] n m h = absurd (none-Contains m h)
marked-is (b ∷ bs) n m h =
    elim (opt-cases b n m (marked_from (n + 1) bs) h) [
      | inl f ↦ (0, (let is : n ≡ n + 0 = omega arith in f.1 ∙ is), f.0)
      | inr rest ↦ let found = marked-is bs (n + 1) m rest in (suc found.0, (let at = found.1 in omega arith), found.2)
    ]

pub marked-member : (marks : List Bool) (n : ℕ) → is_member nat_eq (marked_from 0 marks) n ≡ stands marks n
marked-member marks n =
    same_tests (is_member nat_eq (marked_from 0 marks) n) (stands marks n)
    (λ t. let found = marked-is marks 0 n (member-contained (marked_from 0 marks) n t) in let is : found.0 ≡ n = (let at = found.1 in omega arith) in ap (stands marks) (sym is) ∙ found.2)
    (λ t. let is : 0 + n ≡ n = omega arith in contained-member (marked_from 0 marks) n (subst (Contains (marked_from 0 marks)) is (marked-has marks 0 n t)))

-- What stands in the type says it of the list that contracts see.
pub exact-is : (places : List Place) (leaving : List (List Out)) (totals : List (List ℕ)) (matched raised : List Bool) (counts : List (List ℕ)) (waiting reached : List ℕ) (room number next : ℕ)
    → IsKept places leaving totals matched raised counts waiting reached room number next
    → (n : ℕ) → is_member nat_eq (marked_from 0 matched) n ≡ is_matched (nodes_from 0 places) (edges_from places 0 leaving) n
exact-is places leaving totals matched raised counts waiting reached room number next k n =
    marked-member matched n ∙ sym (definition-is places (edges_from places 0 leaving) matched k.able_taken k.settled.closed k.settled.greatest n)

pub lost-is : (before after : List Bool) (edges : List Edge) → count_by (λ e. is_member nat_eq (marked_from 0 before) e.provider && not (is_member nat_eq (marked_from 0 after) e.provider)) edges ≡ count_by (was_raised (stands before) (stands after)) edges
lost-is before after edges =
    ap (λ (f : Edge → Bool). count_by f edges) (fun_ext (λ e.
    ap (λ (b : Bool). b && not (is_member nat_eq (marked_from 0 after) e.provider)) (marked-member before e.provider) ∙ ap (λ (b : Bool). stands before e.provider && not b) (marked-member after e.provider)))

-- a node that is there has its place
pub there : (places : List Place) (node : ℕ) (m : MatcherRecord) → m.nodes ≡ nodes_from 0 places → has_node node m ≡ true → (place_at places node).taken ≡ true
there places node m is has = sym (number-taken places node) ∙ ap (λ (ns : List (ℕ × ℕ × Bool)). is_member nat_eq (numbers ns) node) (sym is) ∙ has
