-- A node comes with its edges: what the steps have made of the nodes that contracts see.
use Rattle.std.proofs.Common.{◌≡◌, ℕ, ◌<◌, Bool, true, false, not, if◌then◌else◌, eqb, nat_eq, List, [], ◌∷◌, length, get_or, filter, zero, suc, Result, Ok, Err, refl, sym, ap, ◌∙◌, subst, arith, eq-eqb}
use Rattle.std.specs.List.{All, Any, Contains}
use Rattle.std.specs.Result.{is_err, OnErr}
use Rattle.std.specs.Set.{is_member}
use Rattle.cq_atom.specs.declared.edge.Edge.{Edge}
use Rattle.cq_match.specs.Matched.{numbers}
use Rattle.cq_match.specs.Matcher.{with_flag, without, with_number}
use Rattle.cq_match.specs.Steps.Kept.{is_able}
use Rattle.cq_match.proofs.Tests.{by_bool}
use Rattle.cq_match.proofs.Union.{contained-member}
use Rattle.cq_match.proofs.Going.{flag-without}
use Rattle.cq_match.proofs.Bridge.{here-Contains, later-Contains, listed-number, number-listed}

abbrev Nodes : Type 0
Nodes = List (ℕ × ℕ × Bool)

-- what passes a test is in the whole list
filtered-in : (p : ℕ × ℕ × Bool → Bool) (xs : Nodes) (x : ℕ × ℕ × Bool) → Contains (filter p xs) x → Contains xs x
filtered-in p [] x h = h
filtered-in p (y ∷ xs) x h =
    by_bool (p y) (Contains (y ∷ xs) x)
    (λ t.
    let all : Contains (y ∷ filter p xs) x = rw t at h in
    one (λ h. filtered-in p xs x h) all)
    (λ f. let rest : Contains (filter p xs) x = rw f at h in later-Contains y x xs (filtered-in p xs x rest))
  where
    one : (Contains (filter p xs) x → Contains xs x) → Contains (y ∷ filter p xs) x → Contains (y ∷ xs) x
    one later (zero, low, at) = subst (Contains (y ∷ xs)) at (here-Contains y xs)
    one later (suc k, low, at) = later-Contains y x xs (later (k, (let l : suc k < suc (length (filter p xs)) = low in omega arith), at))

-- the flag of the only node of that number
flag-numbered : (j : ℕ) (b : Bool) (nodes : Nodes) → with_number j (with_flag j b nodes) ≡ with_flag j b (with_number j nodes)
flag-numbered j b [] = refl
flag-numbered j b (x ∷ nodes) =
    let rest = flag-numbered j b nodes in
    by_bool (eqb x.0 j) (with_number j (with_flag j b (x ∷ nodes)) ≡ with_flag j b (with_number j (x ∷ nodes)))
    (λ t.
    let first : with_number j (with_flag j b (x ∷ nodes)) ≡ (x.0, x.1, b) ∷ with_number j (with_flag j b nodes) = rw t refl in
    let kept : with_number j (x ∷ nodes) ≡ x ∷ with_number j nodes = rw t refl in
    let second : with_flag j b (x ∷ with_number j nodes) ≡ (x.0, x.1, b) ∷ with_flag j b (with_number j nodes) = rw t refl in
    first ∙ ap (λ (ns : Nodes). (x.0, x.1, b) ∷ ns) rest ∙ sym (ap (with_flag j b) kept ∙ second))
    (λ f. rw f rest)

able-numbered : (j : ℕ) (nodes : Nodes) → is_able j nodes ≡ is_able j (with_number j nodes)
able-numbered j [] = refl
able-numbered j (x ∷ nodes) =
    let rest = able-numbered j nodes in
    by_bool (eqb x.0 j) (is_able j (x ∷ nodes) ≡ is_able j (with_number j (x ∷ nodes)))
    (λ t.
    let kept : with_number j (x ∷ nodes) ≡ x ∷ with_number j nodes = rw t refl in
    let same : is_able j (x ∷ nodes) ≡ is_able j (x ∷ with_number j nodes) =
    by_bool x.2 (is_able j (x ∷ nodes) ≡ is_able j (x ∷ with_number j nodes)) (λ u. rw (t, u) refl) (λ f. rw (t, f) rest) in
    same ∙ ap (is_able j) (sym kept))
    (λ f. rw f rest)

module _ (node posts : ℕ) (nodes before : Nodes) (placed : with_number node nodes ≡ (node, posts, false) ∷ []) (others : without node nodes ≡ before) where
  placed-in : Contains nodes (node, posts, false)
  placed-in = filtered-in (λ x. eqb x.0 node) nodes (node, posts, false) (subst (λ (ns : Nodes). Contains ns (node, posts, false)) (sym placed) (here-Contains (node, posts, false) []))

  pub placed-there : is_member nat_eq (numbers nodes) node ≡ true
  placed-there = contained-member (numbers nodes) node (listed-number nodes (node, posts, false) placed-in)

  pub placed-unable : is_able node nodes ≡ false
  placed-unable = able-numbered node nodes ∙ ap (is_able node) placed ∙ (let same : eqb node node ≡ true = eq-eqb node node refl in rw same refl)

  before-in : (x : ℕ × ℕ × Bool) → Contains before x → Contains nodes x
  before-in x h = filtered-in (λ y. not (eqb y.0 node)) nodes x (subst (λ (ns : Nodes). Contains ns x) (sym others) h)

  number-in : (able : Bool) (m : ℕ) → Contains (numbers ((node, posts, able) ∷ before)) m → Contains (numbers nodes) m
  number-in able m (zero, low, at) = subst (Contains (numbers nodes)) at (listed-number nodes (node, posts, false) placed-in)
  number-in able m (suc k, low, at) =
      let found = number-listed before m (k, (let l : suc k < suc (length (numbers before)) = low in omega arith), at) in
      subst (Contains (numbers nodes)) found.2 (listed-number nodes found.0 (before-in found.0 found.1))

  abbrev Takes : ℕ → ℕ → ℕ × ℕ × Bool → Type 0
  Takes w k x = (x.0 ≡ w) × (k < x.1)

  takes-in : (able : Bool) (w k : ℕ) → Any (Takes w k) ((node, posts, able) ∷ before) → Any (Takes w k) nodes
  takes-in able w k (zero, x, low, at, holds) =
      let is : (node, posts, able) ≡ x = at in
      let fits : Takes w k (node, posts, able) = subst (Takes w k) (sym is) holds in
      (placed-in.0, (node, posts, false), placed-in.1, placed-in.2, fits)
  takes-in able w k (suc j, x, low, at, holds) =
      let found = before-in x (j, (let l : suc j < suc (length before) = low in omega arith), at) in
      (found.0, x, found.1, found.2, holds)

  -- the ends of edges are there, now that the node is
  pub ends-in : (able : Bool) (edges : List Edge) → All (λ edge. Contains (numbers ((node, posts, able) ∷ before)) edge.provider × Any (λ (x : ℕ × ℕ × Bool). (x.0 ≡ edge.waiter) × (edge.post < x.1)) ((node, posts, able) ∷ before)) edges
      → All (λ edge. Contains (numbers nodes) edge.provider × Any (λ (x : ℕ × ℕ × Bool). (x.0 ≡ edge.waiter) × (edge.post < x.1)) nodes) edges
  ends-in able edges all k d low =
      let ends = all k d low in
      let e = get_or edges k d in
      (number-in able e.provider ends.0, takes-in able e.waiter e.post ends.1)

  pub flagged-node : (able : Bool) → with_number node (if able then with_flag node true nodes else nodes) ≡ (node, posts, able) ∷ []
  flagged-node true = flag-numbered node true nodes ∙ ap (with_flag node true) placed ∙ (let same : eqb node node ≡ true = eq-eqb node node refl in rw same refl)
  flagged-node false = placed

  pub flagged-others : (able : Bool) → without node (if able then with_flag node true nodes else nodes) ≡ before
  flagged-others true = flag-without node true nodes ∙ others
  flagged-others false = others

-- what stands where there is an error
pub refused : {T E P : Type 0} (r : Result T E) → is_err r ≡ true → OnErr r P → P
refused (Ok x) e p = absurd (let never : false ≡ true = e in cc)
refused (Err x) e p = p
