-- Residents by their positions in posting order: the edges of the pending queries with places in the place of positions.
use Rattle.std.proofs.Common.{◌≡◌, ℕ, suc, ◌+◌, ◌<◌, List, [], ◌∷◌, ◌++◌, length, map, refl, sym, ap, ◌∙◌, arith}
use Rattle.std.specs.List.{flat_map, enumerate_from}
use Rattle.std.proofs.lemmas.List.{map-append}
use Rattle.cq_atom.specs.Atom.{AtomRecord}
use Rattle.cq_board.specs.Steps.Supply.{unifies}
use Rattle.cq_board.specs.Edges.{edge_if, edges_of}
use Rattle.cq_board.specs.Steps.Residents.{Resident, queries_of, place_at, edges_from, edges_between, edges_among, renamed}
use Rattle.cq_board.proofs.Members.{by_bool}

-- ---- other places

module _ {Y Z : Type 0} (g : Y → Z) where
  pub map-flat_map : {X : Type 0} (f : X → List Y) (h : X → List Z) → ((x : X) → map g (f x) ≡ h x) → (xs : List X) → map g (flat_map f xs) ≡ flat_map h xs
  map-flat_map f h each [] = refl
  map-flat_map f h each (x ∷ xs) = map-append g (f x) (flat_map f xs) ∙ ap (λ ys. ys ++ map g (flat_map f xs)) (each x) ∙ ap (λ ys. h x ++ ys) (map-flat_map f h each xs)

  map-flat_map_moved : {X W : Type 0} (v : X → W) (f : X → List Y) (h : W → List Z) → ((x : X) → map g (f x) ≡ h (v x)) → (xs : List X) → map g (flat_map f xs) ≡ flat_map h (map v xs)
  map-flat_map_moved v f h each [] = refl
  map-flat_map_moved v f h each (x ∷ xs) = map-append g (f x) (flat_map f xs) ∙ ap (λ ys. ys ++ map g (flat_map f xs)) (each x) ∙ ap (λ ys. h (v x) ++ ys) (map-flat_map_moved v f h each xs)

-- the residents in other places
abbrev pub moved : (ℕ → ℕ) → List Resident → List Resident
moved f residents = map (λ r. (f r.0, r.1)) residents

module _ (f : ℕ → ℕ) where
  edge_renamed : (provider : ℕ) (head : ℕ × AtomRecord) (waiter : ℕ) (post : ℕ × AtomRecord) → map (renamed f) (edge_if provider head waiter post) ≡ edge_if (f provider) head (f waiter) post
  edge_renamed provider head waiter post =
      by_bool (unifies head.1 post.1) (map (renamed f) (edge_if provider head waiter post) ≡ edge_if (f provider) head (f waiter) post) (λ t. rw t refl) (λ t. rw t refl)

  from_renamed : (providers : List Resident) (waiter : ℕ) (post : ℕ × AtomRecord) → map (renamed f) (edges_from providers waiter post) ≡ edges_from (moved f providers) (f waiter) post
  from_renamed providers waiter post =
      map-flat_map_moved (renamed f) (λ (r : Resident). (f r.0, r.1)) (λ r. flat_map (λ head. edge_if r.0 head waiter post) (enumerate_from 0 r.1.query.heads)) (λ r. flat_map (λ head. edge_if r.0 head (f waiter) post) (enumerate_from 0 r.1.query.heads))
      (λ r. map-flat_map (renamed f) (λ head. edge_if r.0 head waiter post) (λ head. edge_if (f r.0) head (f waiter) post) (λ head. edge_renamed r.0 head waiter post) (enumerate_from 0 r.1.query.heads))
      providers

  between_renamed : (providers waiters : List Resident) → map (renamed f) (edges_between providers waiters) ≡ edges_between (moved f providers) (moved f waiters)
  between_renamed providers waiters =
      map-flat_map_moved (renamed f) (λ (r : Resident). (f r.0, r.1)) (λ w. flat_map (edges_from providers w.0) (enumerate_from 0 w.1.query.posts)) (λ w. flat_map (edges_from (moved f providers) w.0) (enumerate_from 0 w.1.query.posts))
      (λ w. map-flat_map (renamed f) (edges_from providers w.0) (edges_from (moved f providers) (f w.0)) (from_renamed providers w.0) (enumerate_from 0 w.1.query.posts))
      waiters

  -- Residents in other places have the edges with other ends.
  pub edges_moved : (residents : List Resident) → map (renamed f) (edges_among residents) ≡ edges_among (moved f residents)
  edges_moved residents = between_renamed residents residents

-- ---- positions

-- residents are their queries with the places that some numbering gives their positions
numbered : (f : ℕ → ℕ) (n : ℕ) (residents : List Resident) → ((k : ℕ) → k < length residents → f (n + k) ≡ place_at residents k) → moved f (enumerate_from n (queries_of residents)) ≡ residents
numbered f n [] same = refl
numbered f n (r ∷ residents) same =
    let at : n + 0 ≡ n = omega arith in
    let first : f n ≡ r.0 = ap f (sym at) ∙ same 0 (omega arith) in
    let rest : moved f (enumerate_from (n + 1) (queries_of residents)) ≡ residents =
    numbered f (n + 1) residents (λ k low. let next : n + 1 + k ≡ n + suc k = omega arith in ap f next ∙ same (suc k) (omega arith)) in
    ap (λ (m : ℕ). (m, r.1) ∷ moved f (enumerate_from (n + 1) (queries_of residents))) first ∙ ap (λ (rs : List Resident). r ∷ rs) rest

pub residents_moved : (residents : List Resident) → moved (place_at residents) (enumerate_from 0 (queries_of residents)) ≡ residents
residents_moved residents = numbered (place_at residents) 0 residents (λ k low. let at : 0 + k ≡ k = omega arith in ap (place_at residents) at)

-- The edges among residents are those of their queries, with places in the place of positions.
pub edges_placed : (residents : List Resident) → map (renamed (place_at residents)) (edges_of (queries_of residents)) ≡ edges_among residents
edges_placed residents = edges_moved (place_at residents) (enumerate_from 0 (queries_of residents)) ∙ ap edges_among (residents_moved residents)

-- residents by the positions that some numbering gives their places
positioned : (g : ℕ → ℕ) (n : ℕ) (residents : List Resident) → ((k : ℕ) → k < length residents → g (place_at residents k) ≡ n + k) → moved g residents ≡ enumerate_from n (queries_of residents)
positioned g n [] same = refl
positioned g n (r ∷ residents) same =
    let first : g r.0 ≡ n = same 0 (omega arith) ∙ omega arith in
    let rest : moved g residents ≡ enumerate_from (n + 1) (queries_of residents) =
    positioned g (n + 1) residents (λ k low. same (suc k) (omega arith) ∙ omega arith) in
    ap (λ (m : ℕ). (m, r.1) ∷ moved g residents) first ∙ ap (λ (rs : List Resident). (n, r.1) ∷ rs) rest

-- The edges of queries are those among residents, with positions in the place of places.
pub edges_positioned : (g : ℕ → ℕ) (residents : List Resident) → ((k : ℕ) → k < length residents → g (place_at residents k) ≡ k) → map (renamed g) (edges_among residents) ≡ edges_of (queries_of residents)
edges_positioned g residents same =
    edges_moved g residents ∙ ap edges_among (positioned g 0 residents (λ k low. same k low ∙ omega arith))
