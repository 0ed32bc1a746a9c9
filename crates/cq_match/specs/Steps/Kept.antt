-- How a matcher keeps its graph: nodes by their places, and edges with the nodes that they leave.
use Rattle.std.specs.Prelude.{◌≡◌, ℕ, ◌+◌, ◌<◌, ◌≤◌, ◌⊎◌, Bool, true, false, not, ◌&&◌, ◌==◌, List, [], ◌∷◌, ◌++◌, length, map, filter, count_by, slice_index_or, if◌then◌else◌}
use Rattle.std.specs.List.{All, Contains, list_any}
use Rattle.cq_atom.specs.declared.edge.Edge.{Edge}
use Rattle.cq_match.specs.declared.graph.Place.{Place}
use Rattle.cq_match.specs.declared.graph.Out.{Out}
use Rattle.cq_match.specs.Graph.{leads_to}
use Rattle.cq_match.specs.Steps.Settle.{stands}

-- A place where no node stands.
abbrev pub free : Place
free = record { taken = false; able = false; posts = 0; stamp = 0 }

abbrev pub place_at : List Place → ℕ → Place
place_at places n = slice_index_or places n free

-- The waiter that the edge was made for is there.
abbrev pub is_live : List Place → Out → Bool
is_live places out = (place_at places out.waiter).taken && ((place_at places out.waiter).stamp == out.stamp)

abbrev pub edge_of : ℕ → Out → Edge
edge_of provider out = record { provider = provider; head = out.head; waiter = out.waiter; post = out.post }

-- The edges that leave a node.
abbrev pub edges_left : List Place → ℕ → List Out → List Edge
edges_left places provider outs = map (edge_of provider) (filter (is_live places) outs)

-- All edges, by their providers, of which the first has this number.
abbrev pub edges_from : List Place → ℕ → List (List Out) → List Edge
edges_from places n [] = []
edges_from places n (outs ∷ more) = edges_left places n outs ++ edges_from places (n + 1) more

-- The nodes, of which the first has at least this number.
abbrev pub nodes_from : ℕ → List Place → List (ℕ × ℕ × Bool)
nodes_from n [] = []
nodes_from n (place ∷ more) = (if place.taken then (n, place.posts, place.able) ∷ [] else []) ++ nodes_from (n + 1) more

-- A node of that number is able.
abbrev pub is_able : ℕ → List (ℕ × ℕ × Bool) → Bool
is_able n nodes = list_any (λ node. (node.0 == n) && node.2) nodes

-- The numbers of those that are marked, of which the first has at least this number.
abbrev pub marked_from : ℕ → List Bool → List ℕ
marked_from n [] = []
marked_from n (mark ∷ more) = (if mark then n ∷ [] else []) ++ marked_from (n + 1) more

-- How many edges to that postcondition are counted.
abbrev pub count_at : List (List ℕ) → ℕ → ℕ → ℕ
count_at counts n k = slice_index_or (slice_index_or counts n []) k 0

-- The edge leads to the postcondition from a node of the set.
abbrev pub feeds_post : (ℕ → Bool) → ℕ → ℕ → Edge → Bool
feeds_post set n k edge = leads_to n k edge && set edge.provider

-- The set is closed.
pub record Closed (places : List Place) (edges : List Edge) (set : ℕ → Bool) : Type 0 where
  pub able : (n : ℕ) → set n ≡ true → (place_at places n).able ≡ true
  pub fed : (n k : ℕ) → set n ≡ true → k < (place_at places n).posts → list_any (feeds_post set n k) edges ≡ true

-- What stays true while nodes stop being matched. The edges of nodes that are raised are counted, and so are those of the list, which is what
-- is left to be lowered of one node that was raised.
pub record Pruning (places : List Place) (edges : List Edge) (matched raised : List Bool) (counts : List (List ℕ)) (waiting : List ℕ) (left : List Edge) : Type 0 where
  pub matched_len : length matched ≡ length places
  pub raised_len : length raised ≡ length places
  pub counts_len : length counts ≡ length places
  pub row_len : (n : ℕ) → length (slice_index_or counts n []) ≡ (place_at places n).posts
  pub counted : (n k : ℕ) → k < (place_at places n).posts → count_at counts n k ≡ count_by (feeds_post (stands raised) n k) edges + count_by (leads_to n k) left
  pub within : (n : ℕ) → stands matched n ≡ true → stands raised n ≡ true
  pub due : (n : ℕ) → stands raised n ≡ true → (stands matched n ≡ true) ⊎ Contains waiting n
  pub able : (n : ℕ) → stands matched n ≡ true → (place_at places n).able ≡ true
  pub fed : (n k : ℕ) → stands matched n ≡ true → k < (place_at places n).posts → 1 ≤ count_at counts n k
  pub stays : (set : ℕ → Bool) → Closed places edges set → (n : ℕ) → set n ≡ true → stands matched n ≡ true
  pub placed : All (λ n. n < length places) waiting
  pub fallen : All (λ n. stands matched n ≡ false) waiting

-- Edges that are there lead to a postcondition of their waiter.
abbrev pub OutsFit : List Place → List (List Out) → Type 0
OutsFit places leaving = (n : ℕ) → All (λ out. is_live places out ≡ true → out.post < (place_at places out.waiter).posts) (slice_index_or leaving n [])

-- How many nodes are matched or wait.
abbrev pub busy : List Bool → List ℕ → ℕ
busy matched waiting = length waiting + count_by (λ mark. mark) matched

-- The edge's provider was in the one set, and is not in the other.
abbrev pub was_raised : (ℕ → Bool) → (ℕ → Bool) → Edge → Bool
was_raised before after edge = before edge.provider && not (after edge.provider)

-- ---- how nodes come to be matched

-- The edges of nodes that are raised are counted, but for those of the list, which is what is left to be raised of one node.
pub record Counting (places : List Place) (edges : List Edge) (raised : List Bool) (counts : List (List ℕ)) (left : List Edge) : Type 0 where
  pub counts_len : length counts ≡ length places
  pub row_len : (n : ℕ) → length (slice_index_or counts n []) ≡ (place_at places n).posts
  pub counted : (n k : ℕ) → k < (place_at places n).posts → count_at counts n k + count_by (leads_to n k) left ≡ count_by (feeds_post (stands raised) n k) edges

-- The number stands in the list, and not among the first so many.
abbrev pub IsLater : ℕ → List ℕ → ℕ → Type 0
IsLater from reached n = (j : ℕ) × (from ≤ j) × (j < length reached) × (slice_index_or reached j 0 ≡ n)

-- More nodes that are able are taken as matched, and these are put to the list.
pub record Grown (places : List Place) (matched : List Bool) (reached : List ℕ) (matched' : List Bool) (reached' : List ℕ) : Type 0 where
  pub len : length matched' ≡ length matched
  pub kept : (n : ℕ) → stands matched n ≡ true → stands matched' n ≡ true
  pub found : (n : ℕ) → stands matched' n ≡ true → (stands matched n ≡ true) ⊎ IsLater (length reached) reached' n
  pub able : (n : ℕ) → stands matched' n ≡ true → (stands matched n ≡ true) ⊎ ((place_at places n).able ≡ true)
  pub front : (j : ℕ) → j < length reached → slice_index_or reached' j 0 ≡ slice_index_or reached j 0
  pub longer : length reached ≤ length reached'
  pub size : length reached' + count_by (λ mark. mark) matched ≡ length reached + count_by (λ mark. mark) matched'
  pub placed : All (λ n. n < length places) reached → All (λ n. n < length places) reached'
  pub listed : All (λ n. stands matched n ≡ true) reached → All (λ n. stands matched' n ≡ true) reached'

-- The able waiters of the edges are matched.
abbrev pub Reaches : List Place → List Bool → List Edge → Type 0
Reaches places matched edges = All (λ edge. (place_at places edge.waiter).able ≡ true → stands matched edge.waiter ≡ true) edges

-- What stays true while nodes are taken as matched that edges reach: those that the list names, of which so many are raised.
pub record Reaching (places : List Place) (leaving : List (List Out)) (edges : List Edge) (before matched raised : List Bool) (counts : List (List ℕ)) (reached : List ℕ) (index : ℕ) : Type 0 where
  pub matched_len : length matched ≡ length places
  pub raised_len : length raised ≡ length places
  pub counting : Counting places edges raised counts []
  pub kept : (n : ℕ) → stands before n ≡ true → stands raised n ≡ true
  pub within : (n : ℕ) → stands raised n ≡ true → stands matched n ≡ true
  pub found : (n : ℕ) → stands matched n ≡ true → (stands before n ≡ true) ⊎ IsLater 0 reached n
  pub due : (n : ℕ) → stands matched n ≡ true → (stands raised n ≡ true) ⊎ IsLater index reached n
  pub reaches : (n : ℕ) → stands raised n ≡ true → (stands before n ≡ true) ⊎ Reaches places matched (edges_left places n (slice_index_or leaving n []))
  pub able : (n : ℕ) → stands matched n ≡ true → (place_at places n).able ≡ true
  pub placed : All (λ n. n < length places) reached
  pub listed : All (λ n. stands matched n ≡ true) reached
  pub size : length reached + count_by (λ mark. mark) before ≡ count_by (λ mark. mark) matched
  pub upto : index ≤ length reached

-- What stays true while nodes that were taken as matched are looked at, so many of the list by now.
pub record Checking (places : List Place) (edges : List Edge) (matched raised : List Bool) (counts : List (List ℕ)) (waiting reached : List ℕ) (index : ℕ) : Type 0 where
  pub matched_len : length matched ≡ length places
  pub raised_len : length raised ≡ length places
  pub counting : Counting places edges raised counts []
  pub within : (n : ℕ) → stands matched n ≡ true → stands raised n ≡ true
  pub due : (n : ℕ) → stands raised n ≡ true → (stands matched n ≡ true) ⊎ Contains waiting n
  pub able : (n : ℕ) → stands matched n ≡ true → (place_at places n).able ≡ true
  pub fed : (n : ℕ) → stands matched n ≡ true → ((k : ℕ) → k < (place_at places n).posts → 1 ≤ count_at counts n k) ⊎ IsLater index reached n
  pub stays : (set : ℕ → Bool) → Closed places edges set → (n : ℕ) → set n ≡ true → stands matched n ≡ true
  pub placed : All (λ n. n < length places) waiting
  pub fallen : All (λ n. stands matched n ≡ false) waiting

-- Exactly the matched nodes are matched, and exactly their edges are counted.
pub record Settled (places : List Place) (edges : List Edge) (matched raised : List Bool) (counts : List (List ℕ)) : Type 0 where
  pub matched_len : length matched ≡ length places
  pub same : raised ≡ matched
  pub counting : Counting places edges raised counts []
  pub closed : Closed places edges (stands matched)
  pub greatest : (set : ℕ → Bool) → Closed places edges set → (n : ℕ) → set n ≡ true → stands matched n ≡ true

-- What stands in the type of a matcher.
pub record IsKept (places : List Place) (leaving : List (List Out)) (totals : List (List ℕ)) (matched raised : List Bool) (counts : List (List ℕ)) (waiting reached : List ℕ) (room number next : ℕ) : Type 0 where
  pub leaving_len : length leaving ≡ length places
  pub totals_len : length totals ≡ length places
  pub fit : OutsFit places leaving
  pub totals_row : (n : ℕ) → length (slice_index_or totals n []) ≡ (place_at places n).posts
  pub totaled : (n k : ℕ) → count_at totals n k ≡ count_by (leads_to n k) (edges_from places 0 leaving)
  pub settled : Settled places (edges_from places 0 leaving) matched raised counts
  pub none_waits : waiting ≡ []
  pub none_reached : reached ≡ []
  pub roomy : length places ≤ room
  pub numbered : length (edges_from places 0 leaving) ≤ number
  pub older : (n : ℕ) → (place_at places n).stamp < next
  pub outs_older : (n : ℕ) → All (λ out. out.stamp < next) (slice_index_or leaving n [])
  pub able_taken : (n : ℕ) → (place_at places n).able ≡ true → (place_at places n).taken ≡ true
  pub free_posts : (n : ℕ) → (place_at places n).taken ≡ false → (place_at places n).posts ≡ 0
  pub free_leaving : (n : ℕ) → (place_at places n).taken ≡ false → slice_index_or leaving n [] ≡ []
