-- What a board shows by names: the queries of its stores by their seats.
use Rattle.std.proofs.Common.{◌≡◌, ℕ, ◌<◌, Bool, true, false, List, [], ◌∷◌, length, map, get_or, refl, sym, ap, subst, ◌∙◌, Option, Some, None, IsSome}
use Rattle.std.specs.Prelude.{filter, find, nat_eq, option_map}
use Rattle.std.specs.FinMap.{get}
use Rattle.std.specs.List.{IsDistinct, slice_get}
use Rattle.std.specs.Map.{lookup}
use Rattle.std.specs.Option.{option_and_then, option_map_or}
use Rattle.std.specs.Str.{bytes_eq}
use Rattle.std.proofs.Math.ListN.{length-map}
use Rattle.std.proofs.lemmas.Option.{slice_get_read, slice_get-map}
use Rattle.cq_atom.specs.Atom.{RowRecord}
use Rattle.cq_atom.specs.Query.{QueryRecord}
use Rattle.cq_ground.specs.Grounding.{groundings_of}
use Rattle.cq_roster.specs.Roster.{SeatRecord, place_named}
use Rattle.cq_grounded.specs.Grounded.{GroundedRecord, GroundedMap, found}
use Rattle.cq_links.specs.Links.{LinkMap}
use Rattle.cq_match.specs.Matched.{is_matched}
use Rattle.cq_match.specs.Matcher.{MatcherRecord}
use Rattle.cq_board.specs.Pool.{PendingQuery, PoolRecord, name_of}
use Rattle.cq_board.specs.Edits.{is_named}
use Rattle.cq_board.specs.Board.{name_at, name_or_none, place_of}
use Rattle.cq_board.specs.Named.{query_named, matched_named, matched_names}
use Rattle.cq_board.specs.Steps.Residents.{Resident, places_of, queries_of, place_in}
use Rattle.cq_board.specs.Steps.Stores.{no_query, query_at, residents_at, residents_of, pending_of, StoresRecord, AreStores}
use Rattle.cq_board.proofs.Members.{by_bool}
use Rattle.cq_board.proofs.Calling.{called_made, matched_called}
use Rattle.cq_board.proofs.Placed.{map-map, matched_placed}
use Rattle.cq_board.proofs.Stored.{places-seated, pending-named, leaver-found}
use Rattle.cq_board.proofs.Upkeep.{filter-by_map}

-- ---- names in posting order

-- the name that is read at a number is that of the query there
pub name-there : {X : Type 0} (read : X → List ℕ) (xs : List X) (pending : List PendingQuery) (i : ℕ) (x : X) → map read xs ≡ map name_of pending → i < length xs → x ≡ get_or xs i x → read x ≡ name_or_none (name_at pending i)
name-there read xs pending i x same low is =
    let here : slice_get xs i ≡ Some x = slice_get_read xs (length xs) i x refl low is in
    let left : slice_get (map read xs) i ≡ Some (read x) = slice_get-map read xs i ∙ ap (option_map read) here in
    let right : slice_get (map read xs) i ≡ name_at pending i = ap (λ (names : List (List ℕ)). slice_get names i) same ∙ slice_get-map name_of pending i in
    ap name_or_none (sym left ∙ right)

-- there are as many names as queries
pub as-many : {X : Type 0} (read : X → List ℕ) (xs : List X) (pending : List PendingQuery) → map read xs ≡ map name_of pending → length pending ≡ length xs
as-many read xs pending same = sym (length-map pending name_of) ∙ ap length (sym same) ∙ length-map xs read

-- ---- what a name finds

-- a name finds the place of its seat
pub place-called : (name : List ℕ) (seats : List SeatRecord) (m : GroundedMap) → place_in name (residents_at seats m) ≡ place_named name seats
place-called name [] m = refl
place-called name (s ∷ seats) m =
    by_bool (bytes_eq name s.name) (place_in name (residents_at (s ∷ seats) m) ≡ place_named name (s ∷ seats))
    (λ t. rw t refl)
    (λ f. rw f (place-called name seats m))

module _ {Y : Type 0} (g : QueryRecord → Y) (name : List ℕ) where
  query-called : (seats : List SeatRecord) (m : GroundedMap) (k : ℕ) → place_named name seats ≡ Some k → option_map (λ r. g r.1.query) (find (λ r. is_named name r.1) (residents_at seats m)) ≡ Some (g (query_at m k))
  query-called [] m k e = cc
  query-called (s ∷ seats) m k e =
      by_bool (bytes_eq name s.name) (option_map (λ r. g r.1.query) (find (λ r. is_named name r.1) (residents_at (s ∷ seats) m)) ≡ Some (g (query_at m k)))
      (λ t. let found : Some s.place ≡ Some k = rw t at e in let same : s.place ≡ k = cc in rw t (ap (λ (p : ℕ). Some (g (query_at m p))) same))
      (λ f. rw f (query-called seats m k (rw f at e)))

  none-called : (seats : List SeatRecord) (m : GroundedMap) → place_named name seats ≡ None → option_map (λ r. g r.1.query) (find (λ r. is_named name r.1) (residents_at seats m)) ≡ None
  none-called [] m e = refl
  none-called (s ∷ seats) m e =
      by_bool (bytes_eq name s.name) (option_map (λ r. g r.1.query) (find (λ r. is_named name r.1) (residents_at (s ∷ seats) m)) ≡ None)
      (λ t. let no : Some s.place ≡ None = rw t at e in cc)
      (λ f. rw f (none-called seats m (rw f at e)))

  -- what a list made of the queries has at the position of a name
  pub made-at : (seats : List SeatRecord) (m : GroundedMap) (k : ℕ) → place_named name seats ≡ Some k → option_and_then (slice_get (map (λ p. g p.query) (queries_of (residents_at seats m)))) (place_of name (queries_of (residents_at seats m))) ≡ Some (g (query_at m k))
  made-at seats m k e = called_made (residents_at seats m) (λ p. g p.query) name ∙ query-called seats m k e

  pub made-nowhere : (seats : List SeatRecord) (m : GroundedMap) → place_named name seats ≡ None → option_and_then (slice_get (map (λ p. g p.query) (queries_of (residents_at seats m)))) (place_of name (queries_of (residents_at seats m))) ≡ None
  made-nowhere seats m e = called_made (residents_at seats m) (λ p. g p.query) name ∙ none-called seats m e

query-made : (pending : List PendingQuery) (o : Option ℕ) → option_and_then (λ place. option_map (λ p. p.query) (slice_get pending place)) o ≡ option_and_then (slice_get (map (λ p. p.query) pending)) o
query-made pending None = refl
query-made pending (Some place) = sym (slice_get-map (λ (p : PendingQuery). p.query) pending place)

query-there : (o : Option GroundedRecord) → IsSome o → option_map (λ f. f.query) o ≡ Some (option_map_or (λ f. f.query) o no_query)
query-there None some = absurd (let never : false ≡ true = some in cc)
query-there (Some f) some = refl

groundings-there : (rows : List RowRecord) (o : Option GroundedRecord) (l : Option PendingQuery) → IsSome o → o ≡ option_map (λ q. found rows q.query) l
    → option_map (λ f. f.groundings) o ≡ Some (groundings_of (option_map_or (λ f. f.query) o no_query).body rows)
groundings-there rows None l some e = absurd (let never : false ≡ true = some in cc)
groundings-there rows (Some f) None some e = cc
groundings-there rows (Some f) (Some q) some e =
    let same : f ≡ found rows q.query = cc in
    subst (λ (h : GroundedRecord). Some h.groundings ≡ Some (groundings_of h.query.body rows)) (sym same) refl

pub query-nowhere : (name : List ℕ) (seats : List SeatRecord) (m : GroundedMap) → place_named name seats ≡ None → query_named name (queries_of (residents_at seats m)) ≡ None
query-nowhere name seats m e = query-made (queries_of (residents_at seats m)) (place_of name (queries_of (residents_at seats m))) ∙ made-nowhere (λ q. q) name seats m e

module _ (content : StoresRecord) (rows : List RowRecord) (stores : AreStores content rows) where
  pub query-at-place : (name : List ℕ) (k : ℕ) → place_named name content.seats ≡ Some k → option_map (λ f. f.query) (get content.grounded k) ≡ query_named name (pending_of content)
  query-at-place name k e =
      query-there (get content.grounded k) (leaver-found content rows stores name k e)
      ∙ sym (query-made (pending_of content) (place_of name (pending_of content)) ∙ made-at (λ q. q) name content.seats content.grounded k e)

  pub groundings-at-place : (name : List ℕ) (k : ℕ) → place_named name content.seats ≡ Some k
      → option_map (λ f. f.groundings) (get content.grounded k) ≡ option_and_then (slice_get (map (λ p. groundings_of p.query.body rows) (pending_of content))) (place_of name (pending_of content))
  groundings-at-place name k e =
      groundings-there rows (get content.grounded k) (lookup (nat_eq k) (residents_of content)) (leaver-found content rows stores name k e) (stores.stand k)
      ∙ sym (made-at (λ q. groundings_of q.body rows) name content.seats content.grounded k e)

  -- something stands at the place of a name
  pub finding-there : (name : List ℕ) (k : ℕ) → place_named name content.seats ≡ Some k → {X : Type 0} (f : GroundedRecord → X) → None ≡ option_map f (get content.grounded k) → ⊥
  finding-there name k e f n = none (get content.grounded k) (leaver-found content rows stores name k e) n
    where
      none : (o : Option GroundedRecord) → IsSome o → None ≡ option_map f o → ⊥
      none None some n = let never : false ≡ true = some in cc
      none (Some finding) some n = cc

  own-places : IsDistinct nat_eq (places_of (residents_of content))
  own-places = subst (λ (places : List ℕ). IsDistinct nat_eq places) (sym (places-seated content.seats content.grounded)) stores.roster.places

module _ (pool : PoolRecord) (content : StoresRecord) (stores : AreStores content pool.tables.rows) where
  abbrev now : PoolRecord
  now = record pool { pending = pending_of content }

  distinct : IsDistinct nat_eq (places_of (residents_of content))
  distinct = own-places content pool.tables.rows stores

  pub matched-at-place : (name : List ℕ) → matched_named name now ≡ option_map (is_matched content.matcher.nodes content.matcher.edges) (place_named name content.seats)
  matched-at-place name = matched_called (residents_of content) pool distinct content.matcher.nodes content.matcher.edges stores.graph name ∙ ap (option_map (is_matched content.matcher.nodes content.matcher.edges)) (place-called name content.seats content.grounded)

  -- the names of the matched queries are those of the seats whose places are matched
  pub matched-seats : matched_names now ≡ map (λ s. s.name) (filter (λ s. is_matched content.matcher.nodes content.matcher.edges s.place) content.seats)
  matched-seats =
      let resident : SeatRecord → Resident = λ s. (s.place, (record { name = s.name; query = query_at content.grounded s.place })) in
      let matched : Resident → Bool = λ r. is_matched content.matcher.nodes content.matcher.edges r.0 in
      matched_placed (residents_of content) distinct pool content.matcher.nodes content.matcher.edges stores.graph
      ∙ ap (map (λ (r : Resident). r.1.name)) (sym (filter-by_map resident (λ s. is_matched content.matcher.nodes content.matcher.edges s.place) matched content.seats (λ s h. refl)))
      ∙ map-map (λ (r : Resident). r.1.name) resident (filter (λ s. is_matched content.matcher.nodes content.matcher.edges s.place) content.seats)

-- ---- all seats, read one by one

module _ {X : Type 0} (xs ys : List X) (seat : X → SeatRecord) (content : StoresRecord) (same : xs ≡ ys) (read : map seat ys ≡ content.seats) where
  pub names-read : map (λ x. (seat x).name) xs ≡ map name_of (pending_of content)
  names-read =
      ap (map (λ (x : X). (seat x).name)) same ∙ sym (map-map (λ (s : SeatRecord). s.name) seat ys)
      ∙ ap (map (λ (s : SeatRecord). s.name)) read ∙ sym (pending-named content.seats content.grounded)

  pub matched-read : (pool : PoolRecord) → AreStores content pool.tables.rows
      → map (λ x. (seat x).name) (filter (λ x. is_matched content.matcher.nodes content.matcher.edges (seat x).place) xs) ≡ matched_names (record pool { pending = pending_of content })
  matched-read pool stores =
      let is_there : ℕ → Bool = is_matched content.matcher.nodes content.matcher.edges in
      let there : X → Bool = λ x. is_there (seat x).place in
      ap (λ (l : List X). map (λ (x : X). (seat x).name) (filter there l)) same
      ∙ sym (map-map (λ (s : SeatRecord). s.name) seat (filter there ys))
      ∙ ap (map (λ (s : SeatRecord). s.name)) (filter-by_map seat there (λ s. is_there s.place) ys (λ x h. refl) ∙ ap (filter (λ (s : SeatRecord). is_there s.place)) read)
      ∙ sym (matched-seats pool content stores)
