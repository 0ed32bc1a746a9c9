-- The stores are of the residents, while a query comes or goes.
use Rattle.std.proofs.Common.{Result, Ok, Err, OnOk, OnErr, is_some, is_err, ◌≡◌, ◌↔◌, ℕ, ◌<◌, ◌⊎◌, inl, inr, IsSome, Bool, true, false, not, List, [], ◌∷◌, ◌++◌, length, map, refl, sym, ap, subst, ◌∙◌, Option, Some, None, if◌then◌else◌}
use Rattle.std.specs.Prelude.{filter, nat_eq, nat_lt, option_map}
use Rattle.std.specs.List.{All, Any, Contains, IsDistinct}
use Rattle.std.specs.FinMap.{FinMap, get, insert, remove, get-insert, get-remove, same_map, nat_cmp-IsAntisymmetric}
use Rattle.std.specs.Map.{lookup}
use Rattle.std.specs.Option.{option_map_or}
use Rattle.std.specs.Ordering.{nat_cmp}
use Rattle.std.specs.Set.{is_member}
use Rattle.std.specs.Str.{bytes_eq}
use Rattle.std.proofs.lemmas.Bool.{eqb-true, eq-eqb, not-true}
use Rattle.std.proofs.lemmas.Cmp.{nat_cmp_total}
use Rattle.std.proofs.lemmas.Slice.Eq.{bytes_eq-Decides}
use Rattle.cq_atom.specs.Atom.{RowRecord}
use Rattle.cq_atom.specs.Query.{QueryRecord}
use Rattle.cq_atom.specs.declared.edge.Edge.{Edge}
use Rattle.cq_match.specs.Matched.{numbers, is_matched}
use Rattle.cq_match.specs.Matcher.{MatcherRecord, has_node, without, with_number, is_apart}
use Rattle.cq_roster.specs.Roster.{SeatRecord, seat_of, place_named, is_taken_place, without as without_name}
use Rattle.cq_grounded.specs.Grounded.{GroundedRecord, GroundedMap, found}
use Rattle.cq_links.specs.Links.{LinkMap, Ends, ends_of, heads_at, posts_at, IsLink, Touches}
use Rattle.cq_board.specs.declared.stores.Stores.TheInside.{Inside}
use Rattle.cq_board.specs.Pool.{PendingQuery, name_of}
use Rattle.cq_board.specs.Edits.{is_named, is_taken}
use Rattle.cq_board.specs.Steps.Residents.{Resident, IsLinked, places_of, queries_of, all_but, heads_in, posts_in, IsGraphOf}
use Rattle.cq_board.specs.Steps.Flags.{has_grounding}
use Rattle.cq_board.specs.Steps.Stores.{no_query, query_at, residents_at, residents_of, pending_of, able_over, StoresRecord, AreStores, AddsLinks}
use Rattle.cq_board.proofs.Members.{by_bool, In, any_has, In-map, In-filter_gives}
use Rattle.cq_board.proofs.Linked.{tie-eq, In-lookup, lookup-free, map_posted, map_withdrawn, map_free, linked_ends, linked_touch, graph_linked}
use Rattle.cq_board.proofs.Placed.{residents_withdrawn, queries_withdrawn}
use Rattle.cq_board.proofs.Upkeep.{graph_has, graph_withdrawn, filter-by_map, queries_posted}
use Rattle.cq_roster.proofs.CallerLemmas.{IsRoster-push, IsRoster-without}

-- ---- residents and seats

pub places-seated : (seats : List SeatRecord) (m : GroundedMap) → places_of (residents_at seats m) ≡ map (λ s. s.place) seats
places-seated [] m = refl
places-seated (s ∷ seats) m = ap (λ (l : List ℕ). s.place ∷ l) (places-seated seats m)

pub pending-named : (seats : List SeatRecord) (m : GroundedMap) → map name_of (queries_of (residents_at seats m)) ≡ map (λ s. s.name) seats
pending-named [] m = refl
pending-named (s ∷ seats) m = ap (λ (l : List (List ℕ)). s.name ∷ l) (pending-named seats m)

-- a name that has a place is taken, and no other is
pub named-taken : (name : List ℕ) (seats : List SeatRecord) (m : GroundedMap) → is_taken name (queries_of (residents_at seats m)) ≡ false → place_named name seats ≡ None
named-taken name [] m e = refl
named-taken name (s ∷ seats) m e =
    by_bool (bytes_eq name s.name) (place_named name (s ∷ seats) ≡ None)
    (λ t. let never : true ≡ false = rw t at e in cc)
    (λ f. rw f (named-taken name seats m (rw f at e)))

other-query : (m : GroundedMap) (place : ℕ) (f : GroundedRecord) (p : ℕ) → nat_eq p place ≡ false → query_at (insert m place f) p ≡ query_at m p
other-query m place f p apart =
    ap (λ (o : Option GroundedRecord). option_map_or (λ x. x.query) o no_query)
    (get-insert nat_cmp_total m place f p ∙ ap (λ (b : Bool). if b then Some f else get m p) (tie-eq p place ∙ apart))

this-query : (m : GroundedMap) (place : ℕ) (f : GroundedRecord) → query_at (insert m place f) place ≡ f.query
this-query m place f =
    ap (λ (o : Option GroundedRecord). option_map_or (λ x. x.query) o no_query)
    (get-insert nat_cmp_total m place f place ∙ ap (λ (b : Bool). if b then Some f else get m place) (tie-eq place place ∙ eq-eqb place place refl))

turned : (p q : ℕ) → nat_eq p q ≡ false → nat_eq q p ≡ false
turned p q e = by_bool (nat_eq q p) (nat_eq q p ≡ false) (λ t. let same : nat_eq p q ≡ true = eq-eqb p q (sym (eqb-true q p t)) in let never : true ≡ false = sym same ∙ e in cc) (λ f. f)

abbrev pub resident : SeatRecord → QueryRecord → Resident
resident s q = (s.place, (record { name = s.name; query = q }))

-- a query that comes to a free place
pub residents-posted : (seats : List SeatRecord) (m : GroundedMap) (name : List ℕ) (place : ℕ) (f : GroundedRecord) → is_member nat_eq (places_of (residents_at seats m)) place ≡ false →
    residents_at (seats ++ seat_of name place ∷ []) (insert m place f) ≡ residents_at seats m ++ (place, (record { name = name; query = f.query })) ∷ []
residents-posted [] m name place f none = ap (λ (q : QueryRecord). resident (seat_of name place) q ∷ []) (this-query m place f)
residents-posted (s ∷ seats) m name place f none =
    by_bool (nat_eq place s.place) (residents_at (s ∷ (seats ++ seat_of name place ∷ [])) (insert m place f) ≡ residents_at (s ∷ seats) m ++ (place, (record { name = name; query = f.query })) ∷ [])
    (λ t. let never : true ≡ false = rw t at none in cc)
    (λ apart.
    let here = other-query m place f s.place (turned place s.place apart) in
    let rest = residents-posted seats m name place f (rw apart at none) in
    λ i. resident s (here i) ∷ rest i)

-- ---- a place that is free

module _ (content : StoresRecord) (rows : List RowRecord) (stores : AreStores content rows) (place : ℕ) (free : get content.grounded place ≡ None) where
  pub free-resident : is_member nat_eq (places_of (residents_of content)) place ≡ false
  free-resident = map_free (λ q. found rows q.query) content.grounded (residents_of content) stores.stand place free

  pub free-seat : is_taken_place place content.seats ≡ false
  free-seat = subst (λ (places : List ℕ). is_member nat_eq places place ≡ false) (places-seated content.seats content.grounded) free-resident

  pub free-node : has_node place content.matcher ≡ false
  free-node = graph_has (able_over rows) (residents_of content) content.matcher.nodes content.matcher.edges stores.graph place ∙ free-resident

  pub free-links : get content.links place ≡ None
  free-links = stores.linked place ∙ ap (option_map (λ q. ends_of q.query)) (lookup-free (residents_of content) place free-resident)

  distinct : IsDistinct nat_eq (places_of (residents_of content))
  distinct = subst (λ (places : List ℕ). IsDistinct nat_eq places) (sym (places-seated content.seats content.grounded)) stores.roster.places

  module _ (name : List ℕ) (query : QueryRecord) where
    abbrev newcomer : Resident
    newcomer = (place, (record { name = name; query = query }))

    abbrev linked-with : LinkMap
    linked-with = insert content.links place (ends_of query)

    ends-posted : (p : ℕ) → get linked-with p ≡ option_map (λ q. ends_of q.query) (lookup (nat_eq p) (residents_of content ++ newcomer ∷ []))
    ends-posted p = map_posted (λ q. ends_of q.query) content.links (residents_of content) stores.linked newcomer free-resident p

    heads-read : (o : Option PendingQuery) → option_map_or (λ (ends : Ends). ends.heads) (option_map (λ q. ends_of q.query) o) [] ≡ option_map_or (λ q. q.query.heads) o []
    heads-read None = refl
    heads-read (Some q) = refl

    posts-read : (o : Option PendingQuery) → option_map_or (λ (ends : Ends). ends.posts) (option_map (λ q. ends_of q.query) o) [] ≡ option_map_or (λ q. q.query.posts) o []
    posts-read None = refl
    posts-read (Some q) = refl

    same-heads : (p : ℕ) → heads_at linked-with p ≡ heads_in (residents_of content ++ newcomer ∷ []) p
    same-heads p = ap (λ (o : Option Ends). option_map_or (λ ends. ends.heads) o []) (ends-posted p) ∙ heads-read (lookup (nat_eq p) (residents_of content ++ newcomer ∷ []))

    same-posts : (p : ℕ) → posts_at linked-with p ≡ posts_in (residents_of content ++ newcomer ∷ []) p
    same-posts p = ap (λ (o : Option Ends). option_map_or (λ ends. ends.posts) o []) (ends-posted p) ∙ posts-read (lookup (nat_eq p) (residents_of content ++ newcomer ∷ []))

    module _ (added : List Edge) (exact : (edge : Edge) → Contains added edge ↔ (IsLink linked-with edge × Touches place edge)) where
      exactly : (edge : Edge) → Contains added edge ↔ (IsLinked (heads_at linked-with) (posts_at linked-with) edge × ((edge.provider ≡ place) ⊎ (edge.waiter ≡ place)))
      exactly edge = (
        (λ c. let h = (exact edge).0 c in ((record { offered = h.0.offered; wanted = h.0.wanted; head = h.0.head; post = h.0.post; unify = h.0.unify }), h.1)),
        (λ h. (exact edge).1 ((record { offered = h.0.offered; wanted = h.0.wanted; head = h.0.head; post = h.0.post; unify = h.0.unify }), h.1)),
      )

      pub posted-ends : All (λ (edge : Edge). Contains (numbers ((place, length query.posts, able_over rows newcomer) ∷ content.matcher.nodes)) edge.provider × Any (λ (node : ℕ × ℕ × Bool). (node.0 ≡ edge.waiter) × (edge.post < node.1)) ((place, length query.posts, able_over rows newcomer) ∷ content.matcher.nodes)) added
      posted-ends = linked_ends (able_over rows) (residents_of content) content.matcher.nodes content.matcher.edges stores.graph newcomer distinct free-node (heads_at linked-with) (posts_at linked-with) same-heads same-posts added exactly

      pub posted-touch : All (λ (edge : Edge). is_apart place edge ≡ false) added
      posted-touch = linked_touch (able_over rows) (residents_of content) content.matcher.nodes content.matcher.edges stores.graph newcomer distinct free-node (heads_at linked-with) (posts_at linked-with) same-heads same-posts added exactly

    -- what the stores hold after a posting
    abbrev pub posted : MatcherRecord → StoresRecord
    posted after = record { seats = content.seats ++ seat_of name place ∷ []; grounded = insert content.grounded place (found rows query); links = linked-with; matcher = after }

    pub posted-stores : (name-free : place_named name content.seats ≡ None) (after : MatcherRecord) → with_number place after.nodes ≡ (place, length query.posts, able_over rows newcomer) ∷ [] → without place after.nodes ≡ content.matcher.nodes → AddsLinks linked-with place content.matcher.edges after.edges →
        ((n : ℕ) → is_member nat_eq after.matched n ≡ is_matched after.nodes after.edges n) → AreStores (posted after) rows
    posted-stores name-free after new old more matched =
        let residents = residents-posted content.seats content.grounded name place (found rows query) free-resident in
        record {
          roster = IsRoster-push name place content.seats stores.roster name-free free-seat;
          stand = (λ p. map_posted (λ q. found rows q.query) content.grounded (residents_of content) stores.stand newcomer free-resident p ∙ ap (λ (rs : List Resident). option_map (λ q. found rows q.query) (lookup (nat_eq p) rs)) (sym residents));
          linked = (λ p. ends-posted p ∙ ap (λ (rs : List Resident). option_map (λ q. ends_of q.query) (lookup (nat_eq p) rs)) (sym residents));
          graph = subst (λ (rs : List Resident). IsGraphOf (able_over rows) rs after.nodes after.edges) (sym residents)
              (graph_linked (able_over rows) (residents_of content) content.matcher.nodes content.matcher.edges stores.graph newcomer distinct free-node (heads_at linked-with) (posts_at linked-with) same-heads same-posts more.added (exactly more.added more.exact) more.once after.nodes after.edges new old more.counted);
          matched = matched;
        }

    pub posted-pending : (after : MatcherRecord) → pending_of (posted after) ≡ pending_of content ++ newcomer.1 ∷ []
    posted-pending after = ap queries_of (residents-posted content.seats content.grounded name place (found rows query) free-resident) ∙ queries_posted (residents_of content) newcomer

-- ---- what was done is taken back

module _ {E : Type 0} (m : FinMap nat_cmp E) (place : ℕ) (free : get m place ≡ None) where
  at-place : (p : ℕ) → nat_eq p place ≡ true → get m p ≡ None
  at-place p t = ap (get m) (eqb-true p place t) ∙ free

  pub remove-free : remove m place ≡ m
  remove-free = same_map nat_cmp_total nat_cmp-IsAntisymmetric (remove m place) m (λ p.
      get-remove nat_cmp_total m place p ∙ ap (λ (b : Bool). if b then None else get m p) (tie-eq p place)
      ∙ by_bool (nat_eq p place) ((if nat_eq p place then None else get m p) ≡ get m p) (λ t. rw t (sym (at-place p t))) (λ f. rw f refl))

  module _ (e : E) where
    pub get-inserted : get (insert m place e) place ≡ Some e
    get-inserted = get-insert nat_cmp_total m place e place ∙ ap (λ (b : Bool). if b then Some e else get m place) (tie-eq place place ∙ eq-eqb place place refl)

    pub remove-inserted : remove (insert m place e) place ≡ m
    remove-inserted = same_map nat_cmp_total nat_cmp-IsAntisymmetric (remove (insert m place e) place) m (λ p.
        get-remove nat_cmp_total (insert m place e) place p ∙ ap (λ (b : Bool). if b then None else get (insert m place e) p) (tie-eq p place)
        ∙ by_bool (nat_eq p place) ((if nat_eq p place then None else get (insert m place e) p) ≡ get m p)
        (λ t. rw t (sym (at-place p t)))
        (λ f. rw f (get-insert nat_cmp_total m place e p ∙ ap (λ (b : Bool). if b then Some e else get m p) (tie-eq p place ∙ f))))

pub grounding-inserted : (m : GroundedMap) (place : ℕ) → get m place ≡ None → (f : GroundedRecord) → has_grounding (insert m place f) place ≡ nat_lt 0 (length f.groundings)
grounding-inserted m place free f = ap (λ (o : Option GroundedRecord). option_map_or (λ x. nat_lt 0 (length x.groundings)) o false) (get-inserted m place free f)

pub seat-removed : (name : List ℕ) (place : ℕ) (seats : List SeatRecord) → place_named name seats ≡ None → without_name name (seats ++ seat_of name place ∷ []) ≡ seats
seat-removed name place [] e = let t = (bytes_eq-Decides name name).1 refl in rw t refl
seat-removed name place (s ∷ seats) e =
    by_bool (bytes_eq name s.name) (without_name name (s ∷ (seats ++ seat_of name place ∷ [])) ≡ s ∷ seats)
    (λ t. let no : Some s.place ≡ None = rw t at e in cc)
    (λ f. let rest = seat-removed name place seats (rw f at e) in rw f (ap (λ (l : List SeatRecord). s ∷ l) rest))

-- ---- a query that goes

pub none-withdrawn : (name : List ℕ) (seats : List SeatRecord) (m : GroundedMap) → place_named name seats ≡ None → filter (λ other. not (is_named name other)) (queries_of (residents_at seats m)) ≡ queries_of (residents_at seats m)
none-withdrawn name [] m e = refl
none-withdrawn name (s ∷ seats) m e =
    by_bool (bytes_eq name s.name) (filter (λ other. not (is_named name other)) (queries_of (residents_at (s ∷ seats) m)) ≡ queries_of (residents_at (s ∷ seats) m))
    (λ t. let no : Some s.place ≡ None = rw t at e in cc)
    (λ f. let rest = none-withdrawn name seats m (rw f at e) in rw f (ap (λ (l : List PendingQuery). (resident s (query_at m s.place)).1 ∷ l) rest))

pub none-without : (name : List ℕ) (seats : List SeatRecord) → place_named name seats ≡ None → without_name name seats ≡ seats
none-without name [] e = refl
none-without name (s ∷ seats) e =
    by_bool (bytes_eq name s.name) (without_name name (s ∷ seats) ≡ s ∷ seats)
    (λ t. let no : Some s.place ≡ None = rw t at e in cc)
    (λ f. let rest = none-without name seats (rw f at e) in rw f (ap (λ (l : List SeatRecord). s ∷ l) rest))

pub seat-In : (name : List ℕ) (seats : List SeatRecord) (k : ℕ) → place_named name seats ≡ Some k → (s : SeatRecord) × In s seats × (s.name ≡ name) × (s.place ≡ k)
seat-In name [] k e = cc
seat-In name (s ∷ seats) k e =
    by_bool (bytes_eq name s.name) ((x : SeatRecord) × In x (s ∷ seats) × (x.name ≡ name) × (x.place ≡ k))
    (λ t. let found : Some s.place ≡ Some k = rw t at e in let same : s.place ≡ k = cc in (s, inl refl, sym ((bytes_eq-Decides name s.name).0 t), same))
    (λ f. let more = seat-In name seats k (rw f at e) in (more.0, inr more.1, more.2, more.3))

pub residents-same : (seats : List SeatRecord) (m n : GroundedMap) → ((s : SeatRecord) → In s seats → query_at m s.place ≡ query_at n s.place) → residents_at seats m ≡ residents_at seats n
residents-same [] m n same = refl
residents-same (s ∷ seats) m n same =
    let here = same s (inl refl) in
    let rest = residents-same seats m n (λ x h. same x (inr h)) in
    λ i. resident s (here i) ∷ rest i

query-left : (m : GroundedMap) (place p : ℕ) → nat_eq p place ≡ false → query_at (remove m place) p ≡ query_at m p
query-left m place p apart =
    ap (λ (o : Option GroundedRecord). option_map_or (λ x. x.query) o no_query)
    (get-remove nat_cmp_total m place p ∙ ap (λ (b : Bool). if b then None else get m p) (tie-eq p place ∙ apart))

module _ (content : StoresRecord) (rows : List RowRecord) (stores : AreStores content rows) where
  module _ (name : List ℕ) (k : ℕ) (at : place_named name content.seats ≡ Some k) where
    abbrev pub seat_there : SeatRecord
    seat_there = (seat-In name content.seats k at).0

    abbrev pub leaver : Resident
    leaver = resident seat_there (query_at content.grounded seat_there.place)

    pub leaver-In : In leaver (residents_of content)
    leaver-In = In-map (λ (s : SeatRecord). resident s (query_at content.grounded s.place)) content.seats seat_there (seat-In name content.seats k at).1

    pub leaver-name : seat_there.name ≡ name
    leaver-name = (seat-In name content.seats k at).2

    pub leaver-place : seat_there.place ≡ k
    leaver-place = (seat-In name content.seats k at).3

    pub places-distinct : IsDistinct nat_eq (places_of (residents_of content))
    places-distinct = subst (λ (places : List ℕ). IsDistinct nat_eq places) (sym (places-seated content.seats content.grounded)) stores.roster.places

    pub names-distinct : IsDistinct bytes_eq (map name_of (pending_of content))
    names-distinct = subst (λ (names : List (List ℕ)). IsDistinct bytes_eq names) (sym (pending-named content.seats content.grounded)) stores.roster.names

    pub leaver-node : has_node k content.matcher ≡ true
    leaver-node =
        graph_has (able_over rows) (residents_of content) content.matcher.nodes content.matcher.edges stores.graph k
        ∙ any_has (nat_eq k) (places_of (residents_of content)) leaver.0 (In-map (λ (r : Resident). r.0) (residents_of content) leaver leaver-In) (eq-eqb k leaver.0 (sym leaver-place))

    leaver-lookup : lookup (nat_eq k) (residents_of content) ≡ Some leaver.1
    leaver-lookup = subst (λ (p : ℕ). lookup (nat_eq p) (residents_of content) ≡ Some leaver.1) leaver-place (In-lookup (residents_of content) places-distinct leaver leaver-In)

    pub leaver-found : IsSome (get content.grounded k)
    leaver-found = let e : get content.grounded k ≡ Some (found rows leaver.1.query) = stores.stand k ∙ ap (option_map (λ (q : PendingQuery). found rows q.query)) leaver-lookup in rw e refl

    others-left : all_but k (residents_of content) ≡ residents_at (without_name name content.seats) content.grounded
    others-left =
        ap (λ (p : ℕ). all_but p (residents_of content)) (sym leaver-place)
        ∙ residents_withdrawn (residents_of content) places-distinct leaver leaver-In names-distinct
        ∙ ap (λ (n : List ℕ). filter (λ (x : Resident). not (is_named n x.1)) (residents_of content)) leaver-name
        ∙ sym (filter-by_map (λ (s : SeatRecord). resident s (query_at content.grounded s.place)) (λ s. not (bytes_eq name s.name)) (λ x. not (is_named name x.1)) content.seats (λ s h. refl))

    seat-apart : (s : SeatRecord) → In s (without_name name content.seats) → nat_eq s.place k ≡ false
    seat-apart s h =
        let there = In-map (λ (x : SeatRecord). resident x (query_at content.grounded x.place)) (without_name name content.seats) s h in
        let kept : In (resident s (query_at content.grounded s.place)) (all_but k (residents_of content)) = subst (λ (rs : List Resident). In (resident s (query_at content.grounded s.place)) rs) (sym others-left) there in
        not-true (nat_eq s.place k) (In-filter_gives (λ (r : Resident). not (nat_eq r.0 k)) (residents_of content) (resident s (query_at content.grounded s.place)) kept)

    residents-left : residents_at (without_name name content.seats) (remove content.grounded k) ≡ all_but k (residents_of content)
    residents-left = residents-same (without_name name content.seats) (remove content.grounded k) content.grounded (λ s h. query-left content.grounded k s.place (seat-apart s h)) ∙ sym others-left

    -- what the stores hold after a withdrawal
    abbrev pub withdrawn : MatcherRecord → StoresRecord
    withdrawn after = record { seats = without_name name content.seats; grounded = remove content.grounded k; links = remove content.links k; matcher = after }

    pub withdrawn-stores : (after : MatcherRecord) → after.nodes ≡ without k content.matcher.nodes → after.edges ≡ filter (is_apart k) content.matcher.edges → ((n : ℕ) → is_member nat_eq after.matched n ≡ is_matched after.nodes after.edges n)
        → AreStores (withdrawn after) rows
    withdrawn-stores after nodes edges matched = record {
      roster = IsRoster-without name content.seats stores.roster;
      stand = (λ p. map_withdrawn (λ q. found rows q.query) content.grounded (residents_of content) stores.stand k p ∙ ap (λ (rs : List Resident). option_map (λ q. found rows q.query) (lookup (nat_eq p) rs)) (sym residents-left));
      linked = (λ p. map_withdrawn (λ q. ends_of q.query) content.links (residents_of content) stores.linked k p ∙ ap (λ (rs : List Resident). option_map (λ q. ends_of q.query) (lookup (nat_eq p) rs)) (sym residents-left));
      graph = subst (λ (rs : List Resident). IsGraphOf (able_over rows) rs after.nodes after.edges) (sym residents-left)
          (subst (λ (es : List Edge). IsGraphOf (able_over rows) (all_but k (residents_of content)) after.nodes es) (sym edges)
          (subst (λ (ns : List (ℕ × ℕ × Bool)). IsGraphOf (able_over rows) (all_but k (residents_of content)) ns (filter (is_apart k) content.matcher.edges)) (sym nodes)
          (graph_withdrawn (able_over rows) (residents_of content) content.matcher.nodes content.matcher.edges stores.graph k)));
      matched = matched;
    }

    pub withdrawn-pending : (after : MatcherRecord) → pending_of (withdrawn after) ≡ filter (λ other. not (is_named name other)) (pending_of content)
    withdrawn-pending after =
        ap queries_of residents-left ∙ ap (λ (p : ℕ). queries_of (all_but p (residents_of content))) (sym leaver-place)
        ∙ queries_withdrawn (residents_of content) places-distinct leaver leaver-In names-distinct
        ∙ ap (λ (n : List ℕ). filter (λ other. not (is_named n other)) (pending_of content)) leaver-name

-- ---- answers

pub on-err : {T F : Type 0} (r : Result T F) (P : Type 0) → P → OnErr r P
on-err (Ok x) P p = tt
on-err (Err e) P p = p

pub ok-map : {T F : Type 0} (r : Result T F) (P Q : Type 0) → OnOk r P → (P → Q) → OnOk r Q
ok-map (Ok x) P Q p f = f p
ok-map (Err e) P Q p f = tt

pub ok-six : {T F : Type 0} (r : Result T F) (A B C D E G Q : Type 0) → OnOk r A → OnOk r B → OnOk r C → OnOk r D → OnOk r E → OnOk r G → (A → B → C → D → E → G → Q) → OnOk r Q
ok-six (Ok x) A B C D E G Q a b c d e h f = f a b c d e h
ok-six (Err x) A B C D E G Q a b c d e h f = tt

pub err-three : {T F : Type 0} (r : Result T F) (A B C Q : Type 0) → OnErr r A → OnErr r B → OnErr r C → (A → B → C → Q) → OnErr r Q
err-three (Ok x) A B C Q a b c f = tt
err-three (Err x) A B C Q a b c f = f a b c

pub failed : {T F : Type 0} (r : Result T F) (Q : Type 0) → is_err r ≡ true → OnOk r Q
failed (Ok x) Q e = cc
failed (Err x) Q e = tt

pub succeeded : {T F : Type 0} (r : Result T F) (Q : Type 0) → is_err r ≡ false → OnErr r Q
succeeded (Ok x) Q e = tt
succeeded (Err x) Q e = cc

pub none-linked : (o : Option GroundedRecord) → option_map (λ f. f.query) o ≡ None → option_map (λ f. ends_of f.query) o ≡ None
none-linked None e = refl
none-linked (Some f) e = cc

-- what stores hold, by their parts
abbrev pub content_of : {A : Type 0} → Inside A → StoresRecord
content_of inside = record { seats = inside.roster; grounded = inside.grounded; links = inside.links; matcher = inside.matcher }

-- the stores hold the same where each of them does
pub same-content : (s t : StoresRecord) → s.seats ≡ t.seats → s.grounded ≡ t.grounded → s.links ≡ t.links → s.matcher ≡ t.matcher → s ≡ t
same-content s t seats grounded links matcher = λ i. record { seats = seats i; grounded = grounded i; links = links i; matcher = matcher i }

pub same-stores : {s t : StoresRecord} {rows : List RowRecord} → s ≡ t → AreStores t rows → AreStores s rows
same-stores {rows = rows} same are = subst (λ (x : StoresRecord). AreStores x rows) (sym same) are

pub taken-named : (name : List ℕ) (seats : List SeatRecord) (m : GroundedMap) → is_some (place_named name seats) ≡ is_taken name (queries_of (residents_at seats m))
taken-named name [] m = refl
taken-named name (s ∷ seats) m =
    by_bool (bytes_eq name s.name) (is_some (place_named name (s ∷ seats)) ≡ is_taken name (queries_of (residents_at (s ∷ seats) m)))
    (λ t. rw t refl)
    (λ f. rw f (taken-named name seats m))

pub on-ok : {T F : Type 0} (r : Result T F) (P : Type 0) → P → OnOk r P
on-ok (Ok x) P p = p
on-ok (Err e) P p = tt

pub ok-given : {T F : Type 0} (r : Result T F) (P : Type 0) → is_err r ≡ false → OnOk r P → P
ok-given (Ok x) P e p = p
ok-given (Err x) P e p = absurd (let never : true ≡ false = e in cc)

pub err-given : {T F : Type 0} (r : Result T F) (P : Type 0) → is_err r ≡ true → OnErr r P → P
err-given (Ok x) P e p = absurd (let never : false ≡ true = e in cc)
err-given (Err x) P e p = p
