-- The edges that lose a matched provider are as many in the stores as in the pools.
use Rattle.std.proofs.Common.{◌≡◌, ℕ, Bool, not, nat_eq, List, filter, map, sym, ap, subst, ◌∙◌, Some, None}
use Rattle.std.specs.List.{IsDistinct}
use Rattle.std.specs.Set.{is_member}
use Rattle.std.specs.Str.{bytes_eq}
use Rattle.cq_rel.specs.Tables.{TablesRecord}
use Rattle.cq_roster.specs.Roster.{SeatRecord, IsRoster, place_named}
use Rattle.cq_grounded.specs.Grounded.{GroundedMap}
use Rattle.cq_links.specs.Links.{LinkMap}
use Rattle.cq_atom.specs.declared.edge.Edge.{Edge}
use Rattle.cq_match.specs.Matched.{is_matched}
use Rattle.cq_match.specs.Matcher as matcher
use Rattle.cq_match.specs.Matcher.{MatcherRecord, without, is_apart}
use Rattle.cq_atom.specs.declared.edit.EditKind.TheVariants.{Withdraw}
use Rattle.cq_board.specs.declared.limits.Limits.{Limits}
use Rattle.cq_board.specs.Pool.{PendingQuery, PoolRecord, name_of}
use Rattle.cq_board.specs.Edits.{is_named, edited}
use Rattle.cq_board.specs.Board.{is_able, is_matched_at}
use Rattle.cq_board.specs.Work.{is_matched_under, lost}
use Rattle.cq_board.specs.Steps.Residents.{Resident, places_of, queries_of, place_at, all_but, IsGraphOf}
use Rattle.cq_board.specs.Steps.Stores.{residents_at, residents_of, pending_of, able_over, StoresRecord, AreStores}
use Rattle.cq_board.proofs.Members.{In}
use Rattle.cq_board.proofs.Graphs.{graph_matched_at}
use Rattle.cq_board.proofs.KeptIn.{pool_of}
use Rattle.cq_board.proofs.Placed.{queries_withdrawn}
use Rattle.cq_board.proofs.Upkeep.{graph_withdrawn}
use Rattle.cq_board.proofs.Calling.{matched_there, matched_left, lost_counted}
use Rattle.cq_board.proofs.Flags.{lost-none}
use Rattle.cq_board.proofs.Stored as stored

-- seats have places and names of their own, and so have their residents
own-places : (seats : List SeatRecord) (m : GroundedMap) → IsRoster seats → IsDistinct nat_eq (places_of (residents_at seats m))
own-places seats m roster = subst (λ (places : List ℕ). IsDistinct nat_eq places) (sym (stored.places-seated seats m)) roster.places

own-names : (seats : List SeatRecord) (m : GroundedMap) → IsRoster seats → IsDistinct bytes_eq (map name_of (queries_of (residents_at seats m)))
own-names seats m roster = subst (λ (names : List (List ℕ)). IsDistinct bytes_eq names) (sym (stored.pending-named seats m)) roster.names

module _ (pool : PoolRecord) (content : StoresRecord) (stores : AreStores content pool.tables.rows) where
  abbrev residents : List Resident
  residents = residents_of content

  abbrev before : PoolRecord
  before = record pool { pending = pending_of content }

  distinct : IsDistinct nat_eq (places_of residents)
  distinct = own-places content.seats content.grounded stores.roster

  -- those that lose a provider, where it is known in the later pool who is matched
  lost-named : (after : MatcherRecord) (later : PoolRecord) → ((x : Resident) → In x residents → is_member nat_eq after.matched x.0 ≡ is_matched_under x.1.name later) → matcher.lost content.matcher after ≡ lost before later
  lost-named after later named =
      lost_counted (is_able pool.tables.rows) residents distinct content.matcher.nodes content.matcher.edges stores.graph
      (λ n. is_member nat_eq content.matcher.matched n) (is_matched_at before) (λ i low. stores.matched (place_at residents i) ∙ graph_matched_at pool residents distinct content.matcher.nodes content.matcher.edges stores.graph i low)
      (λ n. is_member nat_eq after.matched n) (λ n. is_matched_under n later) named

  -- where all stays, no edge loses a provider
  lost-stayed : lost before before ≡ 0
  lost-stayed =
      sym (lost-named content.matcher before (λ x h. stores.matched x.0 ∙ matched_there residents distinct (own-names content.seats content.grounded stores.roster) before content.matcher.nodes content.matcher.edges stores.graph x h))
      ∙ lost-none content.matcher

  -- and so where a name goes that nobody has
  pub lost-nobody : (name : List ℕ) → place_named name content.seats ≡ None → pending_of content ≡ pool.pending → lost pool (edited pool (Withdraw name)) ≡ 0
  lost-nobody name none same =
      subst (λ (pending : List PendingQuery). let now : PoolRecord = record pool { pending = pending } in lost now (edited now (Withdraw name)) ≡ 0) same
      (ap (λ (pending : List PendingQuery). lost before (record pool { pending = pending })) (stored.none-withdrawn name content.seats content.grounded none) ∙ lost-stayed)

  -- ---- a query that goes

  module _ (name : List ℕ) (k : ℕ) (at : place_named name content.seats ≡ Some k) where
    abbrev leaver : Resident
    leaver = stored.leaver content pool.tables.rows stores name k at

    left : queries_of (all_but leaver.0 residents) ≡ filter (λ other. not (is_named name other)) (pending_of content)
    left =
        queries_withdrawn residents distinct leaver (stored.leaver-In content pool.tables.rows stores name k at) (own-names content.seats content.grounded stores.roster)
        ∙ ap (λ (n : List ℕ). filter (λ other. not (is_named n other)) (pending_of content)) (stored.leaver-name content pool.tables.rows stores name k at)

    module _ (after : MatcherRecord) (nodes : after.nodes ≡ without k content.matcher.nodes) (edges : after.edges ≡ filter (is_apart k) content.matcher.edges) (matched : (n : ℕ) → is_member nat_eq after.matched n ≡ is_matched after.nodes after.edges n) where
      graph-left : IsGraphOf (able_over pool.tables.rows) (all_but leaver.0 residents) after.nodes after.edges
      graph-left =
          let able = able_over pool.tables.rows in
          subst (λ (p : ℕ). IsGraphOf able (all_but p residents) after.nodes after.edges) (sym (stored.leaver-place content pool.tables.rows stores name k at))
          (subst (λ (es : List Edge). IsGraphOf able (all_but k residents) after.nodes es) (sym edges)
          (subst (λ (ns : List (ℕ × ℕ × Bool)). IsGraphOf able (all_but k residents) ns (filter (is_apart k) content.matcher.edges)) (sym nodes)
          (graph_withdrawn able residents content.matcher.nodes content.matcher.edges stores.graph k)))

      left-named : (x : Resident) → In x residents → is_member nat_eq after.matched x.0 ≡ is_matched_under x.1.name (edited before (Withdraw name))
      left-named x h =
          matched x.0
          ∙ matched_left residents distinct (own-names content.seats content.grounded stores.roster) leaver (stored.leaver-In content pool.tables.rows stores name k at) pool after.nodes after.edges graph-left x h
          ∙ ap (λ (pending : List PendingQuery). is_matched_under x.1.name (record pool { pending = pending })) left

      lost-left : matcher.lost content.matcher after ≡ lost before (edited before (Withdraw name))
      lost-left = lost-named after (edited before (Withdraw name)) left-named

      -- in the pool of these queries
      pub lost-kept : pending_of content ≡ pool.pending → matcher.lost content.matcher after ≡ lost pool (edited pool (Withdraw name))
      lost-kept same = lost-left ∙ ap (λ (pending : List PendingQuery). let now : PoolRecord = record pool { pending = pending } in lost now (edited now (Withdraw name))) same

-- ---- rows that come or go

module _ (limits : Limits) (tables tables' : TablesRecord) (s t : StoresRecord) where
  -- Who is matched may differ, and the residents do not.
  pub lost-brought : AreStores s tables.rows → AreStores t tables'.rows → residents_of t ≡ residents_of s → matcher.lost s.matcher t.matcher ≡ lost (pool_of limits tables (pending_of s)) (pool_of limits tables' (pending_of t))
  lost-brought before later same =
      let residents = residents_of s in
      let pool = pool_of limits tables (pending_of s) in
      let pool' = pool_of limits tables' (pending_of t) in
      let after = t.matcher in
      let graph' : IsGraphOf (able_over tables'.rows) residents after.nodes after.edges = subst (λ (rs : List Resident). IsGraphOf (able_over tables'.rows) rs after.nodes after.edges) same later.graph in
      lost-named pool s before after pool'
      (λ x h. later.matched x.0
      ∙ matched_there residents (own-places s.seats s.grounded before.roster) (own-names s.seats s.grounded before.roster) pool' after.nodes after.edges graph' x h
      ∙ ap (λ (rs : List Resident). is_matched_under x.1.name (pool_of limits tables' (queries_of rs))) (sym same))
