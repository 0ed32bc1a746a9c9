use Rattle.std.proofs.Common.{◌≡◌, ℕ, nat_eq, [], ◌∷◌, ◌++◌, is_some, Bool, false, length, refl, sym, ap, subst, ◌∙◌}
use Rattle.std.specs.FinMap as map
use Rattle.cq_grounded.specs.Grounded.{GroundedMap, found}
use Rattle.cq_links.specs.Links.{LinkMap, ends_of, candidate_pairs}
use Rattle.std.specs.Set.{is_member}
use Rattle.cq_match.specs.Matched.{is_matched}
use Rattle.cq_match.specs.Matcher.{without, with_number}
use Rattle.cq_roster.specs.Roster.{seat_of}
use Rattle.cq_board.specs.Pool.{PendingQuery}
use Rattle.cq_board.specs.Board.{is_able}
use Rattle.cq_board.specs.Edits.{is_taken}
use Rattle.cq_board.specs.Steps.Flags.{has_grounding}
use Rattle.cq_board.specs.Steps.Stores.{StoresRecord, pending_of, AreStores, AddsLinks}
use Rattle.cq_board.specs.Work.{candidates, raised}
use Rattle.cq_board.proofs.WorkStores.{pairs-kept}
use Rattle.cq_board.proofs.Stored.{named-taken, get-inserted, remove-inserted, ok-map, ok-six, err-three, on-ok, on-err, failed, succeeded, content_of, posted, posted-stores, posted-pending, same-content, same-stores, grounding-inserted}
use Rattle.cq_board.proofs.stores.Stores.post.Goals as goal

pub link-linked-requires-clause-absent : goal.link-linked-requires-clause-absent
link-linked-requires-clause-absent g c =
    named-taken c.args.name.now c.self.inside.roster c.self.inside.grounded (subst (λ (s : StoresRecord). is_taken c.args.name.now (pending_of s) ≡ false) (sym c.self.view_is) c.requires.absent)

pub link-linked-requires-clause-stores : goal.link-linked-requires-clause-stores
link-linked-requires-clause-stores g c = (
  c.args.tables.now.rows,
  c.self.inside.grounded,
  same-stores c.self.view_is c.requires.stores,
  c.in_ok-place.ensures.free,
  c.has_grounding-able.ensures ∙ ap (λ (m : GroundedMap). has_grounding m c.in_ok-place.place) c.in_ok-place.ensures.ok
      ∙ grounding-inserted c.self.inside.grounded c.in_ok-place.place c.in_ok-place.ensures.free (found c.args.tables.now.rows c.args.query.now),
)

pub remove-requires : goal.remove-requires
remove-requires g c =
    ap is_some (ap (λ (m : GroundedMap). map.get m c.in_ok-place.place) c.in_ok-place.ensures.ok
    ∙ get-inserted c.self.inside.grounded c.in_ok-place.place c.in_ok-place.ensures.free (found c.args.tables.now.rows c.args.query.now))

pub returns-then-is_err-clause-err : goal.returns-then-is_err-clause-err
returns-then-is_err-clause-err g c =
    let old = content_of c.self.inside in
    let new : StoresRecord = record { seats = c.link-linked.new.roster; grounded = c.remove.new.self; links = c.link-linked.new.links; matcher = c.link-linked.new.matcher } in
    let grounded : new.grounded ≡ old.grounded =
    c.remove.ensures ∙ ap (λ (m : GroundedMap). map.remove m c.in_ok-place.place) c.in_ok-place.ensures.ok
    ∙ remove-inserted old.grounded c.in_ok-place.place c.in_ok-place.ensures.free (found c.args.tables.now.rows c.args.query.now) in
    err-three c.link-linked.result (new.seats ≡ old.seats) (new.links ≡ old.links) (new.matcher ≡ old.matcher) (new ≡ c.args.self.now)
    c.link-linked.ensures.err_roster c.link-linked.ensures.err_links c.link-linked.ensures.err_matcher
    (λ seats links matcher. same-content new old seats grounded links matcher ∙ c.self.view_is)

pub returns-else-is_err-clause-stores : goal.returns-else-is_err-clause-stores
returns-else-is_err-clause-stores g c =
    let old = content_of c.self.inside in
    let kept = same-stores c.self.view_is c.requires.stores in
    let place = c.in_ok-place.place in
    let after = c.link-linked.new.matcher in
    let rows = c.args.tables.now.rows in
    let name = c.args.name.now in
    let query = c.args.query.now in
    let new : StoresRecord = record { seats = c.link-linked.new.roster; grounded = c.add.new.self; links = c.link-linked.new.links; matcher = after } in
    let able : c.has_grounding-able.result ≡ is_able rows (record { name = name; query = query }) =
    c.has_grounding-able.ensures ∙ ap (λ (m : GroundedMap). has_grounding m place) c.in_ok-place.ensures.ok
    ∙ grounding-inserted old.grounded place c.in_ok-place.ensures.free (found rows query) in
    let absent = named-taken name old.seats old.grounded (subst (λ (s : StoresRecord). is_taken name (pending_of s) ≡ false) (sym c.self.view_is) c.requires.absent) in
    ok-six c.link-linked.result
    (new.seats ≡ old.seats ++ seat_of name place ∷ [])
    (new.links ≡ map.insert old.links place (ends_of query))
    (with_number place after.nodes ≡ (place, length query.posts, c.has_grounding-able.result) ∷ [])
    (without place after.nodes ≡ old.matcher.nodes)
    (AddsLinks new.links place old.matcher.edges after.edges)
    ((n : ℕ) → is_member nat_eq after.matched n ≡ is_matched after.nodes after.edges n)
    (AreStores new rows)
    c.link-linked.ensures.seated c.link-linked.ensures.linked c.link-linked.ensures.node c.link-linked.ensures.others c.link-linked.ensures.edges c.link-linked.ensures.matched
    (λ seated linked node others edges matched.
    same-stores (same-content new (posted old rows kept place c.in_ok-place.ensures.free name query after) seated c.in_ok-place.ensures.ok linked refl)
    (posted-stores old rows kept place c.in_ok-place.ensures.free name query absent after
    (node ∙ ap (λ (b : Bool). (place, length query.posts, b) ∷ []) able) others
    (subst (λ (l : LinkMap). AddsLinks l place old.matcher.edges after.edges) linked edges) matched))

pub returns-else-is_err-clause-posted : goal.returns-else-is_err-clause-posted
returns-else-is_err-clause-posted g c =
    let old = content_of c.self.inside in
    let kept = same-stores c.self.view_is c.requires.stores in
    let place = c.in_ok-place.place in
    let name = c.args.name.now in
    let query = c.args.query.now in
    let after = c.link-linked.new.matcher in
    let new : StoresRecord = record { seats = c.link-linked.new.roster; grounded = c.add.new.self; links = c.link-linked.new.links; matcher = after } in
    let newcomer : PendingQuery = record { name = name; query = query } in
    let made : StoresRecord = record { seats = old.seats ++ seat_of name place ∷ []; grounded = map.insert old.grounded place (found c.args.tables.now.rows query); links = new.links; matcher = after } in
    ok-map c.link-linked.result
    (new.seats ≡ old.seats ++ seat_of name place ∷ [])
    (pending_of new ≡ pending_of c.args.self.now ++ newcomer ∷ [])
    c.link-linked.ensures.seated
    (λ seated.
    ap pending_of (same-content new made seated c.in_ok-place.ensures.ok refl refl)
    ∙ posted-pending old c.args.tables.now.rows kept place c.in_ok-place.ensures.free name query after
    ∙ ap (λ (s : StoresRecord). pending_of s ++ newcomer ∷ []) c.self.view_is)

pub returns-else-is_err-clause-tests : goal.returns-else-is_err-clause-tests
returns-else-is_err-clause-tests g c =
    let old = content_of c.self.inside in
    let kept = same-stores c.self.view_is c.requires.stores in
    let place = c.in_ok-place.place in
    let query = c.args.query.now in
    let before = c.args.work.now.tests in
    ok-map c.link-linked.result
    (c.link-linked.new.tests ≡ raised before (candidate_pairs old.links place (ends_of query)))
    (c.link-linked.new.tests ≡ raised before (candidates (pending_of c.args.self.now) query))
    c.link-linked.ensures.ticks
    (λ is. is
    ∙ ap (raised before) (pairs-kept old c.args.tables.now.rows kept place c.in_ok-place.ensures.free c.args.name.now query ∙ ap (λ (s : StoresRecord). candidates (pending_of s) query) c.self.view_is))

pub returns-in_err-place-clause-stores : goal.returns-in_err-place-clause-stores
returns-in_err-place-clause-stores g c = failed c.from_residual.result _ c.from_residual.ensures.0

pub returns-in_err-place-clause-posted : goal.returns-in_err-place-clause-posted
returns-in_err-place-clause-posted g c = failed c.from_residual.result _ c.from_residual.ensures.0

pub returns-in_err-place-clause-err : goal.returns-in_err-place-clause-err
returns-in_err-place-clause-err g c =
    let old = content_of c.self.inside in
    let new : StoresRecord = record { seats = old.seats; grounded = c.add.new.self; links = old.links; matcher = old.matcher } in
    on-err c.from_residual.result (new ≡ c.args.self.now) (same-content new old refl c.in_err-place.ensures.err refl refl ∙ c.self.view_is)

pub returns-in_err-place-clause-tests : goal.returns-in_err-place-clause-tests
returns-in_err-place-clause-tests g c = failed c.from_residual.result _ c.from_residual.ensures.0

pub returns-in_err-place-clause-visits : goal.returns-in_err-place-clause-visits
returns-in_err-place-clause-visits g c = failed c.from_residual.result _ c.from_residual.ensures.0

pub returns-then-is_err-clause-stores : goal.returns-then-is_err-clause-stores
returns-then-is_err-clause-stores g c = failed c.link-linked.result _ (sym c.is_err.ensures.value ∙ c.if-is_err.true)

pub returns-then-is_err-clause-posted : goal.returns-then-is_err-clause-posted
returns-then-is_err-clause-posted g c = failed c.link-linked.result _ (sym c.is_err.ensures.value ∙ c.if-is_err.true)

pub returns-then-is_err-clause-tests : goal.returns-then-is_err-clause-tests
returns-then-is_err-clause-tests g c = failed c.link-linked.result _ (sym c.is_err.ensures.value ∙ c.if-is_err.true)

pub returns-then-is_err-clause-visits : goal.returns-then-is_err-clause-visits
returns-then-is_err-clause-visits g c = failed c.link-linked.result _ (sym c.is_err.ensures.value ∙ c.if-is_err.true)

pub returns-else-is_err-clause-err : goal.returns-else-is_err-clause-err
returns-else-is_err-clause-err g c = succeeded c.link-linked.result _ (sym c.is_err.ensures.value ∙ c.if-is_err.false)

pub returns-else-is_err-clause-visits : goal.returns-else-is_err-clause-visits
returns-else-is_err-clause-visits g c = on-ok c.link-linked.result _ c.in_ok-place.ensures.ticks
