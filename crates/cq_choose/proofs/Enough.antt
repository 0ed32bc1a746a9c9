-- Where something is chosen for given names, something is that leaves out whoever serves none of those who are concerned.
use Rattle.std.proofs.Common.{◌≡◌, ℕ, ◌+◌, inl, Bool, true, false, not, ◌&&◌, List, [], ◌∷◌, map, refl, sym, ap, subst, ◌∙◌, arith, Option, Some, bytes_eq}
use Rattle.std.specs.Prelude.{filter, option_map, unwrap_or}
use Rattle.std.specs.List.{All, Any, Contains, IsDistinct, enumerate_from, flat_map, slice_get}
use Rattle.std.proofs.lemmas.Map.Keys.{IsDistinct-head, IsDistinct-tail, IsDistinct-cons}
use Rattle.std.proofs.lemmas.Option.{same_Some}
use Rattle.cq_atom.specs.declared.edge.Edge.{Edge}
use Rattle.cq_atom.specs.Atom.{AtomRecord}
use Rattle.cq_atom.specs.Query.{QueryRecord}
use Rattle.cq_atom.specs.Valuation.{under}
use Rattle.cq_atom.specs.Unify.{Unify}
use Rattle.cq_board.specs.Pool.{PendingQuery, PoolRecord, IsPool}
use Rattle.cq_board.specs.Edges.{edge_if, edges_into, edges_of}
use Rattle.cq_board.specs.Board.{is_matched_at, name_at, place_of}
use Rattle.cq_board.specs.Named.{query_named, matched_named}
use Rattle.cq_board.specs.Choice.{ChoiceRecord, chosen_name, bound, awaited_by, offered_by, awaited, offered, IsGrounded}
use Rattle.cq_board.specs.Steps.Supply.{unifies}
use Rattle.cq_board.specs.Steps.Choices.{IsValid, AreValid, IsOfferedBy, HasHead, IsOffered, IsSupplied, IsServed, HasSuppliers, HaveSuppliers}
use Rattle.cq_board.proofs.CallerLemmas.{place_at, query_at}
use Rattle.cq_board.proofs.Agreement.{agreeing_unify}
use Rattle.cq_board.proofs.Coordination.{all_served}
use Rattle.cq_board.proofs.Law.{suppliers_matched}
use Rattle.cq_board.proofs.Searches.{unifies_tells}
use Rattle.cq_choose.specs.Choosing.{IsChoiceFor}
use Rattle.cq_choose.specs.Disagreement.IsConcerned.{Asked, Serving}
use Rattle.cq_choose.specs.Steps.Reach.{is_spare, told, IsKnown, IsTaken, IsEnough, IsExact}
use Rattle.cq_choose.proofs.Lists.{by_bool, In, In-Contains, Contains-In, All-In, In-All, Any-In, In-Any, each-In, In-each, In-at, at-In, In-map, In-map_gives, In-flat_map, In-flat_map_gives, In-filter, In-filter_gives, enumerate-has}
use Rattle.cq_choose.proofs.Offered.{named-at}

enumerate-at : {X : Type 0} (xs : List X) (k : ℕ) (x : X) → slice_get xs k ≡ Some x → In (k, x) (enumerate_from 0 xs)
enumerate-at {X} xs k x here = let at : 0 + k ≡ k = omega arith in subst (λ (n : ℕ). In (n, x) (enumerate_from 0 xs)) at (enumerate-has 0 xs k x here)

-- a head that unifies with a postcondition makes an edge
pub edge-between : (pending : List PendingQuery) (i j k m : ℕ) (waiting offering : PendingQuery) (post head : AtomRecord)
    → slice_get pending i ≡ Some waiting → slice_get pending j ≡ Some offering → slice_get waiting.query.posts k ≡ Some post → slice_get offering.query.heads m ≡ Some head → Unify head post
    → In (record { provider = j; head = m; waiter = i; post = k }) (edges_of pending)
edge-between pending i j k m waiting offering post head at_i at_j at_k at_m u =
    let edge : Edge = record { provider = j; head = m; waiter = i; post = k } in
    let test : unifies head post ≡ true = (unifies_tells head post).1 u in
    let here : In edge (edge_if j (m, head) i (k, post)) = rw test (inl refl) in
    In-flat_map (λ w. flat_map (edges_into pending w.0) (enumerate_from 0 w.1.query.posts)) (enumerate_from 0 pending) (i, waiting) edge (enumerate-at pending i waiting at_i)
    (In-flat_map (edges_into pending i) (enumerate_from 0 waiting.query.posts) (k, post) edge (enumerate-at waiting.query.posts k post at_k)
    (In-flat_map (λ provider. flat_map (λ h. edge_if provider.0 h i (k, post)) (enumerate_from 0 provider.1.query.heads)) (enumerate_from 0 pending) (j, offering) edge (enumerate-at pending j offering at_j)
    (In-flat_map (λ h. edge_if j h i (k, post)) (enumerate_from 0 offering.query.heads) (m, head) edge (enumerate-at offering.query.heads m head at_m) here)))

distinct-nil : IsDistinct bytes_eq []
unfolding IsDistinct
distinct-nil = tt

distinct-filter : (p : ChoiceRecord → Bool) (choices : List ChoiceRecord) → IsDistinct bytes_eq (map chosen_name choices) → IsDistinct bytes_eq (map chosen_name (filter p choices))
distinct-filter p [] d = distinct-nil
distinct-filter p (c ∷ choices) d =
    let apart = IsDistinct-head bytes_eq c.name (map chosen_name choices) d in
    let rest = distinct-filter p choices (IsDistinct-tail bytes_eq c.name (map chosen_name choices) d) in
    by_bool (p c) (IsDistinct bytes_eq (map chosen_name (filter p (c ∷ choices))))
    (λ t. rw t (IsDistinct-cons bytes_eq c.name (map chosen_name (filter p choices))
    (each-In (λ (y : List ℕ). bytes_eq c.name y ≡ false) (map chosen_name (filter p choices))
    (λ y h. let d = In-map_gives chosen_name (filter p choices) y h in
    let among = In-filter_gives p choices d.0 d.1 in
    subst (λ (n : List ℕ). bytes_eq c.name n ≡ false) (sym d.2) (In-each (λ (z : List ℕ). bytes_eq c.name z ≡ false) (map chosen_name choices) apart d.0.name (In-map chosen_name choices d.0 among.0))))
    rest))
    (λ f. rw f rest)

pub valid-terms : (atoms : List AtomRecord) → All (λ a. All IsValid a.terms) atoms → (atom : AtomRecord) → In atom atoms → AreValid atom.terms
valid-terms atoms all atom h = each-In IsValid atom.terms (In-All IsValid atom.terms (In-All (λ (a : AtomRecord). All IsValid a.terms) atoms all atom h))

pub both-true : (a b : Bool) → a ≡ true → b ≡ true → a && b ≡ true
both-true a b h k = rw (h, k) refl

pub not-true : (b : Bool) → not b ≡ true → b ≡ false
not-true true e = cc
not-true false e = refl

module _ (pool : PoolRecord) (good : IsPool pool) (names : List (List ℕ)) (spare : List Bool) (exact : IsExact pool names spare) where
  -- where the query of a choice stands
  pub record Found (c : ChoiceRecord) : Type 0 where
    pub place : ℕ
    pub posted : PendingQuery
    pub here : slice_get pool.pending place ≡ Some posted
    pub name : posted.name ≡ c.name
    pub at : place_of c.name pool.pending ≡ Some place
    pub query : query_named c.name pool.pending ≡ Some posted.query

  pub found : (c : ChoiceRecord) → IsGrounded pool c → Found c
  found c is =
      let f = named-at c.name pool.pending is.query is.pending in
      let place = f.0 in let posted = f.1 in
      record {
        place = place;
        posted = posted;
        here = f.2;
        name = f.3;
        at = ap (λ (n : List ℕ). place_of n pool.pending) (sym f.3) ∙ place_at pool good place posted f.2;
        query = ap (λ (n : List ℕ). query_named n pool.pending) (sym f.3) ∙ query_at pool good place posted f.2;
      }

  known-at : (c : ChoiceRecord) (f : Found c) → IsKnown f.posted.query
  known-at c f = In-All (λ (p : PendingQuery). IsKnown p.query) pool.pending exact.known f.posted (In-at pool.pending f.place f.posted f.here)

  module _ (choices : List ChoiceRecord) (is : IsChoiceFor pool names choices) where
    grounded : (c : ChoiceRecord) → In c choices → IsGrounded pool c
    grounded = In-All (IsGrounded pool) choices is.coordinating.grounded

    -- who serves a postcondition of a member
    record Server (c : ChoiceRecord) (f : Found c) (post : AtomRecord) : Type 0 where
      pub choice : ChoiceRecord
      pub among : In choice choices
      pub by : Found choice
      pub head : AtomRecord
      pub has : In head by.posted.query.heads
      pub same : under (bound by.posted.query choice.values) head ≡ under (bound f.posted.query c.values) post

    server : (c : ChoiceRecord) → In c choices → (f : Found c) (post : AtomRecord) → In post f.posted.query.posts → Server c f post
    server c m f post h =
        let atom = under (bound f.posted.query c.values) post in
        let all = In-All (λ d. IsServed pool.pending choices (query_named d.name pool.pending) d.values) choices (all_served pool.pending choices is.coordinating.served) c m in
        let own : All (λ p. IsOffered pool.pending choices (under (bound f.posted.query c.values) p)) f.posted.query.posts = subst (λ (q : Option QueryRecord). IsServed pool.pending choices q c.values) f.query all in
        let any = In-All (λ p. IsOffered pool.pending choices (under (bound f.posted.query c.values) p)) f.posted.query.posts own post h in
        let d = In-Any (λ d. IsOfferedBy (query_named d.name pool.pending) d.values atom) choices any in
        let by = found d.0 (grounded d.0 d.1) in
        let heads : Any (λ head. under (bound by.posted.query d.0.values) head ≡ atom) by.posted.query.heads = subst (λ (q : Option QueryRecord). IsOfferedBy q d.0.values atom) by.query d.2 in
        let head = In-Any (λ head. under (bound by.posted.query d.0.values) head ≡ atom) by.posted.query.heads heads in
        record { choice = d.0; among = d.1; by = by; head = head.0; has = head.1; same = head.2 }

    server-unifies : (c : ChoiceRecord) (f : Found c) (post : AtomRecord) → In post f.posted.query.posts → (s : Server c f post) → Unify s.head post
    server-unifies c f post h s =
        agreeing_unify (bound s.by.posted.query s.choice.values) (bound f.posted.query c.values) s.head post s.same
        (valid-terms s.by.posted.query.heads (known-at s.choice s.by).heads s.head s.has) (valid-terms f.posted.query.posts (known-at c f).posts post h)

    suppliers : HaveSuppliers pool.pending choices
    suppliers =
        All-In (λ c. HasSuppliers pool.pending choices (query_named c.name pool.pending)) choices
        (λ c m. let f = found c (grounded c m) in
        subst (HasSuppliers pool.pending choices) (sym f.query)
        (All-In (IsSupplied pool.pending choices) f.posted.query.posts
        (λ post h. let s = server c m f post h in
        Any-In (λ d. HasHead (query_named d.name pool.pending) post) choices s.choice s.among
        (subst (λ (q : Option QueryRecord). HasHead q post) (sym s.by.query) (Any-In (λ head. Unify head post) s.by.posted.query.heads s.head s.has (server-unifies c f post h s))))))

    pub matched-all : (c : ChoiceRecord) → In c choices → matched_named c.name pool ≡ Some true
    matched-all = In-All (λ c. matched_named c.name pool ≡ Some true) choices (suppliers_matched pool choices suppliers is.coordinating.grounded)

    matched-place : (c : ChoiceRecord) → In c choices → (f : Found c) → is_matched_at pool f.place ≡ true
    matched-place c m f = same_Some (is_matched_at pool f.place) true (sym (ap (option_map (is_matched_at pool)) f.at) ∙ matched-all c m)

    -- ---- those that are taken

    abbrev keeps : ChoiceRecord → Bool
    keeps c = not (is_spare spare (unwrap_or (place_of c.name pool.pending) 0))

    abbrev pub kept : List ChoiceRecord
    kept = filter (λ c. not (is_spare spare (unwrap_or (place_of c.name pool.pending) 0))) choices

    keeps-found : (c : ChoiceRecord) (f : Found c) → keeps c ≡ true → is_spare spare f.place ≡ false
    keeps-found c f k = ap (λ (o : Option ℕ). is_spare spare (unwrap_or o 0)) (sym f.at) ∙ not-true (is_spare spare (unwrap_or (place_of c.name pool.pending) 0)) k

    found-keeps : (c : ChoiceRecord) (f : Found c) → is_spare spare f.place ≡ false → keeps c ≡ true
    found-keeps c f e = ap (λ (o : Option ℕ). not (is_spare spare (unwrap_or o 0))) f.at ∙ ap not e

    server-kept : (c : ChoiceRecord) (m : In c choices) (f : Found c) (post : AtomRecord) → In post f.posted.query.posts → (s : Server c f post) → keeps c ≡ true → In s.choice kept
    server-kept c m f post h s k =
        let spot = at-In f.posted.query.posts post h in
        let from = at-In s.by.posted.query.heads s.head s.has in
        let edge : Edge = record { provider = s.by.place; head = from.0; waiter = f.place; post = spot.0 } in
        let there = Contains-In (edges_of pool.pending) edge (edge-between pool.pending f.place s.by.place spot.0 from.0 f.posted s.by.posted post s.head f.here s.by.here spot.1 from.1 (server-unifies c f post h s)) in
        let own = exact.taken f.place (matched-place c m f) (keeps-found c f k) in
        In-filter keeps choices s.choice s.among (found-keeps s.choice s.by (exact.concerned s.by.place (Serving edge there own (matched-place s.choice s.among s.by))))

    kept-offers : (atom : AtomRecord) (d : ChoiceRecord) → In d kept → (by : Found d) (head : AtomRecord) → In head by.posted.query.heads → under (bound by.posted.query d.values) head ≡ atom
        → In atom (offered pool.pending kept)
    kept-offers atom d among by head has same =
        In-flat_map (λ (c : ChoiceRecord). offered_by (query_named c.name pool.pending) c.values) kept d atom among
        (subst (λ (q : Option QueryRecord). In atom (offered_by q d.values)) (sym by.query)
        (subst (λ (a : AtomRecord). In a (offered_by (Some by.posted.query) d.values)) same (In-map (under (bound by.posted.query d.values)) by.posted.query.heads head has)))

    kept-serves : (atom : AtomRecord) (c : ChoiceRecord) (m : In c choices) → keeps c ≡ true → (f : Found c) (post : AtomRecord) (h : In post f.posted.query.posts) → atom ≡ under (bound f.posted.query c.values) post
        → Server c f post → In atom (offered pool.pending kept)
    kept-serves atom c m k f post h is s = kept-offers atom s.choice (server-kept c m f post h s k) s.by s.head s.has (s.same ∙ sym is)

    kept-asked : (atom : AtomRecord) (c : ChoiceRecord) (m : In c choices) → keeps c ≡ true → (f : Found c) → In atom (awaited_by (Some f.posted.query) c.values) → In atom (offered pool.pending kept)
    kept-asked atom c m k f asked =
        let post = In-map_gives (under (bound f.posted.query c.values)) f.posted.query.posts atom asked in
        kept-serves atom c m k f post.0 post.1 post.2 (server c m f post.0 post.1)

    kept-served : (atom : AtomRecord) → In atom (awaited pool.pending kept) → In atom (offered pool.pending kept)
    kept-served atom h =
        let from = In-flat_map_gives (λ (c : ChoiceRecord). awaited_by (query_named c.name pool.pending) c.values) kept atom h in
        let among = In-filter_gives keeps choices from.0 from.1 in
        let f = found from.0 (grounded from.0 among.0) in
        kept-asked atom from.0 among.0 among.1 f (subst (λ (q : Option QueryRecord). In atom (awaited_by q from.0.values)) f.query from.2)

    kept-named : (name : List ℕ) → In name names → In name (map chosen_name kept)
    kept-named name h =
        let named = In-Contains (map chosen_name choices) name (In-All (Contains (map chosen_name choices)) names is.named name h) in
        let c = In-map_gives chosen_name choices name named in
        let f = found c.0 (grounded c.0 c.1) in
        let at : name_at pool.pending f.place ≡ Some name = ap (option_map (λ (p : PendingQuery). p.name)) f.here ∙ ap Some (f.name ∙ sym c.2) in
        let own = Asked f.place name at (Contains-In names name h) (matched-place c.0 c.1 f) in
        subst (λ (n : List ℕ). In n (map chosen_name kept)) (sym c.2)
        (In-map chosen_name kept c.0 (In-filter keeps choices c.0 c.1 (found-keeps c.0 f (exact.concerned f.place own))))

    kept-taken : (c : ChoiceRecord) → In c kept → IsTaken pool spare c
    kept-taken c h =
        let among = In-filter_gives keeps choices c h in
        let f = found c (grounded c among.0) in
        record {
          taken = λ place at.
              let same : f.place ≡ place = same_Some f.place place (sym f.at ∙ at) in
              both-true (told (matched_named c.name pool)) (not (is_spare spare place)) (ap told (matched-all c among.0)) (ap (λ (p : ℕ). not (is_spare spare p)) (sym same) ∙ ap not (keeps-found c f among.1));
        }

    pub kept-choice : IsChoiceFor pool names kept
    kept-choice = record {
      coordinating = record {
        distinct = distinct-filter keeps choices is.coordinating.distinct;
        grounded = All-In (IsGrounded pool) kept (λ c h. grounded c (In-filter_gives keeps choices c h).0);
        served = All-In (Contains (offered pool.pending kept)) (awaited pool.pending kept) (λ atom h. Contains-In (offered pool.pending kept) atom (kept-served atom h));
      };
      named = All-In (Contains (map chosen_name kept)) names (λ name h. Contains-In (map chosen_name kept) name (kept-named name h));
    }

    pub all-taken : All (IsTaken pool spare) kept
    all-taken = All-In (IsTaken pool spare) kept kept-taken

  pub enough : IsEnough pool names spare
  enough = λ choices is. (kept choices is, kept-choice choices is, all-taken choices is)
