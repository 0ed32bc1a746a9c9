-- What is told of queries that agree with none.
use Rattle.std.proofs.Common.{◌≡◌, ℕ, zero, suc, ◌+◌, ◌<◌, inl, inr, Bool, true, false, not, List, [], ◌∷◌, length, map, take, refl, sym, ap, subst, ◌∙◌, arith, Option, Some, None}
use Rattle.std.specs.Prelude.{if◌then◌else◌, nat_lt, option_map, IfSome}
use Rattle.std.specs.List.{All, Contains, list_any, slice_get}
use Rattle.std.specs.Option.{option_and_then}
use Rattle.std.proofs.lemmas.Option.{same_Some}
use Rattle.cq_atom.specs.declared.edge.Edge.{Edge}
use Rattle.cq_atom.specs.Value.{ValueContent}
use Rattle.cq_atom.specs.Atom.{AtomRecord}
use Rattle.cq_atom.specs.Query.{QueryRecord}
use Rattle.cq_atom.specs.Valuation.{under}
use Rattle.cq_atom.specs.Unify.{Unify}
use Rattle.cq_ground.specs.Grounding.{IsGrounding, groundings_of}
use Rattle.cq_ground.proofs.CallerLemmas.{listed-groundings}
use Rattle.cq_board.specs.Pool.{PendingQuery, PoolRecord, name_of, IsPool}
use Rattle.cq_board.specs.Edges.{edges_of}
use Rattle.cq_board.specs.Board.{is_able, is_matched_at, place_of}
use Rattle.cq_board.specs.Named.{query_named, matched_named, groundings_named}
use Rattle.cq_board.specs.Choice.{ChoiceRecord, chosen_name, bound, awaited_by, offered_by, awaited, offered, IsGrounded}
use Rattle.cq_board.proofs.CallerLemmas.{place_at, query_at, matched_at, groundings_at, name_at-names}
use Rattle.cq_board.proofs.Agreement.{agreeing_unify}
use Rattle.cq_choose.specs.declared.telling.Disagreement.{Disagreement}
use Rattle.cq_choose.specs.declared.keys.Good.TheVariants.{Atom}
use Rattle.cq_choose.specs.Choosing.{IsChoiceFor}
use Rattle.cq_choose.specs.Disagreement.{IsConcerned, IsOffered, awaited_named, AgreesWithNone, IsDisagreeing, IsFirstLacking, IsDisagreement}
use Rattle.cq_choose.specs.Disagreement.IsConcerned.{Serving}
use Rattle.cq_choose.specs.Steps.Goods.{GoodContent}
use Rattle.cq_choose.specs.Steps.Reach.{is_spare, told, IsKnown, is_taken, IsTaken, IsExact}
use Rattle.cq_choose.specs.Steps.Offers.{OfferRecord, offers_of, choice_of}
use Rattle.cq_choose.specs.Steps.Stocks.{stocked}
use Rattle.cq_choose.specs.Steps.Telling.{LackRecord, lack_of, is_known, lacking, has_all, agrees, first_lack, told_of, told_at, told_from}
use Rattle.cq_choose.proofs.Lists.{by_bool, In, In-Contains, Contains-In, All-In, In-All, In-at, at-In, In-map, In-map_gives, In-flat_map, In-flat_map_gives}
use Rattle.cq_choose.proofs.Offered.{at-mapped, mapped-at, named-at, offers-give, offers-taken, offer-pending, offer-grounded, grounded-offered}
use Rattle.cq_choose.proofs.Concerned.{and-left, and-right, any-gives, matched-stands, concerned-matched}
use Rattle.cq_choose.proofs.Enough.{matched-all, edge-between, valid-terms, both-true, not-true}
use Rattle.cq_choose.proofs.Selections.{offered-goods, goods-offered}
use Rattle.cq_choose.proofs.Lacks.{lacking-none, none-lacking, lacking-some, all-of, FirstLack, first-lack-some, first-lack-none, told-nobody, told-first}
use Rattle.cq_choose.proofs.Goods.{known-In, In-known, stocked-gives, stocked-has}

any-has : {X : Type 0} (p : X → Bool) (xs : List X) (x : X) → In x xs → p x ≡ true → list_any p xs ≡ true
any-has p [] x h t = absurd h
any-has p (y ∷ xs) x (inl e) t = let own : p y ≡ true = ap p (sym e) ∙ t in rw own refl
any-has p (y ∷ xs) x (inr h) t = by_bool (p y) (list_any p (y ∷ xs) ≡ true) (λ k. rw k refl) (λ f. rw f (any-has p xs x h t))

take-mapped : {X Y : Type 0} (f : X → Y) (k : ℕ) (xs : List X) → take k (map f xs) ≡ map f (take k xs)
take-mapped f zero xs = refl
take-mapped f (suc k) [] = refl
take-mapped {X} {Y} f (suc k) (x ∷ xs) = ap (λ (l : List Y). f x ∷ l) (take-mapped f k xs)

told-matched : (o : Option Bool) → told o ≡ true → o ≡ Some true
told-matched None h = let never : false ≡ true = h in cc
told-matched (Some b) h = ap Some h

-- ---- what is known is what is offered

module _ (pool : PoolRecord) (good : IsPool pool) (names : List (List ℕ)) (spare : List Bool) (exact : IsExact pool names spare) (offers : List OfferRecord) (are : offers ≡ offers_of pool spare)
    (goods : List GoodContent) (kept : goods ≡ (stocked offers).goods) where
  concerned-taken : (place : ℕ) (posted : PendingQuery) → slice_get pool.pending place ≡ Some posted → IsConcerned pool names place → is_taken pool spare place posted.name ≡ true
  concerned-taken place posted here c =
      both-true (told (matched_named posted.name pool)) (not (is_spare spare place)) (ap told (matched_at pool good place posted here) ∙ concerned-matched pool names place c) (ap not (exact.concerned place c))

  taken-concerned : (place : ℕ) (posted : PendingQuery) → slice_get pool.pending place ≡ Some posted → is_taken pool spare place posted.name ≡ true → IsConcerned pool names place
  taken-concerned place posted here t =
      let flag = told (matched_named posted.name pool) in
      exact.taken place (sym (ap told (matched_at pool good place posted here)) ∙ and-left flag (not (is_spare spare place)) t) (not-true (is_spare spare place) (and-right flag (not (is_spare spare place)) t))

  offer-offers : (atom : AtomRecord) (o : OfferRecord) → In o (offers_of pool spare) → In atom (offered_by (Some o.query) o.values) → IsOffered pool atom
  offer-offers atom o listed has =
      let is = offers-give pool good spare o listed in
      let flag = told (matched_named o.name pool) in
      record {
        choice = choice_of o;
        grounded = offer-grounded pool good spare o is;
        matched = told-matched (matched_named o.name pool) (and-left flag (not (is_spare spare o.place)) (offers-taken pool good spare o listed));
        offers = Contains-In (offered_by (query_named o.name pool.pending) o.values) atom (subst (λ (q : Option QueryRecord). In atom (offered_by q o.values)) (sym (offer-pending pool good spare o is)) has);
      }

  known-offered : (atom : AtomRecord) → In (Atom atom) goods → IsOffered pool atom
  known-offered atom k =
      let o = stocked-gives offers (Atom atom) (subst (In (Atom atom)) kept k) in
      offer-offers atom o.0 (subst (In o.0) are o.1) (goods-offered o.0 atom o.2)

  -- who offers an atom
  record Offering (atom : AtomRecord) (choice : ChoiceRecord) : Type 0 where
    pub place : ℕ
    pub posted : PendingQuery
    pub here : slice_get pool.pending place ≡ Some posted
    pub name : posted.name ≡ choice.name
    pub matched : is_matched_at pool place ≡ true
    pub head : AtomRecord
    pub has : In head posted.query.heads
    pub same : atom ≡ under (bound posted.query choice.values) head

  offering : (atom : AtomRecord) (o : IsOffered pool atom) → Offering atom o.choice
  offering atom o =
      let by = named-at o.choice.name pool.pending o.grounded.query o.grounded.pending in
      let named : query_named o.choice.name pool.pending ≡ Some by.1.query = o.grounded.pending ∙ ap Some (sym by.4) in
      let own : In atom (offered_by (Some by.1.query) o.choice.values) = subst (λ (q : Option QueryRecord). In atom (offered_by q o.choice.values)) named (In-Contains (offered_by (query_named o.choice.name pool.pending) o.choice.values) atom o.offers) in
      let head = In-map_gives (under (bound by.1.query o.choice.values)) by.1.query.heads atom own in
      record {
        place = by.0;
        posted = by.1;
        here = by.2;
        name = by.3;
        matched = same_Some (is_matched_at pool by.0) true (sym (matched_at pool good by.0 by.1 by.2) ∙ ap (λ (n : List ℕ). matched_named n pool) by.3 ∙ o.matched);
        head = head.0;
        has = head.1;
        same = head.2;
      }

  known-at : (place : ℕ) (posted : PendingQuery) → slice_get pool.pending place ≡ Some posted → IsKnown posted.query
  known-at place posted here = In-All (λ (p : PendingQuery). IsKnown p.query) pool.pending exact.known posted (In-at pool.pending place posted here)

  -- who offers something to a concerned query is concerned
  offering-concerned : (place : ℕ) (posted : PendingQuery) → slice_get pool.pending place ≡ Some posted → IsConcerned pool names place → (values : List ValueContent) (post : AtomRecord) → In post posted.query.posts
      → (choice : ChoiceRecord) (by : Offering (under (bound posted.query values) post) choice) → IsConcerned pool names by.place
  offering-concerned place posted here c values post h choice by =
      let unify : Unify by.head post =
      agreeing_unify (bound by.posted.query choice.values) (bound posted.query values) by.head post (sym by.same)
      (valid-terms by.posted.query.heads (known-at by.place by.posted by.here).heads by.head by.has) (valid-terms posted.query.posts (known-at place posted here).posts post h) in
      let spot = at-In posted.query.posts post h in
      let from = at-In by.posted.query.heads by.head by.has in
      let edge : Edge = record { provider = by.place; head = from.0; waiter = place; post = spot.0 } in
      Serving edge (Contains-In (edges_of pool.pending) edge (edge-between pool.pending place by.place spot.0 from.0 posted by.posted post by.head here by.here spot.1 from.1 unify)) c by.matched

  choice-taken : (choice : ChoiceRecord) (place : ℕ) (posted : PendingQuery) → slice_get pool.pending place ≡ Some posted → posted.name ≡ choice.name → IsConcerned pool names place → IsTaken pool spare choice
  choice-taken choice place posted here name c =
      let flag = subst (λ (n : List ℕ). is_taken pool spare place n ≡ true) name (concerned-taken place posted here c) in
      let at : place_of choice.name pool.pending ≡ Some place = ap (λ (n : List ℕ). place_of n pool.pending) (sym name) ∙ place_at pool good place posted here in
      record { taken = λ p e. subst (λ (q : ℕ). is_taken pool spare q choice.name ≡ true) (same_Some place p (sym at ∙ e)) flag }

  choice-known : (atom : AtomRecord) (choice : ChoiceRecord) → IsGrounded pool choice → IsTaken pool spare choice → In atom (offered_by (query_named choice.name pool.pending) choice.values) → In (Atom atom) goods
  choice-known atom choice grounded taken has =
      let o = grounded-offered pool good spare choice grounded taken in
      let is = offers-give pool good spare o.0 o.1 in
      let own : In atom (offered_by (query_named o.0.name pool.pending) o.0.values) = subst (λ (d : ChoiceRecord). In atom (offered_by (query_named d.name pool.pending) d.values)) (sym o.2) has in
      subst (In (Atom atom)) (sym kept)
      (stocked-has offers (Atom atom) o.0 (subst (In o.0) (sym are) o.1)
      (offered-goods o.0 atom (subst (λ (q : Option QueryRecord). In atom (offered_by q o.0.values)) (offer-pending pool good spare o.0 is) own)))

  module _ (place : ℕ) (posted : PendingQuery) (here : slice_get pool.pending place ≡ Some posted) (c : IsConcerned pool names place) where
    abbrev query : QueryRecord
    query = posted.query

    abbrev lists : List (List ValueContent)
    lists = groundings_of posted.query.body pool.tables.rows

    abbrev post_good : List ValueContent → AtomRecord → GoodContent
    post_good values post = Atom (under (bound posted.query values) post)

    offered-known : (values : List ValueContent) (post : AtomRecord) → In post query.posts → IsOffered pool (under (bound query values) post) → In (post_good values post) goods
    offered-known values post h o =
        let atom = under (bound query values) post in
        let by = offering atom o in
        choice-known atom o.choice o.grounded (choice-taken o.choice by.place by.posted by.here by.name (offering-concerned place posted here c values post h o.choice by))
        (In-Contains (offered_by (query_named o.choice.name pool.pending) o.choice.values) atom o.offers)

    named : query_named posted.name pool.pending ≡ Some query
    named = query_at pool good place posted here

    -- what is awaited, by goods
    awaited-is : (values : List ValueContent) → awaited_named pool posted.name values ≡ map (under (bound query values)) query.posts
    awaited-is values = ap (λ (q : Option QueryRecord). awaited_by q values) named

    has-all : (values : List ValueContent) → All (IsOffered pool) (awaited_named pool posted.name values) → has_all (lacking goods query values) ≡ true
    has-all values all =
        let each : All (IsOffered pool) (map (under (bound query values)) query.posts) = subst (All (IsOffered pool)) (awaited-is values) all in
        ap has_all
        (none-lacking goods 0 (map (post_good values) query.posts)
        (λ g m. let post = In-map_gives (post_good values) query.posts g m in
        subst (λ (x : GoodContent). is_known goods x ≡ true) (sym post.2)
        (In-known (post_good values post.0) goods
        (offered-known values post.0 post.1 (In-All (IsOffered pool) (map (under (bound query values)) query.posts) each (under (bound query values) post.0) (In-map (under (bound query values)) query.posts post.0 post.1))))))

    all-offered : (values : List ValueContent) → has_all (lacking goods query values) ≡ true → All (IsOffered pool) (awaited_named pool posted.name values)
    all-offered values all =
        let none = all-of goods (lacking goods query values) all in
        subst (All (IsOffered pool)) (sym (awaited-is values))
        (All-In (IsOffered pool) (map (under (bound query values)) query.posts)
        (λ atom m. let post = In-map_gives (under (bound query values)) query.posts atom m in
        let known = lacking-none goods 0 (map (post_good values) query.posts) none (post_good values post.0) (In-map (post_good values) query.posts post.0 post.1) in
        subst (IsOffered pool) (sym post.2) (known-offered (under (bound query values) post.0) (known-In (post_good values post.0) goods known))))

    grounded-listed : (values : List ValueContent) → IsGrounded pool (record { name = posted.name; values = values }) → In values lists
    grounded-listed values is =
        let same : is.query ≡ query = same_Some is.query query (sym is.pending ∙ named) in
        In-Contains lists values (((listed-groundings query.body pool.tables.rows).exactly values).1 (subst (λ (q : QueryRecord). IsGrounding q.body pool.tables.rows values) same is.grounding))

    listed-grounded : (values : List ValueContent) → In values lists → IsGrounded pool (record { name = posted.name; values = values })
    listed-grounded values h = record { query = query; pending = named; grounding = ((listed-groundings query.body pool.tables.rows).exactly values).0 (Contains-In lists values h) }

    alone : agrees goods query lists ≡ false → AgreesWithNone pool posted.name
    alone f values is all =
        let t = any-has (λ values. has_all (lacking goods query values)) lists values (grounded-listed values is) (has-all values all) in
        let never : true ≡ false = sym t ∙ f in cc

    not-alone : agrees goods query lists ≡ true → AgreesWithNone pool posted.name → ⊥
    not-alone t apart =
        let found = any-gives (λ values. has_all (lacking goods query values)) lists t in
        apart found.0 (listed-grounded found.0 found.1) (all-offered found.0 found.2)

    told-is : told_at pool spare goods place posted.name ≡ (if agrees goods query lists then None else first_lack goods posted.name query lists)
    told-is =
        ap (λ (t : Bool). if t then told_of goods posted.name (query_named posted.name pool.pending) (groundings_named posted.name pool) else None) (concerned-taken place posted here c)
        ∙ ap (λ (q : Option QueryRecord). told_of goods posted.name q (groundings_named posted.name pool)) named
        ∙ ap (told_of goods posted.name (Some query)) (groundings_at pool good place posted here)

    able : nat_lt 0 (length lists) ≡ true
    able =
        let s = matched-stands pool place (concerned-matched pool names place c) in
        let same : s.posted ≡ posted = same_Some s.posted posted (sym s.here ∙ here) in
        subst (λ (p : PendingQuery). is_able pool.tables.rows p ≡ true) same s.able

    -- where nothing is told, the query agrees with some
    told-nothing : told_at pool spare goods place posted.name ≡ None → AgreesWithNone pool posted.name → ⊥
    told-nothing none apart =
        let e : (if agrees goods query lists then None else first_lack goods posted.name query lists) ≡ None = sym told-is ∙ none in
        by_bool (agrees goods query lists) ⊥
        (λ t. not-alone t apart)
        (λ f. not-alone (first-lack-none goods posted.name query lists able (rw f at e)) apart)

    -- where something is told, it agrees with none
    told-something : (lack : LackRecord) → told_at pool spare goods place posted.name ≡ Some lack → AgreesWithNone pool posted.name × FirstLack goods posted.name query lists lack
    told-something lack some =
        let e : (if agrees goods query lists then None else first_lack goods posted.name query lists) ≡ Some lack = sym told-is ∙ some in
        by_bool (agrees goods query lists) (AgreesWithNone pool posted.name × FirstLack goods posted.name query lists lack)
        (λ t. let never : None ≡ Some lack = rw t at e in cc)
        (λ f. (alone f, first-lack-some goods posted.name query lists lack (rw f at e)))

    -- what the first list lacks is the first that is not offered
    first-lacking : (values : List ValueContent) (post : ℕ) → lacking goods query values ≡ Some post → IsFirstLacking pool (awaited_named pool posted.name values) post
    first-lacking values post lacks =
        let f = under (bound query values) in
        let found = lacking-some goods 0 post (map (post_good values) query.posts) lacks in
        let k = found.0 in
        let behind = found.1 in
        let at : k ≡ post = omega (arith, behind) in
        let unknown = found.2 in
        let own = mapped-at (post_good values) query.posts k unknown.good unknown.listed in
        subst (IsFirstLacking pool (awaited_named pool posted.name values)) at
        (subst (λ (atoms : List AtomRecord). IsFirstLacking pool atoms k) (sym (awaited-is values)) (record {
          atom = f own.0;
          listed = at-mapped f query.posts k own.0 own.1;
          lacking = λ o. let known = In-known (post_good values own.0) goods (offered-known values own.0 (In-at query.posts k own.0 own.1) o) in
              let never : true ≡ false = sym known ∙ ap (is_known goods) own.2 ∙ unknown.unknown in cc;
          before = All-In (IsOffered pool) (take k (map f query.posts))
              (λ atom m. let p = In-map_gives f (take k query.posts) atom (subst (In atom) (take-mapped f k query.posts) m) in
              let known = unknown.before (post_good values p.0) (subst (In (post_good values p.0)) (sym (take-mapped (post_good values) k query.posts)) (In-map (post_good values) (take k query.posts) p.0 p.1)) in
              subst (IsOffered pool) (sym p.2) (known-offered (f p.0) (known-In (post_good values p.0) goods known)));
        }))

  told-taken : (place : ℕ) (name : List ℕ) (lack : LackRecord) → told_at pool spare goods place name ≡ Some lack → is_taken pool spare place name ≡ true
  told-taken place name lack e =
      by_bool (is_taken pool spare place name) (is_taken pool spare place name ≡ true)
      (λ t. t)
      (λ f. let never : None ≡ Some lack = sym (ap (λ (t : Bool). if t then told_of goods name (query_named name pool.pending) (groundings_named name pool) else None) f) ∙ e in cc)

  -- of a query that agrees with none something is told
  tells : (place : ℕ) (name : List ℕ) → IsDisagreeing pool names place name → told_at pool spare goods place name ≡ None → ⊥
  tells place name is none =
      let s = matched-stands pool place (concerned-matched pool names place is.concerned) in
      let same : s.posted.name ≡ name = same_Some s.posted.name name (sym (ap (option_map (λ (p : PendingQuery). p.name)) s.here) ∙ is.named) in
      told-nothing place s.posted s.here is.concerned (subst (λ (n : List ℕ). told_at pool spare goods place n ≡ None) (sym same) none) (subst (AgreesWithNone pool) (sym same) is.alone)

  abbrev posted_names : List (List ℕ)
  posted_names = map name_of pool.pending

  disagreement-at : {A : Type 0} (d : Disagreement A) (place : ℕ) (posted : PendingQuery) → slice_get pool.pending place ≡ Some posted → told_at pool spare goods place posted.name ≡ Some (lack_of d)
      → ((other : ℕ) (name : List ℕ) → other < place → IsDisagreeing pool names other name → ⊥) → IsDisagreement pool names d.name.now d.values.now d.post
  disagreement-at d place posted here told first =
      let c = taken-concerned place posted here (told-taken place posted.name (lack_of d) told) in
      let s = told-something place posted here c (lack_of d) told in
      let lack = s.1 in
      record {
        place = place;
        here = record {
          named = ap (option_map (λ (p : PendingQuery). p.name)) here ∙ ap Some (sym lack.named);
          concerned = c;
          alone = subst (AgreesWithNone pool) (sym lack.named) s.0;
        };
        first = first;
        grounding = ap (option_and_then (λ (lists : List (List ValueContent)). slice_get lists 0)) (ap (λ (n : List ℕ). groundings_named n pool) lack.named ∙ groundings_at pool good place posted here) ∙ lack.listed;
        lacks = subst (λ (n : List ℕ). IsFirstLacking pool (awaited_named pool n d.values.now) d.post) (sym lack.named) (first-lacking place posted here c d.values.now d.post lack.lacks);
      }

  disagreement-told : {A : Type 0} (d : Disagreement A) → told_from pool spare goods 0 posted_names ≡ Some (lack_of d) → IsDisagreement pool names d.name.now d.values.now d.post
  disagreement-told d e =
      let f = told-first pool spare goods 0 posted_names (lack_of d) e in
      let m = mapped-at name_of pool.pending f.spot f.name f.listed in
      let at : 0 + f.spot ≡ f.spot = omega arith in
      disagreement-at d f.spot m.0 m.1
      (subst (λ (n : List ℕ). told_at pool spare goods f.spot n ≡ Some (lack_of d)) (sym m.2) (subst (λ (p : ℕ). told_at pool spare goods p f.name ≡ Some (lack_of d)) at f.told))
      (λ other name low is. nobody-at other name is (f.before other name low (name_at-names pool.pending other ∙ is.named)))
    where
      nobody-at : (other : ℕ) (name : List ℕ) → IsDisagreeing pool names other name → told_at pool spare goods (0 + other) name ≡ None → ⊥
      nobody-at other name is none = let at : 0 + other ≡ other = omega arith in tells other name is (subst (λ (p : ℕ). told_at pool spare goods p name ≡ None) at none)

  -- what a member of a choice awaits is offered
  member-offered : (choices : List ChoiceRecord) → IsChoiceFor pool names choices → (c : ChoiceRecord) → In c choices → All (IsOffered pool) (awaited_named pool c.name c.values)
  member-offered choices is c m =
      All-In (IsOffered pool) (awaited_named pool c.name c.values)
      (λ atom h. let asked = In-flat_map (λ (d : ChoiceRecord). awaited_by (query_named d.name pool.pending) d.values) choices c atom m h in
      let met = In-Contains (offered pool.pending choices) atom (In-All (Contains (offered pool.pending choices)) (awaited pool.pending choices) is.coordinating.served atom asked) in
      let from = In-flat_map_gives (λ (d : ChoiceRecord). offered_by (query_named d.name pool.pending) d.values) choices atom met in
      record {
        choice = from.0;
        grounded = In-All (IsGrounded pool) choices is.coordinating.grounded from.0 from.1;
        matched = matched-all pool good names spare exact choices is from.0 from.1;
        offers = Contains-In (offered_by (query_named from.0.name pool.pending) from.0.values) atom from.2;
      })

  -- one of the names whose query agrees with none leaves no choice
  named-impossible : (name : List ℕ) → AgreesWithNone pool name → In name names → (choices : List ChoiceRecord) → IsChoiceFor pool names choices → ⊥
  named-impossible name apart h choices is =
      let c = In-map_gives chosen_name choices name (In-Contains (map chosen_name choices) name (In-All (Contains (map chosen_name choices)) names is.named name h)) in
      let none : AgreesWithNone pool c.0.name = subst (AgreesWithNone pool) c.2 apart in
      none c.0.values (In-All (IsGrounded pool) choices is.coordinating.grounded c.0 c.1) (member-offered choices is c.0 c.1)

  -- ---- what is answered

  pub found-told : {A : Type 0} (found : Option (Disagreement A)) → option_map lack_of found ≡ told_from pool spare goods 0 posted_names → IfSome found (λ d. IsDisagreement pool names d.name.now d.values.now d.post)
  found-told None e = tt
  found-told (Some d) e = disagreement-told d (sym e)

  pub found-none : {A : Type 0} (found : Option (Disagreement A)) → option_map lack_of found ≡ told_from pool spare goods 0 posted_names → found ≡ None
      → (place : ℕ) (name : List ℕ) → IsDisagreeing pool names place name → ⊥
  found-none found e none place name is =
      let nothing : told_from pool spare goods 0 posted_names ≡ None = sym e ∙ ap (option_map lack_of) none in
      let at : 0 + place ≡ place = omega arith in
      tells place name is (subst (λ (p : ℕ). told_at pool spare goods p name ≡ None) at (told-nobody pool spare goods 0 posted_names nothing place name (name_at-names pool.pending place ∙ is.named)))

  pub found-impossible : {A : Type 0} (found : Option (Disagreement A)) → option_map lack_of found ≡ told_from pool spare goods 0 posted_names
      → IfSome found (λ d. Contains names d.name.now → (choices : List ChoiceRecord) → IsChoiceFor pool names choices → ⊥)
  found-impossible None e = tt
  found-impossible (Some d) e = λ h choices is. named-impossible d.name.now (disagreement-told d (sym e)).here.alone (In-Contains names d.name.now h) choices is
