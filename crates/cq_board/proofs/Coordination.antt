-- The members of a choice serve one another: step after step, and as the definition has it.
use Rattle.std.proofs.Common.{◌≡◌, List, sym, subst, Option, Some, None}
use Rattle.std.specs.List.{All, Contains}
use Rattle.cq_atom.specs.Value.{ValueContent}
use Rattle.cq_atom.specs.Atom.{AtomRecord}
use Rattle.cq_atom.specs.Query.{QueryRecord}
use Rattle.cq_atom.specs.Valuation.{under}
use Rattle.cq_board.specs.Pool.{PendingQuery}
use Rattle.cq_board.specs.Named.{query_named}
use Rattle.cq_board.specs.Choice.{ChoiceRecord, bound, awaited_by, offered_by, awaited, offered}
use Rattle.cq_board.specs.Steps.Choices.{IsOfferedBy, IsOffered, IsServed, AreServed}
use Rattle.cq_board.proofs.Members.{In, In-map, In-map_gives, In-flat_map, In-flat_map_gives}
use Rattle.cq_board.proofs.Among.{Contains-In, In-Contains, All-In, In-All, Any-In, In-Any}

offered_by_gives : (o : Option QueryRecord) (values : List ValueContent) (atom : AtomRecord) → In atom (offered_by o values) → IsOfferedBy o values atom
offered_by_gives None values atom h = absurd h
offered_by_gives (Some q) values atom h =
    let found = In-map_gives (under (bound q values)) q.heads atom h in
    Any-In (λ head. under (bound q values) head ≡ atom) q.heads found.0 found.1 (sym found.2)

offered_by_has : (o : Option QueryRecord) (values : List ValueContent) (atom : AtomRecord) → IsOfferedBy o values atom → In atom (offered_by o values)
offered_by_has None values atom h = absurd h
offered_by_has (Some q) values atom h =
    let found = In-Any (λ head. under (bound q values) head ≡ atom) q.heads h in
    subst (λ (a : AtomRecord). In a (offered_by (Some q) values)) found.2 (In-map (under (bound q values)) q.heads found.0 found.1)

module _ (pending : List PendingQuery) (choices : List ChoiceRecord) where
  abbrev offers : ChoiceRecord → List AtomRecord
  offers c = offered_by (query_named c.name pending) c.values

  abbrev awaits : ChoiceRecord → List AtomRecord
  awaits c = awaited_by (query_named c.name pending) c.values

  offered_gives : (atom : AtomRecord) → Contains (offered pending choices) atom → IsOffered pending choices atom
  offered_gives atom h =
      let found = In-flat_map_gives offers choices atom (In-Contains (offered pending choices) atom h) in
      Any-In (λ c. IsOfferedBy (query_named c.name pending) c.values atom) choices found.0 found.1 (offered_by_gives (query_named found.0.name pending) found.0.values atom found.2)

  offered_has : (atom : AtomRecord) → IsOffered pending choices atom → Contains (offered pending choices) atom
  offered_has atom h =
      let found = In-Any (λ c. IsOfferedBy (query_named c.name pending) c.values atom) choices h in
      Contains-In (offered pending choices) atom
      (In-flat_map offers choices found.0 atom found.1 (offered_by_has (query_named found.0.name pending) found.0.values atom found.2))

  served_gives : (o : Option QueryRecord) (values : List ValueContent) → IsServed pending choices o values → (atom : AtomRecord) → In atom (awaited_by o values) → Contains (offered pending choices) atom
  served_gives None values h atom m = absurd m
  served_gives (Some q) values h atom m =
      let found = In-map_gives (under (bound q values)) q.posts atom m in
      subst (Contains (offered pending choices)) (sym found.2)
      (offered_has (under (bound q values) found.0) (In-All (λ post. IsOffered pending choices (under (bound q values) post)) q.posts h found.0 found.1))

  served_has : (o : Option QueryRecord) (values : List ValueContent) → ((atom : AtomRecord) → In atom (awaited_by o values) → Contains (offered pending choices) atom) → IsServed pending choices o values
  served_has None values h = tt
  served_has (Some q) values h =
      All-In (λ post. IsOffered pending choices (under (bound q values) post)) q.posts
      (λ post m. offered_gives (under (bound q values) post) (h (under (bound q values) post) (In-map (under (bound q values)) q.posts post m)))

  pub served_all : AreServed pending choices → All (Contains (offered pending choices)) (awaited pending choices)
  served_all h =
      All-In (Contains (offered pending choices)) (awaited pending choices)
      (λ atom m. let found = In-flat_map_gives awaits choices atom m in
      served_gives (query_named found.0.name pending) found.0.values
      (In-All (λ c. IsServed pending choices (query_named c.name pending) c.values) choices h found.0 found.1) atom found.2)

  pub all_served : All (Contains (offered pending choices)) (awaited pending choices) → AreServed pending choices
  all_served h =
      All-In (λ c. IsServed pending choices (query_named c.name pending) c.values) choices
      (λ c m. served_has (query_named c.name pending) c.values
      (λ atom k. In-All (Contains (offered pending choices)) (awaited pending choices) h atom (In-flat_map awaits choices c atom m k)))
