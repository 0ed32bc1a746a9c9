-- Offers: the groundings of the pending queries, each with its query.
use Rattle.std.specs.Prelude.{ℕ, Bool, if◌then◌else◌, List, [], ◌∷◌, map, Option, Some, None, option_map}
use Rattle.std.specs.List.{flat_map, filter_map, enumerate_from, slice_get}
use Rattle.cq_atom.specs.Value.{ValueContent}
use Rattle.cq_atom.specs.Query.{QueryRecord}
use Rattle.cq_atom.specs.Valuation.{under}
use Rattle.cq_board.specs.Pool.{PoolRecord, name_of}
use Rattle.cq_board.specs.Named.{query_named, groundings_named}
use Rattle.cq_board.specs.Choice.{ChoiceRecord, bound}
use Rattle.cq_choose.specs.declared.keys.Good.TheVariants.{Query, Atom}
use Rattle.cq_choose.specs.declared.offers.Offer.{Offer}
use Rattle.cq_choose.specs.Steps.Goods.{GoodContent}
use Rattle.cq_choose.specs.Steps.Reach.{is_taken}

-- A query's name, its place in posting order, the query, and a grounding of it.
pub record OfferRecord : Type 0 where
  pub name : List ℕ
  pub place : ℕ
  pub query : QueryRecord
  pub values : List ValueContent

-- What is kept, as it is read.
abbrev pub offer_of : {A : Type 0} → Offer A → OfferRecord
offer_of o = record { name = o.name.now; place = o.place; query = o.query.now; values = o.values.now }

-- The offers of a query that is there.
abbrev pub offers_by : ℕ → List ℕ → Option QueryRecord → Option (List (List ValueContent)) → List OfferRecord
offers_by place name None lists = []
offers_by place name (Some query) None = []
offers_by place name (Some query) (Some lists) = map (λ values. record { name = name; place = place; query = query; values = values }) lists

-- The offers of the pending query of that name, if it is taken.
abbrev pub offers_at : PoolRecord → List Bool → ℕ → List ℕ → List OfferRecord
offers_at pool spare place name = if is_taken pool spare place name then offers_by place name (query_named name pool.pending) (groundings_named name pool) else []

-- The offers of these names, of which the first has that place.
abbrev pub offers_from : PoolRecord → List Bool → ℕ → List (List ℕ) → List OfferRecord
offers_from pool spare place names = flat_map (λ p. offers_at pool spare p.0 p.1) (enumerate_from place names)

-- The offers of all pending queries that are taken.
abbrev pub offers_of : PoolRecord → List Bool → List OfferRecord
offers_of pool spare = offers_from pool spare 0 (map name_of pool.pending)

-- The heads under the values.
abbrev pub head_goods : OfferRecord → List GoodContent
head_goods o = map (λ head. Atom (under (bound o.query o.values) head)) o.query.heads

-- What is offered.
abbrev pub goods_of : OfferRecord → List GoodContent
goods_of o = Query o.name ∷ head_goods o

-- What is awaited.
abbrev pub awaited_goods : OfferRecord → List GoodContent
awaited_goods o = map (λ post. Atom (under (bound o.query o.values) post)) o.query.posts

-- What is chosen by it.
abbrev pub choice_of : OfferRecord → ChoiceRecord
choice_of o = record { name = o.name; values = o.values }

-- What is chosen by the offers at those places.
abbrev pub choices_of : List OfferRecord → List ℕ → List ChoiceRecord
choices_of offers chosen = filter_map (λ member. option_map choice_of (slice_get offers member)) chosen
