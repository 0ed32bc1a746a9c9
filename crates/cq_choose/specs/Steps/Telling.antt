-- What is told of queries that disagree, one after another.
use Rattle.std.specs.Prelude.{ℕ, ◌+◌, Bool, true, false, if◌then◌else◌, List, [], ◌∷◌, map, Option, Some, None, option_map}
use Rattle.std.specs.List.{list_any}
use Rattle.cq_atom.specs.Value.{ValueContent}
use Rattle.cq_atom.specs.Query.{QueryRecord}
use Rattle.cq_atom.specs.Valuation.{under}
use Rattle.cq_board.specs.Pool.{PoolRecord}
use Rattle.cq_board.specs.Named.{query_named, groundings_named}
use Rattle.cq_board.specs.Choice.{bound}
use Rattle.cq_choose.specs.declared.keys.Good.TheVariants.{Atom}
use Rattle.cq_choose.specs.declared.telling.Disagreement.{Disagreement}
use Rattle.cq_choose.specs.Steps.Goods.{GoodContent, same_good}
use Rattle.cq_choose.specs.Steps.Reach.{is_taken}

-- A query's name, values for its variables, and the number of a postcondition.
pub record LackRecord : Type 0 where
  pub name : List ℕ
  pub values : List ValueContent
  pub post : ℕ

-- What is told, as it is read.
abbrev pub lack_of : {A : Type 0} → Disagreement A → LackRecord
lack_of d = record { name = d.name.now; values = d.values.now; post = d.post }

-- The name, the values and the number, as what is told.
abbrev pub lack_at : List ℕ → List ValueContent → ℕ → LackRecord
lack_at name values post = record { name = name; values = values; post = post }

-- The good is one of these.
abbrev pub is_known : List GoodContent → GoodContent → Bool
is_known goods good = list_any (same_good good) goods

-- The first of these that is none of the goods, where the first of them has that number.
abbrev pub lacking_from : List GoodContent → ℕ → List GoodContent → Option ℕ
lacking_from goods number [] = None
lacking_from goods number (good ∷ more) = if is_known goods good then lacking_from goods (number + 1) more else Some number

-- The first postcondition that is none of the goods under the values.
abbrev pub lacking : List GoodContent → QueryRecord → List ValueContent → Option ℕ
lacking goods query values = lacking_from goods 0 (map (λ post. Atom (under (bound query values) post)) query.posts)

-- Nothing is lacking.
abbrev pub has_all : Option ℕ → Bool
has_all None = true
has_all (Some post) = false

-- Under one of the lists nothing is lacking.
abbrev pub agrees : List GoodContent → QueryRecord → List (List ValueContent) → Bool
agrees goods query lists = list_any (λ values. has_all (lacking goods query values)) lists

-- What is lacking under the first list.
abbrev pub first_lack : List GoodContent → List ℕ → QueryRecord → List (List ValueContent) → Option LackRecord
first_lack goods name query [] = None
first_lack goods name query (values ∷ lists) = option_map (lack_at name values) (lacking goods query values)

-- What is told of a query that is there.
abbrev pub told_of : List GoodContent → List ℕ → Option QueryRecord → Option (List (List ValueContent)) → Option LackRecord
told_of goods name None lists = None
told_of goods name (Some query) None = None
told_of goods name (Some query) (Some lists) = if agrees goods query lists then None else first_lack goods name query lists

-- What is told of the pending query of that name, if it is taken.
abbrev pub told_at : PoolRecord → List Bool → List GoodContent → ℕ → List ℕ → Option LackRecord
told_at pool spare goods place name = if is_taken pool spare place name then told_of goods name (query_named name pool.pending) (groundings_named name pool) else None

-- The first of two.
abbrev pub first_of : Option LackRecord → Option LackRecord → Option LackRecord
first_of None other = other
first_of (Some lack) other = Some lack

-- What is told first of the queries of these names, of which the first has that place.
abbrev pub told_from : PoolRecord → List Bool → List GoodContent → ℕ → List (List ℕ) → Option LackRecord
told_from pool spare goods place [] = None
told_from pool spare goods place (name ∷ names) = first_of (told_at pool spare goods place name) (told_from pool spare goods (place + 1) names)
