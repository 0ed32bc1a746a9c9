-- Stocks: goods by their numbers, and who offers each.
use Rattle.std.specs.Prelude.{ℕ, ◌+◌, List, [], ◌∷◌, ◌++◌, map, slice_index_or, slice_set, if◌then◌else◌}
use Rattle.std.specs.List.{fold, list_any, position_or_len}
use Rattle.cq_choose.specs.declared.stock.Stock.{Stock}
use Rattle.cq_choose.specs.Steps.Goods.{GoodContent, same_good}
use Rattle.cq_choose.specs.Steps.Offers.{OfferRecord, goods_of, awaited_goods}

-- The goods, and for each of them the members that offer it.
pub record StockRecord : Type 0 where
  pub goods : List GoodContent
  pub suppliers : List (List ℕ)

-- What is kept, as it is read.
abbrev pub stock_of : {A : Type 0} → Stock A → StockRecord
stock_of s = record { goods = s.goods.keys; suppliers = map (λ members. members.items) s.suppliers.items }

-- The number of a good: its place, or how many there are.
abbrev pub number_in : StockRecord → GoodContent → ℕ
number_in stock good = position_or_len (same_good good) stock.goods

-- A stock that knows the good.
abbrev pub with_good : StockRecord → GoodContent → StockRecord
with_good stock good = if list_any (same_good good) stock.goods then stock else record { goods = stock.goods ++ good ∷ []; suppliers = stock.suppliers ++ [] ∷ [] }

-- One more member in the list of that number, where there is such a list.
abbrev pub noted : List (List ℕ) → ℕ → ℕ → List (List ℕ)
noted suppliers number member = slice_set suppliers number (slice_index_or suppliers number [] ++ member ∷ [])

-- A stock in which the member offers the good.
abbrev pub with_supplier : ℕ → StockRecord → GoodContent → StockRecord
with_supplier member stock good = record { goods = (with_good stock good).goods; suppliers = noted (with_good stock good).suppliers (number_in stock good) member }

-- A stock in which the member offers each of the goods.
abbrev pub with_goods : ℕ → StockRecord → List GoodContent → StockRecord
with_goods member stock goods = fold (with_supplier member) stock goods

-- A stock with these offers, of which the first is that member.
abbrev pub with_offers : ℕ → StockRecord → List OfferRecord → StockRecord
with_offers member stock [] = stock
with_offers member stock (o ∷ offers) = with_offers (member + 1) (with_goods member stock (goods_of o)) offers

abbrev pub empty_stock : StockRecord
empty_stock = record { goods = []; suppliers = [] }

-- The stock of the offers.
abbrev pub stocked : List OfferRecord → StockRecord
stocked offers = with_offers 0 empty_stock offers

-- What the offer awaits, by number.
abbrev pub needs_in : StockRecord → OfferRecord → List ℕ
needs_in stock o = map (number_in stock) (awaited_goods o)
