use Rattle.std.proofs.Common.{◌≡◌, ◌∙◌, ◌++◌, ◌∷◌, [], ℕ, Bool, true, false, List, map, refl, sym, ap}
use Rattle.std.specs.Prelude.{not, if◌then◌else◌}
use Rattle.std.specs.List.{list_any}
use Rattle.std.proofs.lemmas.List.{map-append}
use Rattle.cq_choose.specs.Steps.Goods.{GoodContent, same_good}
use Rattle.cq_choose.specs.Steps.Stocks.{StockRecord, with_good}
use Rattle.cq_choose.proofs.stock.number_of.Goals as goal

is-false : (b : Bool) → true ≡ not b → b ≡ false
is-false true e = e
is-false false e = refl

is-true : (b : Bool) → false ≡ not b → b ≡ true
is-true true e = refl
is-true false e = e

-- what is known has its list, and what is new gets one
grown : (stock : StockRecord) (good : GoodContent) (keys : List GoodContent) (lists : List (List ℕ)) → keys ≡ (if list_any (same_good good) stock.goods then stock.goods else stock.goods ++ good ∷ [])
    → list_any (same_good good) stock.goods ≡ false → lists ≡ stock.suppliers ++ [] ∷ [] → record { goods = keys; suppliers = lists } ≡ with_good stock good
grown stock good keys lists are new more =
    let more-goods = are ∙ ap (λ (t : Bool). if t then stock.goods else stock.goods ++ good ∷ []) new in
    let both : record { goods = keys; suppliers = lists } ≡ record { goods = stock.goods ++ good ∷ []; suppliers = stock.suppliers ++ [] ∷ [] } = λ k. record { goods = more-goods k; suppliers = more k } in
    both ∙ sym (ap (λ (t : Bool). if t then stock else record { goods = stock.goods ++ good ∷ []; suppliers = stock.suppliers ++ [] ∷ [] }) new)

kept : (stock : StockRecord) (good : GoodContent) (keys : List GoodContent) → keys ≡ (if list_any (same_good good) stock.goods then stock.goods else stock.goods ++ good ∷ [])
    → list_any (same_good good) stock.goods ≡ true → record { goods = keys; suppliers = stock.suppliers } ≡ with_good stock good
kept stock good keys are known =
    let same-goods = are ∙ ap (λ (t : Bool). if t then stock.goods else stock.goods ++ good ∷ []) known in
    let both : record { goods = keys; suppliers = stock.suppliers } ≡ stock = λ k. record { goods = same-goods k; suppliers = stock.suppliers } in
    both ∙ sym (ap (λ (t : Bool). if t then stock else record { goods = stock.goods ++ good ∷ []; suppliers = stock.suppliers ++ [] ∷ [] }) known)

pub returns-in_ok-push-clause-number : goal.returns-in_ok-push-clause-number
returns-in_ok-push-clause-number g c = c.in_ok-number.ensures.index

pub returns-else-is_new-clause-number : goal.returns-else-is_new-clause-number
returns-else-is_new-clause-number g c = c.in_ok-number.ensures.index

pub returns-in_ok-push-clause-stock : goal.returns-in_ok-push-clause-stock
returns-in_ok-push-clause-stock g c =
    let old = c.args.stock.now in
    let lists = map (λ members. members.items) old.suppliers.items in
    grown (record { goods = old.goods.keys; suppliers = lists }) c.args.key c.insert_full.new.self.keys (map (λ members. members.items) c.push.new.self.items) c.in_ok-number.ensures.keys
    (is-false (list_any (same_good c.args.key) old.goods.keys) (sym c.if-is_new.true ∙ c.in_ok-number.ensures.added))
    (ap (map (λ members. members.items)) c.in_ok-push.ensures.items ∙ map-append (λ members. members.items) old.suppliers.items (c.new.result ∷ []) ∙ ap (λ (l : List ℕ). lists ++ l ∷ []) c.new.ensures.items)

pub returns-else-is_new-clause-stock : goal.returns-else-is_new-clause-stock
returns-else-is_new-clause-stock g c =
    let old = c.args.stock.now in
    kept (record { goods = old.goods.keys; suppliers = map (λ members. members.items) old.suppliers.items }) c.args.key c.insert_full.new.self.keys c.in_ok-number.ensures.keys
    (is-true (list_any (same_good c.args.key) old.goods.keys) (sym c.if-is_new.false ∙ c.in_ok-number.ensures.added))
