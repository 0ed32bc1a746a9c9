-- A pool without rows and queries, and the stores of it.
use Rattle.std.proofs.Common.{◌≡◌, ℕ, nat_eq, List, [], refl, sym, subst}
use Rattle.std.specs.FinMap.{empty, get-empty}
use Rattle.std.specs.Ordering.{nat_cmp}
use Rattle.std.specs.List.{IsDistinct}
use Rattle.cq_rel.specs.Tables.{TablesRecord, IsTables}
use Rattle.cq_roster.specs.Roster.{IsRoster}
use Rattle.std.specs.Set.{is_member}
use Rattle.cq_match.specs.Matched.{is_closed, is_matched}
use Rattle.cq_match.specs.Matcher.{nothing}
use Rattle.cq_board.specs.declared.limits.Limits.{Limits}
use Rattle.cq_board.specs.Steps.Stores.{pending_of, able_over, StoresRecord, no_stores, IsKeptIn}
use Rattle.cq_board.proofs.GoodPools.{opening_good}
use Rattle.cq_board.proofs.KeptIn.{pool_of}
use Rattle.cq_board.proofs.Upkeep.{graph_opening}

none_seated : IsRoster []
unfolding IsDistinct
none_seated = record { names = tt; places = tt }

none_matched : (n : ℕ) → is_member nat_eq [] n ≡ is_matched [] [] n
unfolding is_matched is_closed
none_matched n = refl

opened : (limits : Limits) (tables : TablesRecord) → IsTables tables → IsKeptIn (pool_of limits tables []) no_stores
opened limits tables is = record {
  good = opening_good limits tables is;
  stores = record {
    roster = none_seated;
    stand = (λ p. get-empty nat_cmp p);
    linked = (λ p. get-empty nat_cmp p);
    graph = graph_opening (able_over tables.rows);
    matched = none_matched;
  };
}

pub opened_in : (limits : Limits) (tables : TablesRecord) (stores : StoresRecord) → IsTables tables → stores ≡ no_stores → IsKeptIn (pool_of limits tables (pending_of stores)) stores
opened_in limits tables stores is none = subst (λ (s : StoresRecord). IsKeptIn (pool_of limits tables (pending_of s)) s) (sym none) (opened limits tables is)
