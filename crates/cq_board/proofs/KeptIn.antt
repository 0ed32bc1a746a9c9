-- The pool stays good and the stores are of it, whichever edit of a query was done.
use Rattle.std.proofs.Common.{◌≡◌, ℕ, List, [], ◌∷◌, ◌++◌, not, filter, sym, subst, Result, Ok, Err, OnOk, OnErr}
use Rattle.cq_atom.specs.Query.{QueryRecord}
use Rattle.cq_rel.specs.Tables.{TablesRecord}
use Rattle.cq_board.specs.declared.limits.Limits.{Limits}
use Rattle.cq_atom.specs.declared.edit.EditKind.TheVariants.{Post}
use Rattle.cq_board.specs.Pool.{PendingQuery, PoolRecord, IsPool}
use Rattle.cq_board.specs.Edits.{is_named, why}
use Rattle.cq_board.specs.Steps.Stores.{pending_of, StoresRecord, AreStores, IsKeptIn}
use Rattle.cq_board.proofs.GoodPools.{filtered_good, posted_good}
use Rattle.std.specs.Prelude.{None}

abbrev pub pool_of : Limits → TablesRecord → List PendingQuery → PoolRecord
pool_of limits tables pending = record { limits = limits; tables = tables; pending = pending }

module _ (limits : Limits) (tables : TablesRecord) (s t : StoresRecord) (kept : IsKeptIn (pool_of limits tables (pending_of s)) s) (name : List ℕ) where
  pub posted_in : {T F : Type 0} (r : Result T F) (seen : PoolRecord) (query : QueryRecord) → pool_of limits tables (pending_of s) ≡ seen → why seen (Post name query) ≡ None
      → OnOk r (AreStores t tables.rows) → OnOk r (pending_of t ≡ pending_of s ++ (record { name = name; query = query }) ∷ []) → OnErr r (t ≡ s) → IsKeptIn (pool_of limits tables (pending_of t)) t
  posted_in (Ok x) seen query view free are made same = record {
    good = subst (λ (ps : List PendingQuery). IsPool (pool_of limits tables ps)) (sym made)
        (posted_good (pool_of limits tables (pending_of s)) name query kept.good (subst (λ (p : PoolRecord). why p (Post name query) ≡ None) (sym view) free));
    stores = are;
  }
  posted_in (Err x) seen query view free are made same = subst (λ (y : StoresRecord). IsKeptIn (pool_of limits tables (pending_of y)) y) (sym same) kept

  pub withdrawn_in : AreStores t tables.rows → pending_of t ≡ filter (λ other. not (is_named name other)) (pending_of s) → IsKeptIn (pool_of limits tables (pending_of t)) t
  withdrawn_in are left = record {
    good = subst (λ (ps : List PendingQuery). IsPool (pool_of limits tables ps)) (sym left) (filtered_good (λ other. not (is_named name other)) (pool_of limits tables (pending_of s)) kept.good);
    stores = are;
  }
