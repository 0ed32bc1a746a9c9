-- What is lacking first, and what is told first.
use Rattle.std.proofs.Common.{◌≡◌, ℕ, zero, suc, ◌+◌, ◌<◌, inl, inr, Bool, true, false, List, [], ◌∷◌, length, take, refl, ap, subst, ◌∙◌, arith, Option, Some, None}
use Rattle.std.specs.Prelude.{nat_lt, option_map}
use Rattle.std.specs.List.{slice_get}
use Rattle.std.proofs.lemmas.Option.{same_Some}
use Rattle.cq_atom.specs.Value.{ValueContent}
use Rattle.cq_atom.specs.Query.{QueryRecord}
use Rattle.cq_board.specs.Pool.{PoolRecord}
use Rattle.cq_choose.specs.Steps.Goods.{GoodContent}
use Rattle.cq_choose.specs.Steps.Telling.{LackRecord, lack_at, is_known, lacking_from, lacking, has_all, agrees, first_lack, told_at, told_from}
use Rattle.cq_choose.proofs.Lists.{by_bool, by_option, In}

-- ---- the first that is not known

module _ (goods : List GoodContent) where
  pub record FirstUnknown (atoms : List GoodContent) (k : ℕ) : Type 0 where
    pub good : GoodContent
    pub listed : slice_get atoms k ≡ Some good
    pub unknown : is_known goods good ≡ false
    pub before : (g : GoodContent) → In g (take k atoms) → is_known goods g ≡ true

  pub lacking-none : (n : ℕ) (atoms : List GoodContent) → lacking_from goods n atoms ≡ None → (g : GoodContent) → In g atoms → is_known goods g ≡ true
  lacking-none n [] e g h = absurd h
  lacking-none n (x ∷ atoms) e g h =
      by_bool (is_known goods x) (is_known goods g ≡ true)
      (λ t. elim h as (λ _. is_known goods g ≡ true) [ inl same ↦ ap (is_known goods) same ∙ t | inr m ↦ lacking-none (n + 1) atoms (rw t at e) g m ])
      (λ f. let never : Some n ≡ None = rw f at e in cc)

  pub none-lacking : (n : ℕ) (atoms : List GoodContent) → ((g : GoodContent) → In g atoms → is_known goods g ≡ true) → lacking_from goods n atoms ≡ None
  none-lacking n [] all = refl
  none-lacking n (x ∷ atoms) all = let own = all x (inl refl) in rw own (none-lacking (n + 1) atoms (λ g m. all g (inr m)))

  pub lacking-some : (n k : ℕ) (atoms : List GoodContent) → lacking_from goods n atoms ≡ Some k → (j : ℕ) × (k ≡ n + j) × FirstUnknown atoms j
  lacking-some n k [] e = cc
  lacking-some n k (x ∷ atoms) e =
      by_bool (is_known goods x) ((j : ℕ) × (k ≡ n + j) × FirstUnknown (x ∷ atoms) j)
      (λ t. let more = lacking-some (n + 1) k atoms (rw t at e) in
      let is = more.1 in (
        suc more.0,
        omega (arith, is),
        record {
          good = more.2.good;
          listed = more.2.listed;
          unknown = more.2.unknown;
          before = λ g m. elim m as (λ _. is_known goods g ≡ true) [ inl same ↦ ap (is_known goods) same ∙ t | inr r ↦ more.2.before g r ];
        },
      ))
      (λ f. let same : n ≡ k = same_Some n k (rw f at e) in (0, omega (arith, same), record { good = x; listed = refl; unknown = f; before = λ g m. absurd m }))

  pub all-of : (o : Option ℕ) → has_all o ≡ true → o ≡ None
  all-of None h = refl
  all-of (Some n) h = let never : false ≡ true = h in cc

  -- what the first list lacks
  pub record FirstLack (name : List ℕ) (query : QueryRecord) (lists : List (List ValueContent)) (lack : LackRecord) : Type 0 where
    pub named : lack.name ≡ name
    pub listed : slice_get lists 0 ≡ Some lack.values
    pub lacks : lacking goods query lack.values ≡ Some lack.post

  lack-of : (name : List ℕ) (query : QueryRecord) (values : List ValueContent) (lists : List (List ValueContent)) (lack : LackRecord) (o : Option ℕ) → lacking goods query values ≡ o
      → option_map (lack_at name values) o ≡ Some lack → FirstLack name query (values ∷ lists) lack
  lack-of name query values lists lack None is e = cc
  lack-of name query values lists lack (Some post) is e =
      subst (FirstLack name query (values ∷ lists)) (same_Some (lack_at name values post) lack e) (record { named = refl; listed = refl; lacks = is })

  pub first-lack-some : (name : List ℕ) (query : QueryRecord) (lists : List (List ValueContent)) (lack : LackRecord) → first_lack goods name query lists ≡ Some lack → FirstLack name query lists lack
  first-lack-some name query [] lack e = cc
  first-lack-some name query (values ∷ lists) lack e = lack-of name query values lists lack (lacking goods query values) refl e

  nothing-of : (name : List ℕ) (values : List ValueContent) (o : Option ℕ) → option_map (lack_at name values) o ≡ None → has_all o ≡ true
  nothing-of name values None e = refl
  nothing-of name values (Some post) e = cc

  -- where nothing is told of a query that disagrees, it has no groundings
  pub first-lack-none : (name : List ℕ) (query : QueryRecord) (lists : List (List ValueContent)) → nat_lt 0 (length lists) ≡ true → first_lack goods name query lists ≡ None → agrees goods query lists ≡ true
  first-lack-none name query [] some e = let never : false ≡ true = some in cc
  first-lack-none name query (values ∷ lists) some e = let all = nothing-of name values (lacking goods query values) e in rw all refl

-- ---- what is told first

module _ (pool : PoolRecord) (spare : List Bool) (goods : List GoodContent) where
  pub record FirstTold (n : ℕ) (names : List (List ℕ)) (lack : LackRecord) : Type 0 where
    pub spot : ℕ
    pub name : List ℕ
    pub listed : slice_get names spot ≡ Some name
    pub told : told_at pool spare goods (n + spot) name ≡ Some lack
    pub before : (j : ℕ) (other : List ℕ) → j < spot → slice_get names j ≡ Some other → told_at pool spare goods (n + j) other ≡ None

  moved : (n j : ℕ) (name : List ℕ) (o : Option LackRecord) → told_at pool spare goods (n + 1 + j) name ≡ o → told_at pool spare goods (n + suc j) name ≡ o
  moved n j name o e = let at : n + 1 + j ≡ n + suc j = omega arith in subst (λ (m : ℕ). told_at pool spare goods m name ≡ o) at e

  own-place : (n : ℕ) (name other : List ℕ) (o : Option LackRecord) → Some name ≡ Some other → told_at pool spare goods n name ≡ o → told_at pool spare goods (n + 0) other ≡ o
  own-place n name other o same e =
      let at : n ≡ n + 0 = omega arith in
      subst (λ (m : ℕ). told_at pool spare goods m other ≡ o) at (subst (λ (x : List ℕ). told_at pool spare goods n x ≡ o) (same_Some name other same) e)

  at-or-behind : (n : ℕ) (name : List ℕ) (names : List (List ℕ)) (j : ℕ) (other : List ℕ) → slice_get (name ∷ names) j ≡ Some other → told_at pool spare goods n name ≡ None
      → ((k : ℕ) → slice_get names k ≡ Some other → told_at pool spare goods (n + 1 + k) other ≡ None) → told_at pool spare goods (n + j) other ≡ None
  at-or-behind n name names zero other here none behind = own-place n name other None here none
  at-or-behind n name names (suc j) other here none behind = moved n j other None (behind j here)

  pub told-nobody : (n : ℕ) (names : List (List ℕ)) → told_from pool spare goods n names ≡ None → (j : ℕ) (other : List ℕ) → slice_get names j ≡ Some other → told_at pool spare goods (n + j) other ≡ None
  told-nobody n [] e j other here = cc
  told-nobody n (name ∷ names) e j other here =
      by_option (told_at pool spare goods n name) (told_at pool spare goods (n + j) other ≡ None)
      (λ none. at-or-behind n name names j other here none (λ k at. told-nobody (n + 1) names (rw none at e) k other at))
      (λ lack some. let never : Some lack ≡ None = rw some at e in cc)

  pub told-first : (n : ℕ) (names : List (List ℕ)) (lack : LackRecord) → told_from pool spare goods n names ≡ Some lack → FirstTold n names lack
  told-first n [] lack e = cc
  told-first n (name ∷ names) lack e =
      by_option (told_at pool spare goods n name) (FirstTold n (name ∷ names) lack)
      (λ none. let more = told-first (n + 1) names lack (rw none at e) in record {
        spot = suc more.spot;
        name = more.name;
        listed = more.listed;
        told = moved n more.spot more.name (Some lack) more.told;
        before = λ j other low here. earlier none more.spot more.before j other low here;
      })
      (λ first some. let same : first ≡ lack = same_Some first lack (rw some at e) in record {
        spot = 0;
        name = name;
        listed = refl;
        told = own-place n name name (Some lack) refl (some ∙ ap Some same);
        before = λ j other low here. absurd (omega (arith, low));
      })
    where
      earlier : told_at pool spare goods n name ≡ None → (spot : ℕ) → ((j : ℕ) (other : List ℕ) → j < spot → slice_get names j ≡ Some other → told_at pool spare goods (n + 1 + j) other ≡ None)
          → (j : ℕ) (other : List ℕ) → j < suc spot → slice_get (name ∷ names) j ≡ Some other → told_at pool spare goods (n + j) other ≡ None
      earlier none spot before zero other low here = own-place n name other None here none
      earlier none spot before (suc j) other low here = moved n j other None (before j other (omega (arith, low)) here)
