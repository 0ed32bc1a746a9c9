-- Loops that tell what is lacking, one turn after another.
use Rattle.std.proofs.Common.{◌≡◌, ℕ, ◌+◌, ◌<◌, ◌≤◌, Bool, true, false, ◌||◌, not, List, [], ◌∷◌, length, map, drop, get_or, refl, sym, ap, ◌∙◌, Option, Some, None}
use Rattle.std.specs.Prelude.{if◌then◌else◌, option_map, is_some}
use Rattle.std.proofs.lemmas.List.{drop_all}
use Rattle.cq_atom.specs.Value.{ValueContent}
use Rattle.cq_atom.specs.Query.{QueryRecord}
use Rattle.cq_board.specs.Pool.{PoolRecord}
use Rattle.cq_board.specs.Named.{query_named, groundings_named}
use Rattle.cq_choose.specs.declared.telling.Disagreement.{Disagreement}
use Rattle.cq_choose.specs.Steps.Goods.{GoodContent}
use Rattle.cq_choose.specs.Steps.Reach.{is_spare}
use Rattle.cq_choose.specs.Steps.Telling.{LackRecord, lack_of, is_known, lacking_from, lacking, has_all, agrees, first_of, told_of, told_at, told_from}
use Rattle.cq_choose.proofs.Terms.{ahead}
use Rattle.cq_choose.proofs.Offered.{idle-not_taken}

module _ {X : Type 0} (goods : List GoodContent) (f : X → GoodContent) where
  lacking-split : (xs : List X) (i : ℕ) (x : X) → i < length xs → x ≡ get_or xs i x
      → lacking_from goods i (map f (drop i xs)) ≡ (if is_known goods (f x) then lacking_from goods (i + 1) (map f (drop (i + 1) xs)) else Some i)
  lacking-split xs i x low is = ap (λ (l : List X). lacking_from goods i (map f l)) (ahead xs i x low is)

  pub lacking-on : (xs : List X) (i : ℕ) (x : X) → i < length xs → x ≡ get_or xs i x → is_known goods (f x) ≡ true
      → lacking_from goods i (map f (drop i xs)) ≡ lacking_from goods (i + 1) (map f (drop (i + 1) xs))
  lacking-on xs i x low is known = lacking-split xs i x low is ∙ ap (λ (t : Bool). if t then lacking_from goods (i + 1) (map f (drop (i + 1) xs)) else Some i) known

  pub lacking-here : (xs : List X) (i : ℕ) (x : X) → i < length xs → x ≡ get_or xs i x → is_known goods (f x) ≡ false → lacking_from goods i (map f (drop i xs)) ≡ Some i
  lacking-here xs i x low is known = lacking-split xs i x low is ∙ ap (λ (t : Bool). if t then lacking_from goods (i + 1) (map f (drop (i + 1) xs)) else Some i) known

  pub lacking-end : (xs : List X) (i : ℕ) → length xs ≤ i → lacking_from goods i (map f (drop i xs)) ≡ None
  lacking-end xs i past = ap (λ (l : List X). lacking_from goods i (map f l)) (drop_all i xs past)

module _ {X A : Type 0} (pool : PoolRecord) (spare : List Bool) (goods : List GoodContent) (read : X → List ℕ) where
  told-split : (xs : List X) (i : ℕ) (x : X) → i < length xs → x ≡ get_or xs i x → (o : Option (Disagreement A)) → option_map lack_of o ≡ told_at pool spare goods i (read x)
      → told_from pool spare goods i (map read (drop i xs)) ≡ first_of (option_map lack_of o) (told_from pool spare goods (i + 1) (map read (drop (i + 1) xs)))
  told-split xs i x low is o told =
      ap (λ (l : List X). told_from pool spare goods i (map read l)) (ahead xs i x low is)
      ∙ ap (λ (lack : Option LackRecord). first_of lack (told_from pool spare goods (i + 1) (map read (drop (i + 1) xs)))) (sym told)

  first-some : (o : Option (Disagreement A)) (other : Option LackRecord) → is_some o ≡ true → first_of (option_map lack_of o) other ≡ option_map lack_of o
  first-some None other s = let never : false ≡ true = s in cc
  first-some (Some d) other s = refl

  first-none : (o : Option (Disagreement A)) (other : Option LackRecord) → is_some o ≡ false → first_of (option_map lack_of o) other ≡ other
  first-none None other s = refl
  first-none (Some d) other s = let never : true ≡ false = s in cc

  pub told-on : (xs : List X) (i : ℕ) (x : X) → i < length xs → x ≡ get_or xs i x → (o : Option (Disagreement A)) → option_map lack_of o ≡ told_at pool spare goods i (read x) → is_some o ≡ false
      → told_from pool spare goods i (map read (drop i xs)) ≡ told_from pool spare goods (i + 1) (map read (drop (i + 1) xs))
  told-on xs i x low is o told none = told-split xs i x low is o told ∙ first-none o (told_from pool spare goods (i + 1) (map read (drop (i + 1) xs))) none

  pub told-here : (xs : List X) (i : ℕ) (x : X) → i < length xs → x ≡ get_or xs i x → (o : Option (Disagreement A)) → option_map lack_of o ≡ told_at pool spare goods i (read x) → is_some o ≡ true
      → told_from pool spare goods i (map read (drop i xs)) ≡ option_map lack_of o
  told-here xs i x low is o told some = told-split xs i x low is o told ∙ first-some o (told_from pool spare goods (i + 1) (map read (drop (i + 1) xs))) some

module _ {X : Type 0} (pool : PoolRecord) (spare : List Bool) (goods : List GoodContent) (read : X → List ℕ) where
  pub told-end : (xs : List X) (i : ℕ) → length xs ≤ i → told_from pool spare goods i (map read (drop i xs)) ≡ None
  told-end xs i past = ap (λ (l : List X). told_from pool spare goods i (map read l)) (drop_all i xs past)

module _ {X : Type 0} (goods : List GoodContent) (query : QueryRecord) (read : X → List ValueContent) where
  pub agrees-on : (xs rest : List X) (x : X) → xs ≡ x ∷ rest → has_all (lacking goods query (read x)) ≡ false → agrees goods query (map read rest) ≡ agrees goods query (map read xs)
  agrees-on xs rest x is lacks = sym (ap (λ (l : List X). agrees goods query (map read l)) is ∙ ap (λ (b : Bool). b || agrees goods query (map read rest)) lacks)

  pub agrees-here : (xs rest : List X) (x : X) → xs ≡ x ∷ rest → has_all (lacking goods query (read x)) ≡ true → agrees goods query (map read xs) ≡ true
  agrees-here xs rest x is all = ap (λ (l : List X). agrees goods query (map read l)) is ∙ ap (λ (b : Bool). b || agrees goods query (map read rest)) all

  pub agrees-end : (xs : List X) → xs ≡ [] → agrees goods query (map read xs) ≡ false
  agrees-end xs is = ap (λ (l : List X). agrees goods query (map read l)) is

-- whether nothing is lacking, by the test of the code
pub all-or-some : (goods : List GoodContent) (query : QueryRecord) (values read : List ValueContent) (o : Option ℕ) (b : Bool) → read ≡ values → o ≡ lacking goods query read → is_some o ≡ not b
    → has_all (lacking goods query values) ≡ b
all-or-some goods query values read o b same is tests = ap (λ (v : List ValueContent). has_all (lacking goods query v)) (sym same) ∙ ap has_all (sym is) ∙ by-case o b tests
  where
    by-case : (o : Option ℕ) (b : Bool) → is_some o ≡ not b → has_all o ≡ b
    by-case None true t = refl
    by-case None false t = cc
    by-case (Some n) true t = cc
    by-case (Some n) false t = refl

-- where the flag is set nothing is told
pub idle-not_told : (pool : PoolRecord) (spare : List Bool) (goods : List GoodContent) (place : ℕ) (name : List ℕ) → is_spare spare place ≡ true → None ≡ told_at pool spare goods place name
idle-not_told pool spare goods place name idle =
    sym (ap (λ (t : Bool). if t then told_of goods name (query_named name pool.pending) (groundings_named name pool) else None) (idle-not_taken pool spare place name idle))
