-- The rows of each declared relation, one relation after another, are all rows.
use Rattle.std.proofs.Common.{◌≡◌, ℕ, suc, Bool, true, false, List, [], ◌∷◌, ◌++◌, length, map, Some, None, refl, sym, ap, ◌∙◌, arith}
use Rattle.std.specs.Prelude.{not, Option, option_map}
use Rattle.std.specs.declared.cmp.Ordering.TheVariants.{Less, Greater}
use Rattle.std.specs.List.{AllByRecursion, IsDistinct, filter, flat_map}
use Rattle.std.specs.List.Sorted.{IsStrictlySortedBy}
use Rattle.std.specs.Ordering.{nat_cmp}
use Rattle.std.specs.Str.{bytes_eq}
use Rattle.std.proofs.lemmas.Bool.Decides.{nat_tests}
use Rattle.std.proofs.lemmas.List.Elements.{recursion_from_All}
use Rattle.std.proofs.lemmas.Slice.Eq.{bytes_eq-Decides}
use Rattle.std.proofs.lemmas.Map.Keys.{IsDistinct-head, IsDistinct-tail}
use Rattle.cq_atom.specs.Atom.{RowRecord}
use Rattle.cq_rel.specs.Tables.{Declaration, TablesRecord, IsTables, IsUnder, relation_of, place_in, row_order, arity_in, rows_in}
use Rattle.cq_render.proofs.Pieces.{by_bool}

pub same_bytes : (a b : List ℕ) → bytes_eq a b ≡ true → a ≡ b
same_bytes a b e = (bytes_eq-Decides a b).0 e

itself : (a : List ℕ) → bytes_eq a a ≡ true
itself a = (bytes_eq-Decides a a).1 refl

turned_true : (a b : List ℕ) → bytes_eq a b ≡ true → bytes_eq b a ≡ true
turned_true a b e = ap (λ c. bytes_eq c a) (sym (same_bytes a b e)) ∙ itself a

pub turned_false : (a b : List ℕ) → bytes_eq a b ≡ false → bytes_eq b a ≡ false
turned_false a b e = by_bool (bytes_eq b a) (bytes_eq b a ≡ false) (λ t. absurd (let f : false ≡ true = sym e ∙ turned_true b a t in cc)) (λ f. f)

-- the row is one of that relation
abbrev is_of : List ℕ → RowRecord → Bool
is_of name r = bytes_eq name r.relation

-- ---- the order by the first declaration and by those after it

place_here : (d : Declaration) (ds : List Declaration) (name : List ℕ) → bytes_eq d.relation name ≡ true → place_in (d ∷ ds) name ≡ 0
place_here d ds name e = rw (turned_true d.relation name e) refl

place_later : (d : Declaration) (ds : List Declaration) (name : List ℕ) → bytes_eq d.relation name ≡ false → place_in (d ∷ ds) name ≡ suc (place_in ds name)
place_later d ds name e = rw (turned_false d.relation name e) (omega arith)

nat_greater : (n : ℕ) → nat_cmp (suc n) 0 ≡ Greater
nat_greater n = grind (arith, nat_tests)

nat_later : (m n : ℕ) → nat_cmp (suc m) (suc n) ≡ nat_cmp m n
nat_later m n = grind (arith, nat_tests)

order_last : (d : Declaration) (ds : List Declaration) (r s : RowRecord) → is_of d.relation r ≡ false → is_of d.relation s ≡ true → row_order (d ∷ ds) r s ≡ Greater
order_last d ds r s e f = rw (place_later d ds r.relation e, place_here d ds s.relation f, nat_greater (place_in ds r.relation)) refl

order_later : (d : Declaration) (ds : List Declaration) (r s : RowRecord) → is_of d.relation r ≡ false → is_of d.relation s ≡ false → row_order (d ∷ ds) r s ≡ row_order ds r s
order_later d ds r s e f = rw (place_later d ds r.relation e, place_later d ds s.relation f, nat_later (place_in ds r.relation) (place_in ds s.relation)) refl

-- ---- the rows of the first declaration come first

module _ (d : Declaration) (ds : List Declaration) where
  mine : List RowRecord → List RowRecord
  mine rs = filter (is_of d.relation) rs

  others : List RowRecord → List RowRecord
  others rs = filter (λ r. not (is_of d.relation r)) rs

  -- after a row of another relation there is none of this
  no_more : (r : RowRecord) → is_of d.relation r ≡ false → (rs : List RowRecord) → AllByRecursion (λ s. row_order (d ∷ ds) r s ≡ Less) rs → (mine rs ≡ []) × (others rs ≡ rs)
  unfolding mine others
  no_more r e [] h = (refl, refl)
  no_more r e (s ∷ rs) h =
      let rest = no_more r e rs h.1 in
      by_bool (is_of d.relation s) ((mine (s ∷ rs) ≡ []) × (others (s ∷ rs) ≡ s ∷ rs))
      (λ t. absurd (let never : Less ≡ Greater = sym h.0 ∙ order_last d ds r s e t in cc)) (λ f. (rw f rest.0, rw f (ap (λ (l : List RowRecord). s ∷ l) rest.1)))

  split : (rs : List RowRecord) → IsStrictlySortedBy (row_order (d ∷ ds)) rs → mine rs ++ others rs ≡ rs
  unfolding mine others IsStrictlySortedBy
  split [] up = refl
  split (r ∷ rs) up =
      by_bool (is_of d.relation r) (mine (r ∷ rs) ++ others (r ∷ rs) ≡ r ∷ rs)
      (λ t. rw t (ap (λ (l : List RowRecord). r ∷ l) (split rs up.1)))
      (λ f. let none = no_more r f rs up.0 in rw (f, none.0) (ap (λ (l : List RowRecord). r ∷ l) none.1))

  others_under : (rs : List RowRecord) → AllByRecursion (IsUnder (d ∷ ds)) rs → AllByRecursion (IsUnder ds) (others rs)
  unfolding others
  others_under [] h = tt
  others_under (r ∷ rs) h =
      by_bool (is_of d.relation r) (AllByRecursion (IsUnder ds) (others (r ∷ rs)))
      (λ t. rw t (others_under rs h.1))
      (λ f. rw f (let under : arity_in ds r.relation ≡ Some (length r.values) = rw (turned_false d.relation r.relation f) at h.0 in (under, others_under rs h.1)))

  others_above : (r : RowRecord) → is_of d.relation r ≡ false → (rs : List RowRecord) → AllByRecursion (λ s. row_order (d ∷ ds) r s ≡ Less) rs → AllByRecursion (λ s. row_order ds r s ≡ Less) (others rs)
  unfolding others
  others_above r e [] h = tt
  others_above r e (s ∷ rs) h =
      by_bool (is_of d.relation s) (AllByRecursion (λ s. row_order ds r s ≡ Less) (others (s ∷ rs)))
      (λ t. rw t (others_above r e rs h.1))
      (λ f. rw f (sym (order_later d ds r s e f) ∙ h.0, others_above r e rs h.1))

  others_ascending : (rs : List RowRecord) → IsStrictlySortedBy (row_order (d ∷ ds)) rs → IsStrictlySortedBy (row_order ds) (others rs)
  unfolding others IsStrictlySortedBy
  others_ascending [] up = tt
  others_ascending (r ∷ rs) up =
      by_bool (is_of d.relation r) (IsStrictlySortedBy (row_order ds) (others (r ∷ rs)))
      (λ t. rw t (others_ascending rs up.1))
      (λ f. rw f (others_above r f rs up.0, others_ascending rs up.1))

  -- the rows of another relation are among the others
  among_others : (name : List ℕ) → bytes_eq d.relation name ≡ false → (rs : List RowRecord) → filter (is_of name) (others rs) ≡ filter (is_of name) rs
  unfolding others
  among_others name e [] = refl
  among_others name e (r ∷ rs) =
      by_bool (is_of name r) (filter (is_of name) (others (r ∷ rs)) ≡ filter (is_of name) (r ∷ rs))
      (λ t.
      let apart : is_of d.relation r ≡ false = ap (bytes_eq d.relation) (sym (same_bytes name r.relation t)) ∙ e in
      rw (apart, t) (ap (λ (l : List RowRecord). r ∷ l) (among_others name e rs)))
      (λ f. by_bool (is_of d.relation r) (filter (is_of name) (others (r ∷ rs)) ≡ filter (is_of name) (r ∷ rs)) (λ t. rw (t, f) (among_others name e rs)) (λ g. rw (g, f) (among_others name e rs)))

  each_among : (rs : List RowRecord) (more : List Declaration) → AllByRecursion (λ y. bytes_eq d.relation y ≡ false) (map relation_of more)
      → flat_map (λ x. filter (is_of x.relation) (others rs)) more ≡ flat_map (λ x. filter (is_of x.relation) rs) more
  each_among rs [] h = refl
  each_among rs (x ∷ more) h = rw (among_others x.relation h.0 rs, each_among rs more h.1) refl

by_relation : (ds : List Declaration) (rs : List RowRecord) → IsDistinct bytes_eq (map relation_of ds) → AllByRecursion (IsUnder ds) rs → IsStrictlySortedBy (row_order ds) rs
    → flat_map (λ d. filter (is_of d.relation) rs) ds ≡ rs
unfolding mine
by_relation [] [] distinct under up = refl
by_relation [] (r ∷ rs) distinct under up = absurd (let never = under.0 in cc)
by_relation (d ∷ ds) rs distinct under up =
    ap (λ (l : List RowRecord). filter (is_of d.relation) rs ++ l)
    (sym (each_among d ds rs ds (IsDistinct-head bytes_eq d.relation (map relation_of ds) distinct))
    ∙ by_relation ds (others d ds rs) (IsDistinct-tail bytes_eq d.relation (map relation_of ds) distinct) (others_under d ds rs under) (others_ascending d ds rs up))
    ∙ split d ds rs up

pub rows_by_relation : (tables : TablesRecord) → IsTables tables → flat_map (λ d. rows_in d.relation tables) tables.catalog ≡ tables.rows
rows_by_relation tables good = by_relation tables.catalog tables.rows good.catalog.distinct (recursion_from_All (IsUnder tables.catalog) tables.rows good.under) good.ascending

-- the rows that are shown of a declared relation
pub shown_rows : (o : Option ℕ) (all rows : List RowRecord) → Some rows ≡ option_map (λ _. all) o → rows ≡ all
shown_rows None all rows e = absurd cc
shown_rows (Some n) all rows e = cc
