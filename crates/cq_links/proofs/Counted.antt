-- The tests that are counted: the candidates in an index are as many as among the atoms of all places.
use Rattle.std.proofs.Common.{◌≡◌, ◌≢◌, ℕ, suc, ◌+◌, ◌-◌, ◌*◌, ◌/◌, ◌%◌, ◌<◌, ◌≤◌, Bool, true, false, cond, ◌&&◌, nat_eq, nat_lt, List, [], ◌∷◌, ◌++◌, map, filter, length, Some, None, refl, sym, ap, ◌∙◌, arith}
use Rattle.std.specs.List.{slice_get, sum_by, count_by, flat_map, AllByRecursion, IsDistinct}
use Rattle.std.specs.Map.{lookup, keys_of}
use Rattle.std.specs.Option.{option_map_or}
use Rattle.std.specs.Ordering.{nat_cmp, is_lt}
use Rattle.std.specs.declared.cmp.Ordering.{Ordering}
use Rattle.std.specs.declared.cmp.Ordering.TheVariants.{Less, Equal, Greater}
use Rattle.std.specs.FinMap.{find, is_sorted, get, insert, entries, entries_sorted, get-entries}
use Rattle.std.proofs.Math.Dec.{T}
use Rattle.std.proofs.lemmas.Bool.Decides.{Decides-eqb}
use Rattle.std.proofs.lemmas.Bool.{ltb-true}
use Rattle.std.proofs.lemmas.List.{map-append}
use Rattle.std.proofs.lemmas.List.Sums.{length-filter}
use Rattle.cq_atom.specs.declared.limits.TheConstants.{MAX_ATOMS}
use Rattle.cq_atom.specs.Atom.{AtomRecord}
use Rattle.cq_index.specs.Index.{AtomMap, is_candidate, candidates_of}
use Rattle.cq_index.proofs.CallerLemmas.{candidates-count}
use Rattle.cq_links.specs.Links.{Ends, LinkMap, candidate_count, candidate_pairs}
use Rattle.cq_links.specs.Steps.Blocks.{is_in_block}
use Rattle.cq_links.specs.Steps.Kept.{IsKept}
use Rattle.cq_links.specs.Steps.Asking.{pairs_tested}
use Rattle.cq_links.proofs.Tests.{by_bool, same_number, other_number, nat_tie}
use Rattle.cq_links.proofs.Keys.{key_is, rest_low}
use Rattle.cq_links.proofs.Blocks.{no_block, in_block, from_block, shorter_block, own_put, apart}

-- ---- rising places

less : (r : Ordering) → T (is_lt r) → r ≡ Less
less Less h = refl
less Equal h = absurd h
less Greater h = absurd h

below-nat : (p q : ℕ) → T (is_lt (nat_cmp p q)) → p < q
below-nat p q h = by_bool (nat_lt p q) (p < q)
    (λ t. ltb-true p q t)
    (λ f. absurd (by_bool (nat_eq p q) ⊥ (λ t. rw (f, t) at h) (λ g. rw (f, g) at h)))

split_left : (a b : Bool) → T (a && b) → T a
split_left true b h = tt
split_left false b h = h

split_right : (a b : Bool) → T (a && b) → T b
split_right true b h = h
split_right false b h = absurd h

abbrev below : {X : Type 0} → ℕ → List (ℕ × X) → Bool
below x [] = true
below x (e ∷ es) = is_lt (nat_cmp x e.0) && below x es

find_below : {X : Type 0} (x : ℕ) (es : List (ℕ × X)) → T (below x es) → find nat_cmp x es ≡ None
find_below x [] h = refl
find_below x (e ∷ es) h = rw (less (nat_cmp x e.0) (split_left (is_lt (nat_cmp x e.0)) (below x es) h)) (find_below x es (split_right (is_lt (nat_cmp x e.0)) (below x es) h))

-- ---- the atoms of a place with their keys

numbered : ℕ → List AtomRecord → List (ℕ × AtomRecord)
numbered first [] = []
numbered first (a ∷ atoms) = (first, a) ∷ numbered (suc first) atoms

lookup_numbered : (atoms : List AtomRecord) (first k : ℕ) (rest : List (ℕ × AtomRecord)) → lookup (nat_eq k) (numbered first atoms ++ rest) ≡ cond (is_in_block first (length atoms) k) (slice_get atoms (k - first)) (lookup (nat_eq k) rest)
unfolding numbered
lookup_numbered [] first k rest = rw (no_block first k) refl
lookup_numbered (a ∷ atoms) first k rest = by_bool (nat_eq k first) _
    (λ t.
    let same : k ≡ first = same_number k first t in
    let off : k - first ≡ 0 = omega arith in
    rw (t, in_block first (suc (length atoms)) k (omega arith) (omega arith), off) refl)
    (λ f.
    let other : k ≢ first = other_number k first f in
    rw (f, shorter_block first (length atoms) k other) (lookup_numbered atoms (suc first) k rest ∙ by_bool (is_in_block (suc first) (length atoms) k) _
    (λ t. let inside = from_block (suc first) (length atoms) k t in let off : k - first ≡ suc (k - suc first) = omega arith in rw (t, off) refl)
    (λ g. rw g refl)))

values_numbered : (atoms : List AtomRecord) (first : ℕ) → map (λ e. e.1) (numbered first atoms) ≡ atoms
unfolding numbered
values_numbered [] first = refl
values_numbered (a ∷ atoms) first = ap (λ l. a ∷ l) (values_numbered atoms (suc first))

low_numbered : (atoms : List AtomRecord) (bound first : ℕ) (rest : List (ℕ × AtomRecord)) → bound ≤ first → AllByRecursion (λ k. bound ≤ k) (keys_of rest) → AllByRecursion (λ k. bound ≤ k) (keys_of (numbered first atoms ++ rest))
unfolding numbered
low_numbered [] bound first rest low all = all
low_numbered (a ∷ atoms) bound first rest low all = (low, low_numbered atoms bound (suc first) rest (omega arith) all)

all_weaker : (P Q : ℕ → Type 0) (ks : List ℕ) → ((k : ℕ) → P k → Q k) → AllByRecursion P ks → AllByRecursion Q ks
all_weaker P Q [] f all = tt
all_weaker P Q (k ∷ ks) f all = (f k all.0, all_weaker P Q ks f all.1)

differ : (p q : ℕ) → p ≢ q → nat_eq p q ≡ false
differ p q ne = by_bool (nat_eq p q) (nat_eq p q ≡ false) (λ t. absurd (ne (same_number p q t))) (λ f. f)

distinct_numbered : (atoms : List AtomRecord) (first : ℕ) (rest : List (ℕ × AtomRecord)) → AllByRecursion (λ k. first + length atoms ≤ k) (keys_of rest) → IsDistinct nat_eq (keys_of rest) → IsDistinct nat_eq (keys_of (numbered first atoms ++ rest))
unfolding numbered IsDistinct
distinct_numbered [] first rest low distinct = distinct
distinct_numbered (a ∷ atoms) first rest low distinct = (
  all_weaker (λ k. suc first ≤ k) (λ k. nat_eq first k ≡ false) (keys_of (numbered (suc first) atoms ++ rest)) (λ k above. differ first k (let up : suc first ≤ k = above in omega arith))
      (low_numbered atoms (suc first) (suc first) rest (omega arith) (all_weaker (λ k. first + suc (length atoms) ≤ k) (λ k. suc first ≤ k) (keys_of rest) (λ k above. let up : first + suc (length atoms) ≤ k = above in omega arith) low)),
  distinct_numbered atoms (suc first) rest (all_weaker (λ k. first + suc (length atoms) ≤ k) (λ k. suc first + length atoms ≤ k) (keys_of rest) (λ k above. let up : first + suc (length atoms) ≤ k = above in omega arith) low) distinct,
)

-- ---- all atoms of one side, with their keys

module _ (f : Ends → List AtomRecord) where
  keyed : List (ℕ × Ends) → List (ℕ × AtomRecord)
  keyed [] = []
  keyed (e ∷ es) = numbered (e.0 * MAX_ATOMS) (f e.1) ++ keyed es

  values_keyed : (es : List (ℕ × Ends)) → map (λ e. e.1) (keyed es) ≡ flat_map (λ e. f e.1) es
  unfolding keyed
  values_keyed [] = refl
  values_keyed (e ∷ es) = map-append (λ x. x.1) (numbered (e.0 * MAX_ATOMS) (f e.1)) (keyed es) ∙ (λ i. values_numbered (f e.1) (e.0 * MAX_ATOMS) i ++ values_keyed es i)

  abbrev Few : List (ℕ × Ends) → Type 0
  Few es = AllByRecursion (λ e. length (f e.1) ≤ MAX_ATOMS) es

  low_keyed : (p : ℕ) (es : List (ℕ × Ends)) → T (below p es) → AllByRecursion (λ k. p * MAX_ATOMS + MAX_ATOMS ≤ k) (keys_of (keyed es))
  unfolding keyed
  low_keyed p [] h = tt
  low_keyed p (e ∷ es) h =
      let up : p < e.0 = below-nat p e.0 (split_left (is_lt (nat_cmp p e.0)) (below p es) h) in
      low_numbered (f e.1) (p * MAX_ATOMS + MAX_ATOMS) (e.0 * MAX_ATOMS) (keyed es) (omega arith) (low_keyed p es (split_right (is_lt (nat_cmp p e.0)) (below p es) h))

  distinct_keyed : (es : List (ℕ × Ends)) → T (is_sorted nat_cmp es) → Few es → IsDistinct nat_eq (keys_of (keyed es))
  unfolding keyed IsDistinct
  distinct_keyed [] sorted few = tt
  distinct_keyed (e ∷ es) sorted few =
      let first = e.0 * MAX_ATOMS in
      let room : length (f e.1) ≤ MAX_ATOMS = few.0 in
      distinct_numbered (f e.1) (e.0 * MAX_ATOMS) (keyed es)
      (all_weaker (λ k. e.0 * MAX_ATOMS + MAX_ATOMS ≤ k) (λ k. e.0 * MAX_ATOMS + length (f e.1) ≤ k) (keys_of (keyed es)) (λ k above. let up : e.0 * MAX_ATOMS + MAX_ATOMS ≤ k = above in omega arith)
      (low_keyed e.0 es (split_left (below e.0 es) (is_sorted nat_cmp es) sorted)))
      (distinct_keyed es (split_right (below e.0 es) (is_sorted nat_cmp es) sorted) few.1)

  lookup_keyed : (es : List (ℕ × Ends)) (p i : ℕ) → i < MAX_ATOMS → T (is_sorted nat_cmp es) → Few es → lookup (nat_eq (p * MAX_ATOMS + i)) (keyed es) ≡ slice_get (option_map_or f (find nat_cmp p es) []) i
  unfolding keyed
  lookup_keyed [] p i low sorted few = refl
  lookup_keyed (e ∷ es) p i low sorted few =
      let later = lookup_keyed es p i low (split_right (below e.0 es) (is_sorted nat_cmp es) sorted) few.1 in
      lookup_numbered (f e.1) (e.0 * MAX_ATOMS) (p * MAX_ATOMS + i) (keyed es) ∙ by_bool (nat_eq p e.0) _
      (λ t.
      let same : p ≡ e.0 = same_number p e.0 t in
      let gone : find nat_cmp p es ≡ None = ap (λ q. find nat_cmp q es) same ∙ find_below e.0 es (split_left (below e.0 es) (is_sorted nat_cmp es) sorted) in
      let none : lookup (nat_eq (p * MAX_ATOMS + i)) (keyed es) ≡ None = later ∙ ap (λ o. slice_get (option_map_or f o []) i) gone in
      rw (none, nat_tie p e.0, t) (own_put (f e.1) (e.0 * MAX_ATOMS) i (p * MAX_ATOMS + i) (omega arith)))
      (λ g. rw (apart p e.0 i (length (f e.1)) low few.0 (other_number p e.0 g), nat_tie p e.0, g) later)

  few_entries : (es : List (ℕ × Ends)) → T (is_sorted nat_cmp es) → ((p : ℕ) (e : Ends) → find nat_cmp p es ≡ Some e → length (f e) ≤ MAX_ATOMS) → Few es
  few_entries [] sorted each = tt
  few_entries (e ∷ es) sorted each = (
    each e.0 e.1 (rw (nat_tie e.0 e.0, (Decides-eqb e.0 e.0).1 refl) refl),
    few_entries es (split_right (below e.0 es) (is_sorted nat_cmp es) sorted) (λ p x at. each p x (rw (nat_tie p e.0) (by_bool (nat_eq p e.0) _
        (λ t.
        let gone : find nat_cmp p es ≡ None = ap (λ q. find nat_cmp q es) (same_number p e.0 t) ∙ find_below e.0 es (split_left (below e.0 es) (is_sorted nat_cmp es) sorted) in
        absurd (let no : None ≡ Some x = sym gone ∙ at in cc))
        (λ g. rw g at)))),
  )

-- ---- the candidates of an index that keeps one side of all queries

one_longer : (b : Bool) (e : ℕ × AtomRecord) (xs : List (ℕ × AtomRecord)) (ys : List AtomRecord) → length xs ≡ length ys → length (cond b (e ∷ xs) xs) ≡ length (cond b (e.1 ∷ ys) ys)
one_longer true e xs ys h = ap suc h
one_longer false e xs ys h = h

same_length : (test : AtomRecord → Bool) (es : List (ℕ × AtomRecord)) → length (filter (λ e. test e.1) es) ≡ length (filter test (map (λ e. e.1) es))
same_length test [] = refl
same_length test (e ∷ es) = one_longer (test e.1) e (filter (λ x. test x.1) es) (filter test (map (λ x. x.1) es)) (same_length test es)

candidates_kept : (f : Ends → List AtomRecord) (m : LinkMap) (index : AtomMap) (given : AtomRecord) → ((p i : ℕ) → i < MAX_ATOMS → get index (p * MAX_ATOMS + i) ≡ slice_get (option_map_or f (get m p) []) i)
    → ((p : ℕ) (e : Ends) → get m p ≡ Some e → length (f e) ≤ MAX_ATOMS) → length (candidates_of index given) ≡ candidate_count (flat_map (λ e. f e.1) (entries m)) given
candidates_kept f m index given there few =
    let sorted = entries_sorted m in
    let short = few_entries f (entries m) sorted (λ p e at. few p e (get-entries m p ∙ at)) in
    candidates-count index given (keyed f (entries m)) (distinct_keyed f (entries m) sorted short)
    (λ k. ap (get index) (sym (key_is k)) ∙ there (k / MAX_ATOMS) (k % MAX_ATOMS) (rest_low k) ∙ ap (λ o. slice_get (option_map_or f o []) (k % MAX_ATOMS)) (get-entries m (k / MAX_ATOMS))
    ∙ sym (lookup_keyed f (entries m) (k / MAX_ATOMS) (k % MAX_ATOMS) (rest_low k) sorted short) ∙ ap (λ q. lookup (nat_eq q) (keyed f (entries m))) (key_is k))
    ∙ same_length (is_candidate given) (keyed f (entries m)) ∙ length-filter (is_candidate given) (map (λ e. e.1) (keyed f (entries m))) ∙ ap (count_by (is_candidate given)) (values_keyed f (entries m))

pub pairs_counted : (m : LinkMap) (place : ℕ) (new : Ends) (heads posts new_heads new_posts : AtomMap) → IsKept m heads posts → IsKept (insert m place new) new_heads new_posts
    → pairs_tested new.posts new.heads new_heads posts ≡ candidate_pairs m place new
pairs_counted m place new heads posts new_heads new_posts old now =
    λ i. sum_by (λ post. candidates_kept (λ e. e.heads) (insert m place new) new_heads post now.heads_there (λ p e at. (now.keys p e at).few_heads) i) new.posts
    + sum_by (λ head. candidates_kept (λ e. e.posts) m posts head old.posts_there (λ p e at. (old.keys p e at).few_posts) i) new.heads
