-- Blocks that are put in and taken out atom by atom.
use Rattle.std.proofs.Common.{◌≡◌, ℕ, suc, ◌+◌, ◌-◌, ◌*◌, ◌<◌, ◌≤◌, ◌≢◌, true, false, cond, nat_eq, nat_le, List, length, Some, None, refl, sym, ap, ◌∙◌, arith}
use Rattle.std.specs.List.{slice_get}
use Rattle.std.specs.FinMap.{get, insert, remove, same_map, nat_cmp-IsAntisymmetric}
use Rattle.std.proofs.lemmas.Cmp.{nat_cmp_total}
use Rattle.std.proofs.lemmas.Bool.Decides.{nat_tests}
use Rattle.std.proofs.lemmas.Bool.{leb-true, leb-false}
use Rattle.std.proofs.lemmas.Option.{slice_get_past}
use Rattle.cq_atom.specs.declared.limits.TheConstants.{MAX_ATOMS}
use Rattle.cq_atom.specs.Atom.{AtomRecord}
use Rattle.cq_index.specs.Index.{AtomMap}
use Rattle.cq_links.specs.Steps.Blocks.{is_in_block, TakesBlock}
use Rattle.cq_links.proofs.Tests.{by_bool, same_number, other_number, inserted, removed}

pub in_block : (first count k : ℕ) → first ≤ k → k < first + count → is_in_block first count k ≡ true
in_block first count k a b = grind (arith, nat_tests)

pub from_block : (first count k : ℕ) → is_in_block first count k ≡ true → (first ≤ k) × (k < first + count)
from_block first count k t = (grind (arith, nat_tests), grind (arith, nat_tests))

pub before_block : (first count k : ℕ) → k < first → is_in_block first count k ≡ false
before_block first count k a = grind (arith, nat_tests)

pub behind_block : (first count k : ℕ) → first + count ≤ k → is_in_block first count k ≡ false
behind_block first count k a = grind (arith, nat_tests)

pub no_block : (first k : ℕ) → is_in_block first 0 k ≡ false
no_block first k = grind (arith, nat_tests)

-- a block without its first key
pub shorter_block : (first count k : ℕ) → (k ≡ first → ⊥) → is_in_block first (suc count) k ≡ is_in_block (suc first) count k
shorter_block first count k other = grind (arith, nat_tests)

out_of : (first count i k : ℕ) → k ≡ first + i → is_in_block first count k ≡ false → count ≤ i
out_of first count i k at out = by_bool (nat_le count i) (count ≤ i)
    (λ t. leb-true count i t)
    (λ f. let low : i < count = leb-false count i f in absurd (let inside : is_in_block first count k ≡ true = in_block first count k (omega arith) (omega arith) in let no : true ≡ false = sym inside ∙ out in cc))

-- a block of one key more
pub more_block : (first i k : ℕ) → (k ≡ first + i → ⊥) → is_in_block first (i + 1) k ≡ is_in_block first i k
more_block first i k other = grind (arith, nat_tests)

-- what a block puts at its own keys and after them
pub own_put : (xs : List AtomRecord) (first i k : ℕ) → k ≡ first + i → cond (is_in_block first (length xs) k) (slice_get xs (k - first)) None ≡ slice_get xs i
own_put xs first i k at = by_bool (is_in_block first (length xs) k) (cond (is_in_block first (length xs) k) (slice_get xs (k - first)) None ≡ slice_get xs i)
    (λ t. let off : k - first ≡ i = omega arith in rw (t, off) refl)
    (λ f. rw f (sym (slice_get_past xs i (out_of first (length xs) i k at f))))

-- nothing is left at the keys of a block
pub own_taken : (xs : List AtomRecord) (first i k : ℕ) → k ≡ first + i → cond (is_in_block first (length xs) k) None (slice_get xs i) ≡ None
own_taken xs first i k at = by_bool (is_in_block first (length xs) k) (cond (is_in_block first (length xs) k) None (slice_get xs i) ≡ None)
    (λ t. rw t refl)
    (λ f. rw f (slice_get_past xs i (out_of first (length xs) i k at f)))

-- the keys of one place are no keys of another
pub apart : (p place i count : ℕ) → i < MAX_ATOMS → count ≤ MAX_ATOMS → (p ≡ place → ⊥) → is_in_block (place * MAX_ATOMS) count (p * MAX_ATOMS + i) ≡ false
apart p place i count low few other = by_bool (nat_le p place) (is_in_block (place * MAX_ATOMS) count (p * MAX_ATOMS + i) ≡ false)
    (λ t. let least : p ≤ place = leb-true p place t in let ne : p ≢ place = other in before_block (place * MAX_ATOMS) count (p * MAX_ATOMS + i) (omega arith))
    (λ f. let greater : place < p = leb-false p place f in behind_block (place * MAX_ATOMS) count (p * MAX_ATOMS + i) (omega arith))

module _ (old now new : AtomMap) (first i : ℕ) where
  pub taken_more : TakesBlock first i old now → new ≡ remove now (first + i) → TakesBlock first (i + 1) old new
  taken_more so is k = ap (λ m. get m k) is ∙ removed now (first + i) k ∙ by_bool (nat_eq k (first + i)) (cond (nat_eq k (first + i)) None (get now k) ≡ cond (is_in_block first (i + 1) k) None (get old k))
      (λ t. let here : k ≡ first + i = same_number k (first + i) t in rw (t, in_block first (i + 1) k (omega arith) (omega arith)) refl)
      (λ f. rw (f, more_block first i k (other_number k (first + i) f)) (so k))

  pub put_more : (atoms : List AtomRecord) (a : AtomRecord) → slice_get atoms i ≡ Some a
      → ((k : ℕ) → get now k ≡ cond (is_in_block first i k) (slice_get atoms (k - first)) (get old k)) → new ≡ insert now (first + i) a
      → (k : ℕ) → get new k ≡ cond (is_in_block first (i + 1) k) (slice_get atoms (k - first)) (get old k)
  put_more atoms a at so is k = ap (λ m. get m k) is ∙ inserted now (first + i) a k ∙ by_bool (nat_eq k (first + i)) (cond (nat_eq k (first + i)) (Some a) (get now k) ≡ cond (is_in_block first (i + 1) k) (slice_get atoms (k - first)) (get old k))
      (λ t. let here : k ≡ first + i = same_number k (first + i) t in let off : k - first ≡ i = omega arith in rw (t, in_block first (i + 1) k (omega arith) (omega arith), off) (sym at))
      (λ f. rw (f, more_block first i k (other_number k (first + i) f)) (so k))

-- what was put in and taken out again is as it was
pub undone : (old now new : AtomMap) (first i : ℕ) (atoms : List AtomRecord) → i ≤ length atoms → ((j : ℕ) → j < length atoms → get old (first + j) ≡ None)
    → ((k : ℕ) → get now k ≡ cond (is_in_block first i k) (slice_get atoms (k - first)) (get old k)) → TakesBlock first i now new → new ≡ old
undone old now new first i atoms few free so out = same_map nat_cmp_total nat_cmp-IsAntisymmetric new old (λ k. out k ∙ by_bool (is_in_block first i k) (cond (is_in_block first i k) None (get now k) ≡ get old k)
    (λ t.
    let inside = from_block first i k t in
    let here : first + (k - first) ≡ k = omega arith in
    rw t (sym (ap (get old) (sym here) ∙ free (k - first) (omega arith))))
    (λ f. rw f (so k ∙ rw f refl)))
