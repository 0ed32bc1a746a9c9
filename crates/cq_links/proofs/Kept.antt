-- What the two indexes keep, as the finite map from places to ends that contracts see.
use Rattle.std.proofs.Common.{◌≡◌, ◌≢◌, ℕ, zero, suc, ◌+◌, ◌-◌, ◌*◌, ◌/◌, ◌%◌, ◌<◌, ◌≤◌, Bool, ◌||◌, true, false, cond, nat_eq, List, [], ◌∷◌, map, length, Option, Some, None, is_some, refl, sym, ap, subst, ◌∙◌, arith}
use Rattle.std.specs.List.{slice_get, list_any}
use Rattle.std.specs.Option.{option_map_or}
use Rattle.std.specs.Ordering.{nat_cmp}
use Rattle.std.specs.FinMap.{find, get, insert, remove, empty, entries, get-entries, get-empty, get-from_entries, same_map, nat_cmp-IsAntisymmetric}
use Rattle.std.proofs.lemmas.Cmp.{nat_cmp_total}
use Rattle.std.proofs.lemmas.Bool.Decides.{Decides-eqb}
use Rattle.cq_atom.specs.declared.limits.TheConstants.{MAX_ATOMS}
use Rattle.cq_atom.specs.Atom.{AtomRecord}
use Rattle.cq_index.specs.Index.{AtomMap}
use Rattle.cq_links.specs.Links.{Ends, LinkMap, heads_at, posts_at}
use Rattle.cq_links.specs.declared.block.TheConstants.{PLACES}
use Rattle.cq_links.specs.Steps.Blocks.{is_in_block, PutsBlock, TakesBlock}
use Rattle.cq_links.specs.Steps.Kept.{atoms_from, ends_in, links_of, HasKeys, IsKept}
use Rattle.cq_links.proofs.Tests.{by_bool, same_number, other_number, nat_tie, inserted, removed}
use Rattle.cq_links.proofs.Blocks.{own_put, own_taken, apart, undone}

-- the keys have one list of atoms
pub atoms_are : (index : AtomMap) (xs : List AtomRecord) (first n : ℕ) → length xs ≤ n → ((i : ℕ) → i < n → get index (first + i) ≡ slice_get xs i) → atoms_from index first n ≡ xs
unfolding atoms_from
atoms_are index [] first zero few at = refl
atoms_are index (x ∷ xs) first zero few at = absurd (omega arith)
atoms_are index [] first (suc n) few at =
    let here : first ≡ first + 0 = omega arith in
    let none : get index first ≡ None = ap (get index) here ∙ at 0 (omega arith) in
    rw none (atoms_are index [] (suc first) n (omega arith) (λ i low. let moved : suc first + i ≡ first + suc i = omega arith in ap (get index) moved ∙ at (suc i) (omega arith)))
atoms_are index (x ∷ xs) first (suc n) few at =
    let here : first ≡ first + 0 = omega arith in
    let some : get index first ≡ Some x = ap (get index) here ∙ at 0 (omega arith) in
    rw some (ap (λ l. x ∷ l) (atoms_are index xs (suc first) n (omega arith) (λ i low. let moved : suc first + i ≡ first + suc i = omega arith in ap (get index) moved ∙ at (suc i) (omega arith))))

-- ---- which places have an entry

or_left : (a b : Bool) → a ≡ true → (a || b) ≡ true
or_left true b t = refl
or_left false b t = absurd cc

or_right : (a b : Bool) → b ≡ true → (a || b) ≡ true
or_right true b t = refl
or_right false b t = t

abbrev is_of : ℕ → ℕ × AtomRecord → Bool
is_of p e = nat_eq p (e.0 / MAX_ATOMS)

find_made : (f : ℕ → Ends) (p : ℕ) (es : List (ℕ × AtomRecord)) → find nat_cmp p (map (λ e. (e.0 / MAX_ATOMS, f (e.0 / MAX_ATOMS))) es) ≡ cond (list_any (is_of p) es) (Some (f p)) None
find_made f p [] = refl
find_made f p (e ∷ es) = rw (nat_tie p (e.0 / MAX_ATOMS)) (by_bool (nat_eq p (e.0 / MAX_ATOMS)) _
    (λ t. rw t (ap (λ q. Some (f q)) (sym (same_number p (e.0 / MAX_ATOMS) t))))
    (λ no. rw no (find_made f p es)))

entry_found : (p : ℕ) (es : List (ℕ × AtomRecord)) → list_any (is_of p) es ≡ true → (k : ℕ) × (p ≡ k / MAX_ATOMS) × (is_some (find nat_cmp k es) ≡ true)
entry_found p [] h = absurd cc
entry_found p (e ∷ es) h = by_bool (nat_eq p (e.0 / MAX_ATOMS)) _
    (λ t. (e.0, same_number p (e.0 / MAX_ATOMS) t, rw (nat_tie e.0 e.0, (Decides-eqb e.0 e.0).1 refl) refl))
    (λ no.
    let rest = entry_found p es (rw no at h) in
    (rest.0, rest.1, rw (nat_tie rest.0 e.0) (by_bool (nat_eq rest.0 e.0) _ (λ t. rw t refl) (λ f. rw f rest.2))))

entry_counts : (k : ℕ) (es : List (ℕ × AtomRecord)) → is_some (find nat_cmp k es) ≡ true → list_any (is_of (k / MAX_ATOMS)) es ≡ true
entry_counts k [] h = absurd cc
entry_counts k (e ∷ es) h = by_bool (nat_eq k e.0) _
    (λ t. or_left (nat_eq (k / MAX_ATOMS) (e.0 / MAX_ATOMS)) _ ((Decides-eqb (k / MAX_ATOMS) (e.0 / MAX_ATOMS)).1 (ap (λ n. n / MAX_ATOMS) (same_number k e.0 t))))
    (λ f. or_right (nat_eq (k / MAX_ATOMS) (e.0 / MAX_ATOMS)) _ (entry_counts k es (rw (nat_tie k e.0, f) at h)))

-- ---- the map that is kept is the one that is seen

pub few_parts : (f : Ends → List AtomRecord) (o : Option Ends) → ((e : Ends) → o ≡ Some e → length (f e) ≤ MAX_ATOMS) → length (option_map_or f o []) ≤ MAX_ATOMS
few_parts f None few = omega arith
few_parts f (Some e) few = few e refl

some_first : (xs : List AtomRecord) → 1 ≤ length xs → is_some (slice_get xs 0) ≡ true
some_first [] h = absurd (omega arith)
some_first (x ∷ xs) h = refl

module _ (m : LinkMap) (heads posts : AtomMap) (kept : IsKept m heads posts) where
  pub few_heads_at : (p : ℕ) → length (heads_at m p) ≤ MAX_ATOMS
  few_heads_at p = few_parts (λ e. e.heads) (get m p) (λ e h. (kept.keys p e h).few_heads)

  pub few_posts_at : (p : ℕ) → length (posts_at m p) ≤ MAX_ATOMS
  few_posts_at p = few_parts (λ e. e.posts) (get m p) (λ e h. (kept.keys p e h).few_posts)

  seen_at : (p : ℕ) (o : Option Ends) → get m p ≡ o → cond (list_any (is_of p) (entries heads)) (Some (ends_in heads posts p)) None ≡ o
  seen_at p None none = by_bool (list_any (is_of p) (entries heads)) _
      (λ t.
      let found = entry_found p (entries heads) t in
      let key : found.0 ≡ p * MAX_ATOMS + found.0 % MAX_ATOMS = (let at = found.1 in omega arith) in
      let gone : get heads found.0 ≡ None = ap (get heads) key ∙ kept.heads_there p (found.0 % MAX_ATOMS) (omega arith) ∙ ap (λ o. slice_get (option_map_or (λ e. e.heads) o []) (found.0 % MAX_ATOMS)) none in
      let there : is_some (get heads found.0) ≡ true = ap is_some (get-entries heads found.0) ∙ found.2 in
      absurd (let no : true ≡ false = sym there ∙ ap is_some gone in cc))
      (λ f. rw f refl)
  seen_at p (Some e) some =
      let keys = kept.keys p e some in
      let there : is_some (get heads (p * MAX_ATOMS + 0)) ≡ true = ap is_some (kept.heads_there p 0 (omega arith) ∙ ap (λ o. slice_get (option_map_or (λ x. x.heads) o []) 0) some) ∙ some_first e.heads keys.headed in
      let place : (p * MAX_ATOMS + 0) / MAX_ATOMS ≡ p = omega arith in
      let counts : list_any (is_of p) (entries heads) ≡ true = ap (λ q. list_any (is_of q) (entries heads)) (sym place) ∙ entry_counts (p * MAX_ATOMS + 0) (entries heads) (ap is_some (sym (get-entries heads (p * MAX_ATOMS + 0))) ∙ there) in
      let own_heads : atoms_from heads (p * MAX_ATOMS) MAX_ATOMS ≡ e.heads = atoms_are heads e.heads (p * MAX_ATOMS) MAX_ATOMS keys.few_heads (λ i low. kept.heads_there p i low ∙ ap (λ o. slice_get (option_map_or (λ x. x.heads) o []) i) some) in
      let own_posts : atoms_from posts (p * MAX_ATOMS) MAX_ATOMS ≡ e.posts = atoms_are posts e.posts (p * MAX_ATOMS) MAX_ATOMS keys.few_posts (λ i low. kept.posts_there p i low ∙ ap (λ o. slice_get (option_map_or (λ x. x.posts) o []) i) some) in
      rw counts (λ i. Some (record { heads = own_heads i; posts = own_posts i }))

  pub seen : links_of heads posts ≡ m
  seen = same_map nat_cmp_total nat_cmp-IsAntisymmetric (links_of heads posts) m (λ p.
      get-from_entries nat_cmp_total (map (λ e. (e.0 / MAX_ATOMS, ends_in heads posts (e.0 / MAX_ATOMS))) (entries heads)) p ∙ find_made (ends_in heads posts) p (entries heads) ∙ seen_at p (get m p) refl)

  pub kept_seen : IsKept (links_of heads posts) heads posts
  kept_seen = subst (λ x. IsKept x heads posts) (sym seen) kept

pub nothing_kept : (heads posts : AtomMap) → heads ≡ empty → posts ≡ empty → IsKept empty heads posts
nothing_kept heads posts no_heads no_posts = record {
  heads_there = λ p i low. ap (λ x. get x (p * MAX_ATOMS + i)) no_heads ∙ get-empty nat_cmp (p * MAX_ATOMS + i) ∙ sym (ap (λ o. slice_get (option_map_or (λ e. e.heads) o []) i) (get-empty nat_cmp p));
  posts_there = λ p i low. ap (λ x. get x (p * MAX_ATOMS + i)) no_posts ∙ get-empty nat_cmp (p * MAX_ATOMS + i) ∙ sym (ap (λ o. slice_get (option_map_or (λ e. e.posts) o []) i) (get-empty nat_cmp p));
  keys = λ p e h. absurd (let no : Some e ≡ None = sym h ∙ get-empty nat_cmp p in cc);
}

-- ---- a query comes

some_is : {X : Type 0} (x y : X) → Some x ≡ Some y → x ≡ y
some_is x y e = cc

module _ (f : Ends → List AtomRecord) (m : LinkMap) (place : ℕ) (new : Ends) (old now : AtomMap) (there : (p i : ℕ) → i < MAX_ATOMS → get old (p * MAX_ATOMS + i) ≡ slice_get (option_map_or f (get m p) []) i) (few : length (f new) ≤ MAX_ATOMS) where
  put_there : get m place ≡ None → PutsBlock (place * MAX_ATOMS) (f new) old now → (p i : ℕ) → i < MAX_ATOMS → get now (p * MAX_ATOMS + i) ≡ slice_get (option_map_or f (get (insert m place new) p) []) i
  put_there none puts p i low = puts (p * MAX_ATOMS + i) ∙ by_bool (nat_eq p place) (cond (is_in_block (place * MAX_ATOMS) (length (f new)) (p * MAX_ATOMS + i)) (slice_get (f new) (p * MAX_ATOMS + i - place * MAX_ATOMS)) (get old (p * MAX_ATOMS + i)) ≡ slice_get (option_map_or f (get (insert m place new) p) []) i)
      (λ t.
      let same : p ≡ place = same_number p place t in
      let seen : get (insert m place new) p ≡ Some new = inserted m place new p ∙ rw t refl in
      let gone : get old (p * MAX_ATOMS + i) ≡ None = there p i low ∙ ap (λ q. slice_get (option_map_or f (get m q) []) i) same ∙ ap (λ o. slice_get (option_map_or f o []) i) none in
      rw (gone, seen) (own_put (f new) (place * MAX_ATOMS) i (p * MAX_ATOMS + i) (omega arith)))
      (λ g.
      let other : p ≢ place = other_number p place g in
      let seen : get (insert m place new) p ≡ get m p = inserted m place new p ∙ rw g refl in
      rw (apart p place i (length (f new)) low few other, seen) (there p i low))

  take_there : get m place ≡ Some new → TakesBlock (place * MAX_ATOMS) (length (f new)) old now → (p i : ℕ) → i < MAX_ATOMS → get now (p * MAX_ATOMS + i) ≡ slice_get (option_map_or f (get (remove m place) p) []) i
  take_there some takes p i low = takes (p * MAX_ATOMS + i) ∙ by_bool (nat_eq p place) (cond (is_in_block (place * MAX_ATOMS) (length (f new)) (p * MAX_ATOMS + i)) None (get old (p * MAX_ATOMS + i)) ≡ slice_get (option_map_or f (get (remove m place) p) []) i)
      (λ t.
      let same : p ≡ place = same_number p place t in
      let seen : get (remove m place) p ≡ None = removed m place p ∙ rw t refl in
      let here : get old (p * MAX_ATOMS + i) ≡ slice_get (f new) i = there p i low ∙ ap (λ q. slice_get (option_map_or f (get m q) []) i) same ∙ ap (λ o. slice_get (option_map_or f o []) i) some in
      rw (here, seen) (own_taken (f new) (place * MAX_ATOMS) i (p * MAX_ATOMS + i) (omega arith)))
      (λ g.
      let other : p ≢ place = other_number p place g in
      let seen : get (remove m place) p ≡ get m p = removed m place p ∙ rw g refl in
      rw (apart p place i (length (f new)) low few other, seen) (there p i low))

module _ (m : LinkMap) (place : ℕ) (ends : Ends) (heads posts new_heads new_posts : AtomMap) (kept : IsKept m heads posts) where
  pub kept_added : get m place ≡ None → HasKeys place ends → PutsBlock (place * MAX_ATOMS) ends.heads heads new_heads → PutsBlock (place * MAX_ATOMS) ends.posts posts new_posts → IsKept (insert m place ends) new_heads new_posts
  kept_added none has puts_heads puts_posts = record {
    heads_there = put_there (λ e. e.heads) m place ends heads new_heads kept.heads_there has.few_heads none puts_heads;
    posts_there = put_there (λ e. e.posts) m place ends posts new_posts kept.posts_there has.few_posts none puts_posts;
    keys = λ p e h. by_bool (nat_eq p place) (HasKeys p e)
        (λ t.
        let is : Some ends ≡ Some e = sym (inserted m place ends p ∙ rw t refl) ∙ h in
        subst (λ x. HasKeys p x) (some_is ends e is) (subst (λ q. HasKeys q ends) (sym (same_number p place t)) has))
        (λ f. kept.keys p e (let is : get (insert m place ends) p ≡ get m p = inserted m place ends p ∙ rw f refl in sym is ∙ h));
  }

  pub kept_removed : get m place ≡ Some ends → TakesBlock (place * MAX_ATOMS) (length ends.heads) heads new_heads → TakesBlock (place * MAX_ATOMS) (length ends.posts) posts new_posts → IsKept (remove m place) new_heads new_posts
  kept_removed some takes_heads takes_posts = record {
    heads_there = take_there (λ e. e.heads) m place ends heads new_heads kept.heads_there (kept.keys place ends some).few_heads some takes_heads;
    posts_there = take_there (λ e. e.posts) m place ends posts new_posts kept.posts_there (kept.keys place ends some).few_posts some takes_posts;
    keys = λ p e h. by_bool (nat_eq p place) (HasKeys p e)
        (λ t. absurd (let is : None ≡ Some e = sym (removed m place p ∙ rw t refl) ∙ h in cc))
        (λ f. kept.keys p e (let is : get (remove m place) p ≡ get m p = removed m place p ∙ rw f refl in sym is ∙ h));
  }

  -- the keys of a place where none stands are free, and those of one that is there have its atoms
  pub free_heads : get m place ≡ None → (i : ℕ) → i < MAX_ATOMS → get heads (place * MAX_ATOMS + i) ≡ None
  free_heads none i low = kept.heads_there place i low ∙ ap (λ o. slice_get (option_map_or (λ e. e.heads) o []) i) none

  pub free_posts : get m place ≡ None → (i : ℕ) → i < MAX_ATOMS → get posts (place * MAX_ATOMS + i) ≡ None
  free_posts none i low = kept.posts_there place i low ∙ ap (λ o. slice_get (option_map_or (λ e. e.posts) o []) i) none

  pub heads_here : get m place ≡ Some ends → (i : ℕ) → i < MAX_ATOMS → get heads (place * MAX_ATOMS + i) ≡ slice_get ends.heads i
  heads_here some i low = kept.heads_there place i low ∙ ap (λ o. slice_get (option_map_or (λ e. e.heads) o []) i) some

  pub posts_here : get m place ≡ Some ends → (i : ℕ) → i < MAX_ATOMS → get posts (place * MAX_ATOMS + i) ≡ slice_get ends.posts i
  posts_here some i low = kept.posts_there place i low ∙ ap (λ o. slice_get (option_map_or (λ e. e.posts) o []) i) some

-- what the type's invariant says of the value that is seen
pub kept_of : (m : LinkMap) (heads posts : AtomMap) → links_of heads posts ≡ m → IsKept (links_of heads posts) heads posts → IsKept m heads posts
kept_of m heads posts view kept = subst (λ x. IsKept x heads posts) view kept

-- a query's ends have keys at a place that is low enough
pub has_keys : (place : ℕ) (ends : Ends) → place * MAX_ATOMS + MAX_ATOMS < 18446744073709551616 → 1 ≤ length ends.heads → length ends.heads ≤ MAX_ATOMS → length ends.posts ≤ MAX_ATOMS → HasKeys place ends
has_keys place ends low headed few_heads few_posts = record { headed = headed; few_heads = few_heads; few_posts = few_posts; low = low }

-- heads that were put in and taken out again are as they were
pub undone_heads : (place : ℕ) (atoms : List AtomRecord) (old now new : AtomMap) → length atoms ≤ MAX_ATOMS → ((i : ℕ) → i < MAX_ATOMS → get old (place * MAX_ATOMS + i) ≡ None)
    → PutsBlock (place * MAX_ATOMS) atoms old now → TakesBlock (place * MAX_ATOMS) (length atoms) now new → new ≡ old
undone_heads place atoms old now new few free puts takes = undone old now new (place * MAX_ATOMS) (length atoms) atoms (omega arith) (λ j low. free j (omega arith)) puts takes

-- a query stands where its first head does
module _ (m : LinkMap) (heads posts : AtomMap) (kept : IsKept m heads posts) (place : ℕ) where
  headed : (o : Option Ends) → get m place ≡ o → is_some (slice_get (option_map_or (λ e. e.heads) o []) 0) ≡ is_some o
  headed None none = refl
  headed (Some e) some = some_first e.heads (kept.keys place e some).headed

  low : (o : Option Ends) → get m place ≡ o → is_some o ≡ true → place * MAX_ATOMS + MAX_ATOMS < 18446744073709551616
  low None none h = absurd cc
  low (Some e) some h = (kept.keys place e some).low

  pub first_there : is_some (get heads (place * MAX_ATOMS)) ≡ is_some (get m place)
  first_there =
      let start : place * MAX_ATOMS ≡ place * MAX_ATOMS + 0 = omega arith in
      ap (λ k. is_some (get heads k)) start ∙ ap is_some (kept.heads_there place 0 (omega arith)) ∙ headed (get m place) refl

  pub too_great : PLACES ≤ place → is_some (get m place) ≡ false
  too_great great = by_bool (is_some (get m place)) (is_some (get m place) ≡ false) (λ t. absurd (let small = low (get m place) refl t in omega arith)) (λ f. f)
