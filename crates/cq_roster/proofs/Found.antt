-- What is found under a name.
use Rattle.std.proofs.Common.{◌≡◌, ℕ, Bool, true, false, List, [], ◌∷◌, Option, Some, None, is_some, refl, sym, ap, subst, ◌∙◌}
use Rattle.std.specs.Option.{option_map, option_copied}
use Rattle.std.specs.Borrow.{Bor}
use Rattle.std.specs.List.{AllByRecursion}
use Rattle.std.specs.List.Sorted.{IsStrictlySortedBy}
use Rattle.std.specs.Map.{lookup, keys_of, values_of}
use Rattle.std.specs.BTreeMap.{is_at}
use Rattle.std.specs.Ordering.{nat_cmp, is_eq, ordering_reverse}
use Rattle.std.specs.declared.cmp.Ordering.TheVariants.{Less}
use Rattle.std.specs.Str.{bytes_eq}
use Rattle.std.proofs.lemmas.Cmp.{nat_cmp_total, eq_by_cmp_equiv, nat_list_eq_equiv}
use Rattle.cq_roster.specs.Roster.{SeatRecord, place_named}
use Rattle.cq_roster.specs.Steps.Kept.{entry_named, number_named}

pub by_bool : (b : Bool) (P : Type 0) → (b ≡ true → P) → (b ≡ false → P) → P
by_bool true P f g = f refl
by_bool false P f g = g refl

-- a number with its seat
abbrev pub Entry : Type 0
Entry = ℕ × SeatRecord

-- of three names: what is one of two that differ is not the other
pub apart : (name q r : List ℕ) → bytes_eq q r ≡ true → bytes_eq name r ≡ false → bytes_eq name q ≡ false
apart name q r is isnt = nat_list_eq_equiv.symm name q ∙ nat_list_eq_equiv.congr q r name is ∙ nat_list_eq_equiv.symm r name ∙ isnt

pub other : (name q r : List ℕ) → bytes_eq name r ≡ true → bytes_eq name q ≡ false → bytes_eq q r ≡ false
other name q r is isnt = nat_list_eq_equiv.symm q r ∙ sym (nat_list_eq_equiv.congr name r q is) ∙ isnt

-- a query for a number stops at that number, and at none before it
pub here : (k : ℕ) → is_at (nat_cmp k) k ≡ true
here k = (eq_by_cmp_equiv nat_cmp_total).refl k

pub above : (k n : ℕ) → nat_cmp n k ≡ Less → is_at (nat_cmp k) n ≡ false
above k n less = ap is_eq (nat_cmp_total.antisymm k n) ∙ ap (λ o. is_eq (ordering_reverse o)) less

-- the place of a name is that of the entry which has it
place-named : (name : List ℕ) (es : List Entry) → place_named name (values_of es) ≡ option_map (λ e. e.1.place) (entry_named name es)
place-named name [] = refl
place-named name (e ∷ es) = by_bool (bytes_eq name e.1.name) _ (λ t. rw t refl) (λ f. rw f (place-named name es))

-- what holds of all numbers holds of the one that is found
pub number_among : (P : ℕ → Type 0) (name : List ℕ) (es : List Entry) (k : ℕ) → AllByRecursion P (keys_of es) → number_named name es ≡ Some k → P k
number_among P name [] k all h = absurd (let no : false ≡ true = ap is_some h in cc)
number_among P name (e ∷ es) k all h = by_bool (bytes_eq name e.1.name) (P k)
    (λ t. let found : Some e.0 ≡ Some k = rw t at h in let same : e.0 ≡ k = cc in subst P same all.0)
    (λ f. number_among P name es k all.1 (rw f at h))

-- the seat at the number that is found is the one that is found
at_number : (name : List ℕ) (es : List Entry) (k : ℕ) → IsStrictlySortedBy nat_cmp (keys_of es) → number_named name es ≡ Some k → lookup (is_at (nat_cmp k)) es ≡ option_map (λ e. e.1) (entry_named name es)
unfolding IsStrictlySortedBy
at_number name [] k sorted h = refl
at_number name (e ∷ es) k sorted h = by_bool (bytes_eq name e.1.name) _
    (λ t.
    let found : Some e.0 ≡ Some k = rw t at h in
    let same : e.0 ≡ k = cc in
    let is : is_at (nat_cmp k) e.0 ≡ true = subst (λ n. is_at (nat_cmp k) n ≡ true) (sym same) (here k) in
    rw (t, is) refl)
    (λ f.
    let rest : number_named name es ≡ Some k = rw f at h in
    let is : is_at (nat_cmp k) e.0 ≡ false = above k e.0 (number_among (λ n. nat_cmp e.0 n ≡ Less) name es k sorted.0 rest) in
    rw (f, is) (at_number name es k sorted.1 rest))

-- what has a number is there, and what has none is not
some_named : (name : List ℕ) (es : List Entry) (k : ℕ) → number_named name es ≡ Some k → is_some (entry_named name es) ≡ true
some_named name es k h = some_mapped (entry_named name es) h
  where
    some_mapped : (o : Option Entry) → option_map (λ e. e.0) o ≡ Some k → is_some o ≡ true
    some_mapped None g = ap is_some g
    some_mapped (Some e) g = refl

none_named : (name : List ℕ) (es : List Entry) → number_named name es ≡ None → entry_named name es ≡ None
none_named name es h = none_mapped (entry_named name es) h
  where
    none_mapped : (o : Option Entry) → option_map (λ e. e.0) o ≡ None → o ≡ None
    none_mapped None g = refl
    none_mapped (Some e) g = cc

-- no seat has a name for which no place is found
pub none_placed : (name : List ℕ) (es : List Entry) → place_named name (values_of es) ≡ None → number_named name es ≡ None
none_placed name es h = none_mapped (entry_named name es) (sym (place-named name es) ∙ h)
  where
    none_mapped : (o : Option Entry) → option_map (λ e. e.1.place) o ≡ None → option_map (λ e. e.0) o ≡ None
    none_mapped None g = refl
    none_mapped (Some e) g = cc

-- the place that is found, where the seat at the number has it
pub place_at : (name : List ℕ) (es : List Entry) (k : ℕ) (s : SeatRecord) → IsStrictlySortedBy nat_cmp (keys_of es) → number_named name es ≡ Some k → lookup (is_at (nat_cmp k)) es ≡ Some s → Some s.place ≡ place_named name (values_of es)
place_at name es k s sorted h found = mapped (entry_named name es) (sym (at_number name es k sorted h) ∙ found) ∙ sym (place-named name es)
  where
    mapped : (o : Option Entry) → option_map (λ e. e.1) o ≡ Some s → Some s.place ≡ option_map (λ e. e.1.place) o
    mapped None g = cc
    mapped (Some e) g = let same : e.1 ≡ s = cc in ap (λ (x : SeatRecord). Some x.place) (sym same)

-- some seat stands at the number that is found
pub is_there : (name : List ℕ) (es : List Entry) (k : ℕ) → IsStrictlySortedBy nat_cmp (keys_of es) → number_named name es ≡ Some k → is_some (lookup (is_at (nat_cmp k)) es) ≡ true
is_there name es k sorted h = ap is_some (at_number name es k sorted h) ∙ mapped (entry_named name es) (some_named name es k h)
  where
    mapped : (o : Option Entry) → is_some o ≡ true → is_some (option_map (λ e. e.1) o) ≡ true
    mapped None g = g
    mapped (Some e) g = refl

-- where no number is found there is no place
pub no_place : (name : List ℕ) (es : List Entry) → number_named name es ≡ None → None ≡ place_named name (values_of es)
no_place name es h = sym (place-named name es ∙ ap (option_map (λ e. e.1.place)) (none_named name es h))

-- what a reference leads to is there where the reference is
pub some_copied : {X : Type 0} (r : Option (Bor X)) → is_some (option_copied r) ≡ true → is_some r ≡ true
some_copied None h = h
some_copied (Some x) h = refl
