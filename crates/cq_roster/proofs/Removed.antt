-- What is left without the seat of a name.
use Rattle.std.proofs.Common.{◌≡◌, ℕ, ◌<◌, Bool, true, false, cond, not, nat_eq, List, [], ◌∷◌, map, Some, None, refl, sym, ap, subst, ◌∙◌}
use Rattle.std.specs.Prelude.{filter}
use Rattle.std.specs.List.{AllByRecursion, IsDistinct}
use Rattle.std.specs.List.Sorted.{IsStrictlySortedBy}
use Rattle.std.specs.Map.{lookup, keys_of, values_of, remove_entry}
use Rattle.std.specs.BTreeMap.{is_at}
use Rattle.std.specs.Ordering.{nat_cmp}
use Rattle.std.specs.declared.cmp.Ordering.TheVariants.{Less}
use Rattle.std.specs.Str.{bytes_eq}
use Rattle.std.proofs.lemmas.Cmp.{nat_list_eq_equiv}
use Rattle.std.proofs.lemmas.Slice.Eq.{bytes_eq-Decides}
use Rattle.cq_roster.specs.Roster.{SeatRecord, is_named, without, IsRoster}
use Rattle.cq_roster.specs.Steps.Kept.{number_named, IsKept}
use Rattle.cq_roster.proofs.Found.{by_bool, other, Entry, here, above, number_among}

-- ---- a filter keeps what is apart

module _ {X K : Type 0} (eq : K → K → Bool) (f : X → K) (p : X → Bool) where
  apart_still : (k : K) (xs : List X) → AllByRecursion (λ y. eq k y ≡ false) (map f xs) → AllByRecursion (λ y. eq k y ≡ false) (map f (filter p xs))
  apart_still k [] h = tt
  apart_still k (x ∷ xs) h =
      by_bool (p x) (AllByRecursion (λ y. eq k y ≡ false) (map f (filter p (x ∷ xs))))
      (λ t. rw t (h.0, apart_still k xs h.1)) (λ g. rw g (apart_still k xs h.1))

  distinct_still : (xs : List X) → IsDistinct eq (map f xs) → IsDistinct eq (map f (filter p xs))
  unfolding IsDistinct
  distinct_still [] h = tt
  distinct_still (x ∷ xs) h =
      by_bool (p x) (IsDistinct eq (map f (filter p (x ∷ xs))))
      (λ t. rw t (apart_still (f x) xs h.0, distinct_still xs h.1)) (λ g. rw g (distinct_still xs h.1))

-- a roster without one of its names is a roster
pub IsRoster-without : (name : List ℕ) (seats : List SeatRecord) → IsRoster seats → IsRoster (without name seats)
IsRoster-without name seats valid = record {
  names = distinct_still bytes_eq (λ (s : SeatRecord). s.name) (λ s. not (is_named name s)) seats valid.names;
  places = distinct_still nat_eq (λ (s : SeatRecord). s.place) (λ s. not (is_named name s)) seats valid.places;
}

-- ---- the entries without those of the name

abbrev others : List ℕ → List Entry → List Entry
others name es = filter (λ e. not (is_named name e.1)) es

values-others : (name : List ℕ) (es : List Entry) → values_of (others name es) ≡ without name (values_of es)
values-others name [] = refl
values-others name (e ∷ es) = by_bool (bytes_eq name e.1.name) _ (λ t. rw t (values-others name es)) (λ f. rw f (ap (λ l. e.1 ∷ l) (values-others name es)))

all_others : (P : Entry → Type 0) (name : List ℕ) (es : List Entry) → AllByRecursion P es → AllByRecursion P (others name es)
all_others P name [] all = tt
all_others P name (e ∷ es) all = by_bool (bytes_eq name e.1.name) (AllByRecursion P (others name (e ∷ es))) (λ t. rw t (all_others P name es all.1)) (λ f. rw f (all.0, all_others P name es all.1))

-- a name that no seat has takes none away
keeps_all : (name : List ℕ) (es : List Entry) → AllByRecursion (λ y. bytes_eq name y ≡ false) (map (λ s. s.name) (values_of es)) → others name es ≡ es
keeps_all name [] all = refl
keeps_all name (e ∷ es) all = let away : bytes_eq name e.1.name ≡ false = all.0 in rw away (ap (λ l. e ∷ l) (keeps_all name es all.1))

-- a name without a number is no seat's
all_away : (name : List ℕ) (es : List Entry) → number_named name es ≡ None → AllByRecursion (λ y. bytes_eq name y ≡ false) (map (λ s. s.name) (values_of es))
all_away name [] h = tt
all_away name (e ∷ es) h = by_bool (bytes_eq name e.1.name) (AllByRecursion (λ y. bytes_eq name y ≡ false) (map (λ s. s.name) (values_of (e ∷ es))))
    (λ t. let no : Some e.0 ≡ None = rw t at h in cc)
    (λ f. (f, all_away name es (rw f at h)))

-- without a name that no seat has the seats are as they were
pub values_stay : (name : List ℕ) (es : List Entry) → number_named name es ≡ None → values_of es ≡ without name (values_of es)
values_stay name es h = sym (ap values_of (keeps_all name es (all_away name es h))) ∙ values-others name es

none_others : (q : List ℕ) (name : List ℕ) (es : List Entry) → bytes_eq name q ≡ true → number_named q (others name es) ≡ None
none_others q name [] is = refl
none_others q name (e ∷ es) is = by_bool (bytes_eq name e.1.name) _
    (λ t. rw t (none_others q name es is))
    (λ f. let away : bytes_eq q e.1.name ≡ false = sym (nat_list_eq_equiv.congr name q e.1.name is) ∙ f in rw (f, away) (none_others q name es is))

number_others : (q : List ℕ) (name : List ℕ) (es : List Entry) → bytes_eq name q ≡ false → number_named q (others name es) ≡ number_named q es
number_others q name [] is = refl
number_others q name (e ∷ es) is = by_bool (bytes_eq name e.1.name) _
    (λ t.
    let away : bytes_eq q e.1.name ≡ false = other name q e.1.name t is in
    rw (t, away) (number_others q name es is))
    (λ f. by_bool (bytes_eq q e.1.name) _ (λ s. rw (f, s) refl) (λ s. rw (f, s) (number_others q name es is)))

-- of the others each name has its number still
number-others : (q : List ℕ) (name : List ℕ) (es : List Entry) → number_named q (others name es) ≡ cond (bytes_eq name q) None (number_named q es)
number-others q name es = by_bool (bytes_eq name q) _ (λ t. rw t (none_others q name es t)) (λ f. rw f (number_others q name es f))

-- ---- the entry at the number of the name, taken out

removed : (name : List ℕ) (es : List Entry) (k : ℕ) → IsStrictlySortedBy nat_cmp (keys_of es) → IsDistinct bytes_eq (map (λ s. s.name) (values_of es)) → number_named name es ≡ Some k → remove_entry (is_at (nat_cmp k)) es ≡ others name es
unfolding IsStrictlySortedBy IsDistinct
removed name [] k sorted distinct h = refl
removed name (e ∷ es) k sorted distinct h = by_bool (bytes_eq name e.1.name) _
    (λ t.
    let found : Some e.0 ≡ Some k = rw t at h in
    let same : e.0 ≡ k = cc in
    let is : is_at (nat_cmp k) e.0 ≡ true = subst (λ n. is_at (nat_cmp k) n ≡ true) (sym same) (here k) in
    let apart : AllByRecursion (λ y. bytes_eq name y ≡ false) (map (λ s. s.name) (values_of es)) =
    subst (λ m. AllByRecursion (λ y. bytes_eq m y ≡ false) (map (λ s. s.name) (values_of es))) (sym ((bytes_eq-Decides name e.1.name).0 t)) distinct.0 in
    rw (t, is) (sym (keeps_all name es apart)))
    (λ f.
    let rest : number_named name es ≡ Some k = rw f at h in
    let is : is_at (nat_cmp k) e.0 ≡ false = above k e.0 (number_among (λ n. nat_cmp e.0 n ≡ Less) name es k sorted.0 rest) in
    rw (f, is) (ap (λ l. e ∷ l) (removed name es k sorted.1 distinct.1 rest)))

module _ (name : List ℕ) (es fs : List Entry) (numbers left : List (List ℕ × ℕ)) (next k : ℕ) (kept : IsKept es numbers next) (found : number_named name es ≡ Some k) (taken : fs ≡ remove_entry (is_at (nat_cmp k)) es) where
  left_others : fs ≡ others name es
  left_others = taken ∙ removed name es k kept.rising kept.valid.names found

  pub left_without : values_of fs ≡ without name (values_of es)
  left_without = ap values_of left_others ∙ values-others name es

  pub kept_without : IsStrictlySortedBy nat_cmp (keys_of fs) → ((q : List ℕ) → lookup (bytes_eq q) left ≡ cond (bytes_eq name q) None (lookup (bytes_eq q) numbers)) → IsKept fs left next
  kept_without rising updates = record {
    numbered = λ q. updates q ∙ ap (cond (bytes_eq name q) None) (kept.numbered q) ∙ sym (number-others q name es) ∙ ap (number_named q) (sym left_others);
    rising = rising;
    below = subst (AllByRecursion (λ e. e.0 < next)) (sym left_others) (all_others (λ e. e.0 < next) name es kept.below);
    valid = subst IsRoster (sym left_without) (IsRoster-without name (values_of es) kept.valid);
  }
