-- What a seat after all others adds.
use Rattle.std.proofs.Common.{◌≡◌, ℕ, ◌+◌, ◌<◌, false, cond, nat_eq, List, [], ◌∷◌, ◌++◌, map, Some, None, Result, Ok, Err, OnOk, refl, sym, ap, subst, ◌∙◌, arith}
use Rattle.std.specs.List.{AllByRecursion, IsDistinct, list_any}
use Rattle.std.specs.List.Sorted.{IsStrictlySortedBy}
use Rattle.std.specs.Map.{lookup, keys_of, values_of}
use Rattle.std.specs.BTreeMap.{insert_entry}
use Rattle.std.specs.Ordering.{nat_cmp}
use Rattle.std.specs.declared.cmp.Ordering.TheVariants.{Greater}
use Rattle.std.specs.Cmp.{nat_cmp_is, nat_eq_equiv}
use Rattle.std.specs.Str.{bytes_eq}
use Rattle.std.proofs.lemmas.Cmp.{nat_list_eq_equiv}
use Rattle.std.proofs.lemmas.List.{map-append}
use Rattle.std.proofs.lemmas.Map.Keys.{IsDistinct-push}
use Rattle.cq_roster.specs.Roster.{SeatRecord, seat_of, place_named, is_taken_place, IsRoster}
use Rattle.cq_roster.specs.Steps.Kept.{number_named, IsKept}
use Rattle.cq_roster.proofs.Found.{by_bool, apart, Entry, none_placed}

-- a number above all others goes last
behind : (es : List Entry) (next : ℕ) (s : SeatRecord) → AllByRecursion (λ e. e.0 < next) es → insert_entry nat_cmp es next s ≡ es ++ (next, s) ∷ []
behind [] next s all = refl
behind (e ∷ es) next s all = rw (← nat_cmp_is next e.0 Greater all.0) (ap (λ l. e ∷ l) (behind es next s all.1))

-- the next number lies above it too
all_below : (es : List Entry) (next : ℕ) (s : SeatRecord) → AllByRecursion (λ e. e.0 < next) es → AllByRecursion (λ e. e.0 < next + 1) (es ++ (next, s) ∷ [])
all_below [] next s all = (omega arith, tt)
all_below (e ∷ es) next s all = (let lt : e.0 < next = all.0 in omega arith, all_below es next s all.1)

-- its name has that number, and each other name the one that it had
number-push : (q : List ℕ) (es : List Entry) (next : ℕ) (s : SeatRecord) → number_named s.name es ≡ None → number_named q (es ++ (next, s) ∷ []) ≡ cond (bytes_eq s.name q) (Some next) (number_named q es)
number-push q [] next s h = rw (nat_list_eq_equiv.symm q s.name) (by_bool (bytes_eq s.name q) _ (λ t. rw t refl) (λ f. rw f refl))
number-push q (e ∷ es) next s h = by_bool (bytes_eq s.name e.1.name) _
    (λ t. let no : Some e.0 ≡ None = rw t at h in cc)
    (λ f. by_bool (bytes_eq q e.1.name) _
    (λ t. let away : bytes_eq s.name q ≡ false = apart s.name q e.1.name t f in rw (t, away) refl)
    (λ g. rw g (number-push q es next s (rw f at h))))

-- ---- the seats

-- a name without a place is no seat's
name_free : (name : List ℕ) (seats : List SeatRecord) → place_named name seats ≡ None → list_any (bytes_eq name) (map (λ s. s.name) seats) ≡ false
name_free name [] h = refl
name_free name (s ∷ ss) h = by_bool (bytes_eq name s.name) _
    (λ t. let no : Some s.place ≡ None = rw t at h in cc)
    (λ f. rw f (name_free name ss (rw f at h)))

-- a roster with a new name at a new place is a roster
pub IsRoster-push : (name : List ℕ) (place : ℕ) (seats : List SeatRecord) → IsRoster seats → place_named name seats ≡ None → is_taken_place place seats ≡ false → IsRoster (seats ++ seat_of name place ∷ [])
IsRoster-push name place seats valid absent free = record {
  names = subst (IsDistinct bytes_eq) (sym (map-append (λ (s : SeatRecord). s.name) seats (seat_of name place ∷ []))) (IsDistinct-push nat_list_eq_equiv (map (λ s. s.name) seats) name valid.names (name_free name seats absent));
  places = subst (IsDistinct nat_eq) (sym (map-append (λ (s : SeatRecord). s.place) seats (seat_of name place ∷ []))) (IsDistinct-push nat_eq_equiv (map (λ s. s.place) seats) place valid.places free);
}

-- ---- what is kept

module _ (name : List ℕ) (place : ℕ) (es fs : List Entry) (numbers more : List (List ℕ × ℕ)) (next : ℕ) (kept : IsKept es numbers next) (put : fs ≡ insert_entry nat_cmp es next (seat_of name place)) where
  added : fs ≡ es ++ (next, seat_of name place) ∷ []
  added = put ∙ behind es next (seat_of name place) kept.below

  pub added_last : values_of fs ≡ values_of es ++ seat_of name place ∷ []
  added_last = ap values_of added ∙ map-append (λ (e : Entry). e.1) es ((next, seat_of name place) ∷ [])

  pub kept_with : place_named name (values_of es) ≡ None → is_taken_place place (values_of es) ≡ false → IsStrictlySortedBy nat_cmp (keys_of fs) → ((q : List ℕ) → lookup (bytes_eq q) more ≡ cond (bytes_eq name q) (Some next) (lookup (bytes_eq q) numbers)) → IsKept fs more (next + 1)
  kept_with absent free rising updates = record {
    numbered = λ q. updates q ∙ ap (cond (bytes_eq name q) (Some next)) (kept.numbered q) ∙ sym (number-push q es next (seat_of name place) (none_placed name es absent)) ∙ ap (number_named q) (sym added);
    rising = rising;
    below = subst (AllByRecursion (λ e. e.0 < next + 1)) (sym added) (all_below es next (seat_of name place) kept.below);
    valid = subst IsRoster (sym added_last) (IsRoster-push name place (values_of es) kept.valid absent free);
  }

-- ---- what the calls did, over a copy of the name and over room that was made

pub put_named : (n name : List ℕ) (place next : ℕ) (es fs : List Entry) → n ≡ name → fs ≡ insert_entry nat_cmp es next (seat_of n place) → fs ≡ insert_entry nat_cmp es next (seat_of name place)
put_named n name place next es fs named put = put ∙ ap (λ m. insert_entry nat_cmp es next (seat_of m place)) named

pub updates_made : (key name : List ℕ) (old between new : List (List ℕ × ℕ)) (next : ℕ) → key ≡ name → between ≡ old
    → ((q : List ℕ) → lookup (bytes_eq q) new ≡ cond (bytes_eq key q) (Some next) (lookup (bytes_eq q) between)) → (q : List ℕ) → lookup (bytes_eq q) new ≡ cond (bytes_eq name q) (Some next) (lookup (bytes_eq q) old)
updates_made key name old between new next named same updates q =
    updates q ∙ ap (λ n. cond (bytes_eq n q) (Some next) (lookup (bytes_eq q) between)) named ∙ ap (λ (ns : List (List ℕ × ℕ)). cond (bytes_eq name q) (Some next) (lookup (bytes_eq q) ns)) same

pub from_ok : {T E P : Type 0} (r : Result T E) (x : T) → r ≡ Ok x → OnOk r P → P
from_ok (Ok y) x e h = h
from_ok (Err y) x e h = absurd cc

-- ---- nothing yet

sorted_nil : IsStrictlySortedBy nat_cmp []
unfolding IsStrictlySortedBy
sorted_nil = tt

roster_nil : IsRoster []
unfolding IsDistinct
roster_nil = record { names = tt; places = tt }

pub kept_none : (order : List Entry) (numbers : List (List ℕ × ℕ)) → order ≡ [] → numbers ≡ [] → IsKept order numbers 0
kept_none order numbers none empty = record {
  numbered = λ q. ap (λ (ns : List (List ℕ × ℕ)). lookup (bytes_eq q) ns) empty ∙ sym (ap (λ (es : List Entry). number_named q es) none);
  rising = subst (λ (es : List Entry). IsStrictlySortedBy nat_cmp (keys_of es)) (sym none) sorted_nil;
  below = subst (λ (es : List Entry). AllByRecursion (λ e. e.0 < 0) es) (sym none) tt;
  valid = subst (λ (es : List Entry). IsRoster (values_of es)) (sym none) roster_nil;
}
