-- What a caller cites of a roster: which places its names have, and which places are taken, once a seat came or went.
use Rattle.std.proofs.Common.{◌≡◌, ℕ, Bool, true, false, cond, ◌&&◌, ◌||◌, not, nat_eq, List, [], ◌∷◌, ◌++◌, map, Some, None, refl, sym, ap, subst, ◌∙◌}
use Rattle.std.specs.List.{AllByRecursion, IsDistinct, list_any}
use Rattle.std.specs.Cmp.{nat_eq_equiv}
use Rattle.std.specs.Str.{bytes_eq}
use Rattle.std.proofs.lemmas.Bool.Decides.{Decides-eqb}
use Rattle.std.proofs.lemmas.Cmp.{nat_list_eq_equiv}
use Rattle.std.proofs.lemmas.List.{map-append}
use Rattle.std.proofs.lemmas.List.Folds.{list_any-append}
use Rattle.std.proofs.lemmas.Slice.Eq.{bytes_eq-Decides}
use Rattle.cq_roster.specs.Roster.{SeatRecord, seat_of, place_named, is_taken_place, without, IsRoster}
use Rattle.cq_roster.proofs.Found.{by_bool, apart, other}
pub use Rattle.cq_roster.proofs.Removed.{IsRoster-without}
pub use Rattle.cq_roster.proofs.Added.{IsRoster-push}

-- the name of a new last seat has its place, and each other name that which it had
pub place_named-push : (name : List ℕ) (place : ℕ) (seats : List SeatRecord) (q : List ℕ) → place_named name seats ≡ None → place_named q (seats ++ seat_of name place ∷ []) ≡ cond (bytes_eq name q) (Some place) (place_named q seats)
place_named-push name place [] q h = rw (nat_list_eq_equiv.symm q name) (by_bool (bytes_eq name q) _ (λ t. rw t refl) (λ f. rw f refl))
place_named-push name place (s ∷ ss) q h = by_bool (bytes_eq name s.name) _
    (λ t. let no : Some s.place ≡ None = rw t at h in cc)
    (λ f. by_bool (bytes_eq q s.name) _
    (λ t. let away : bytes_eq name q ≡ false = apart name q s.name t f in rw (t, away) refl)
    (λ g. rw g (place_named-push name place ss q (rw f at h))))

-- without a name's seat it has no place, and each other name that which it had
pub place_named-without : (name : List ℕ) (seats : List SeatRecord) (q : List ℕ) → place_named q (without name seats) ≡ cond (bytes_eq name q) None (place_named q seats)
place_named-without name [] q = by_bool (bytes_eq name q) _ (λ t. rw t refl) (λ f. rw f refl)
place_named-without name (s ∷ ss) q = by_bool (bytes_eq name s.name) _
    (λ t. by_bool (bytes_eq name q) _
    (λ is. rw (t, is) (place_named-without name ss q ∙ rw is refl))
    (λ isnt. let away : bytes_eq q s.name ≡ false = other name q s.name t isnt in rw (t, isnt, away) (place_named-without name ss q ∙ rw isnt refl)))
    (λ f. by_bool (bytes_eq q s.name) _
    (λ t. let away : bytes_eq name q ≡ false = apart name q s.name t f in rw (f, t, away) refl)
    (λ g. rw (f, g) (place_named-without name ss q)))

or_false : (b : Bool) → (b || false) ≡ b
or_false true = refl
or_false false = refl

-- the place of a new last seat is taken, and those that were
pub is_taken_place-push : (name : List ℕ) (place : ℕ) (seats : List SeatRecord) (p : ℕ) → is_taken_place p (seats ++ seat_of name place ∷ []) ≡ (is_taken_place p seats || nat_eq p place)
is_taken_place-push name place seats p =
    ap (list_any (nat_eq p)) (map-append (λ (s : SeatRecord). s.place) seats (seat_of name place ∷ []))
    ∙ list_any-append (nat_eq p) (map (λ s. s.place) seats) (place ∷ [])
    ∙ ap (λ b. is_taken_place p seats || b) (or_false (nat_eq p place))

without_none : (name : List ℕ) (seats : List SeatRecord) → AllByRecursion (λ y. bytes_eq name y ≡ false) (map (λ s. s.name) seats) → without name seats ≡ seats
without_none name [] all = refl
without_none name (s ∷ ss) all = let away : bytes_eq name s.name ≡ false = all.0 in rw away (ap (λ l. s ∷ l) (without_none name ss all.1))

place_among : (P : ℕ → Type 0) (name : List ℕ) (seats : List SeatRecord) (k : ℕ) → AllByRecursion P (map (λ s. s.place) seats) → place_named name seats ≡ Some k → P k
place_among P name [] k all h = cc
place_among P name (s ∷ ss) k all h = by_bool (bytes_eq name s.name) (P k)
    (λ t. let found : Some s.place ≡ Some k = rw t at h in let same : s.place ≡ k = cc in subst P same all.0)
    (λ f. place_among P name ss k all.1 (rw f at h))

none_taken : (k : ℕ) (xs : List ℕ) → AllByRecursion (λ y. nat_eq k y ≡ false) xs → list_any (nat_eq k) xs ≡ false
none_taken k [] all = refl
none_taken k (x ∷ xs) all = let away : nat_eq k x ≡ false = all.0 in rw away (none_taken k xs all.1)

taken_without : (name : List ℕ) (seats : List SeatRecord) (k p : ℕ) → IsDistinct bytes_eq (map (λ s. s.name) seats) → IsDistinct nat_eq (map (λ s. s.place) seats) → place_named name seats ≡ Some k → is_taken_place p (without name seats) ≡ (not (nat_eq k p) && is_taken_place p seats)
unfolding IsDistinct
taken_without name [] k p names places h = cc
taken_without name (s ∷ ss) k p names places h = by_bool (bytes_eq name s.name) _
    (λ t.
    let found : Some s.place ≡ Some k = rw t at h in
    let same : s.place ≡ k = cc in
    let alone : AllByRecursion (λ y. bytes_eq name y ≡ false) (map (λ s. s.name) ss) = subst (λ n. AllByRecursion (λ y. bytes_eq n y ≡ false) (map (λ s. s.name) ss)) (sym ((bytes_eq-Decides name s.name).0 t)) names.0 in
    let rest : is_taken_place p (without name ss) ≡ is_taken_place p ss = ap (is_taken_place p) (without_none name ss alone) in
    by_bool (nat_eq k p) _
    (λ is.
    let free : is_taken_place p ss ≡ false = subst (λ q. list_any (nat_eq q) (map (λ s. s.place) ss) ≡ false) (same ∙ (Decides-eqb k p).0 is) (none_taken s.place (map (λ s. s.place) ss) places.0) in
    rw (t, is) (rest ∙ free))
    (λ isnt.
    let away : nat_eq p s.place ≡ false = ap (nat_eq p) same ∙ nat_eq_equiv.symm p k ∙ isnt in
    rw (t, isnt, away) rest))
    (λ f.
    let later : place_named name ss ≡ Some k = rw f at h in
    let rest : is_taken_place p (without name ss) ≡ (not (nat_eq k p) && is_taken_place p ss) = taken_without name ss k p names.1 places.1 later in
    by_bool (nat_eq p s.place) _
    (λ is.
    let apart : nat_eq s.place k ≡ false = place_among (λ y. nat_eq s.place y ≡ false) name ss k places.0 later in
    let away : nat_eq k p ≡ false = ap (nat_eq k) ((Decides-eqb p s.place).0 is) ∙ nat_eq_equiv.symm k s.place ∙ apart in
    rw (f, is, away) refl)
    (λ isnt. rw (f, isnt) rest))

-- without a name's seat its place is free, and the others stay as they were
pub is_taken_place-without : (name : List ℕ) (seats : List SeatRecord) (k p : ℕ) → IsRoster seats → place_named name seats ≡ Some k → is_taken_place p (without name seats) ≡ (not (nat_eq k p) && is_taken_place p seats)
is_taken_place-without name seats k p valid h = taken_without name seats k p valid.names valid.places h
