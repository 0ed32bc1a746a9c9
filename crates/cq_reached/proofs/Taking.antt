-- Names that are taken one after the other.
use Rattle.std.proofs.Common.{◌≡◌, inl, inr, ℕ, zero, suc, ◌+◌, ◌<◌, true, List, [], ◌∷◌, ◌++◌, length, map, drop, get_or, bytes_eq, refl, sym, ap, subst, ◌∙◌, add-one, arith}
use Rattle.std.specs.List.{All, Contains, IsDistinct, list_any}
use Rattle.std.proofs.lemmas.List.{get_or-map, length-map}
use Rattle.std.proofs.lemmas.List.Elements.{All-contains, All-contains_itself, All-push, Contains-append_left, Contains-get_or}
use Rattle.std.proofs.lemmas.List.Folds.{Any-from_list_any}
use Rattle.std.proofs.lemmas.Slice.Eq.{bytes_eq-Decides}
use Rattle.cq_board.specs.Pool.{PoolRecord}
use Rattle.cq_board.specs.Named.{matched_names}
use Rattle.cq_board.specs.Choice.{ChoiceRecord, chosen_name}
use Rattle.cq_choose.specs.Choosing.{IsChoiceFor}
use Rattle.cq_reached.specs.declared.quick.Taken.{Taken}
use Rattle.cq_reached.specs.Reached.{CanGo, AreReached, IsReachedChoice}
use Rattle.cq_reached.specs.Steps.Taking.{names_of, IsNext, AreTaken, LeadsOn}

-- the first of the names are among those among which all are
all-left : (all taken more : List (List ℕ)) → All (Contains all) (taken ++ more) → All (Contains all) taken
all-left all taken more each = λ k d h. All-contains (Contains all) (taken ++ more) (get_or taken k d) each (Contains-append_left taken more (get_or taken k d) (Contains-get_or taken k d h))

-- who was taken is among all
taken-among : (pool : PoolRecord) (taken names all : List (List ℕ)) → AreReached pool taken names all → All (Contains all) taken
taken-among pool taken [] all e = subst (λ (l : List (List ℕ)). All (Contains l) taken) (sym e) (All-contains_itself taken)
taken-among pool taken (name ∷ names) all (inl h) = all-left all taken (name ∷ []) (taken-among pool (taken ++ name ∷ []) names all h.1)
taken-among pool taken (name ∷ names) all (inr h) = taken-among pool taken names all h.1

-- a choice for all names is one for some of them
pub choice-some : (pool : PoolRecord) (part all : List (List ℕ)) (choices : List ChoiceRecord) → All (Contains all) part → IsChoiceFor pool all choices → IsChoiceFor pool part choices
choice-some pool part all choices among is = record {
  coordinating = is.coordinating;
  named = λ k d h. All-contains (Contains (map chosen_name choices)) all (get_or part k d) is.named (among k d h);
}

-- where some of the names cannot go together, all cannot
pub cannot-all : (pool : PoolRecord) (part all : List (List ℕ)) → All (Contains all) part → ((choices : List ChoiceRecord) → IsChoiceFor pool part choices → ⊥) → CanGo pool all → ⊥
cannot-all pool part all among none can = none can.0 (choice-some pool part all can.0 among can.1)

-- one step back
step-back : (pool : PoolRecord) (taken : List (List ℕ)) (name : List ℕ) (after rest all : List (List ℕ)) → IsNext pool taken name after → CanGo pool all → AreReached pool after rest all → AreReached pool taken (name ∷ rest) all
step-back pool taken name after rest all (inl e) can reached =
    let more = subst (λ (l : List (List ℕ)). AreReached pool l rest all) e reached in
    inl ((can.0, choice-some pool (taken ++ name ∷ []) all can.0 (taken-among pool (taken ++ name ∷ []) rest all more) can.1), more)
step-back pool taken name after rest all (inr h) can reached = inr (h.0, subst (λ (l : List (List ℕ)). AreReached pool l rest all) h.1 reached)

module _ {X : Type 0} (read : X → List ℕ) where
  -- the rest from a place on
  ahead : (xs : List X) (i : ℕ) (x : X) → i < length xs → x ≡ get_or xs i x → map read (drop i xs) ≡ read x ∷ map read (drop (i + 1) xs)
  ahead xs i x h is = rw add-one (behind xs i x h is)
    where
      behind : (ys : List X) (k : ℕ) (y : X) → k < length ys → y ≡ get_or ys k y → map read (drop k ys) ≡ read y ∷ map read (drop (suc k) ys)
      behind [] k y low at = absurd (omega arith)
      behind (z ∷ ys) zero y low at = ap (λ (w : X). read w ∷ map read ys) (sym at)
      behind (z ∷ ys) (suc k) y low at = behind ys k y (omega arith) at

  -- one name more
  pub leads-more : (pool : PoolRecord) (names taken after : List (List ℕ)) (xs : List X) (i : ℕ) (x : X) → i < length xs → x ≡ get_or xs i x
      → IsNext pool taken (read x) after → LeadsOn pool names taken (map read (drop i xs)) → LeadsOn pool names after (map read (drop (i + 1) xs))
  leads-more pool names taken after xs i x low is next leads all can reached =
      leads all can (subst (λ (l : List (List ℕ)). AreReached pool taken l all) (sym (ahead xs i x low is)) (step-back pool taken (read x) after (map read (drop (i + 1) xs)) all next can reached))

  -- at the end of the names
  pub leads-end : (pool : PoolRecord) (names taken : List (List ℕ)) (xs : List X) (i : ℕ) → drop i xs ≡ [] → LeadsOn pool names taken (map read (drop i xs)) → AreTaken pool names taken
  leads-end pool names taken xs i e leads can = leads taken can (subst (λ (l : List X). AreReached pool taken (map read l) taken) (sym e) refl)

-- at the begin of the names
pub leads-begin : (pool : PoolRecord) (names taken : List (List ℕ)) → taken ≡ [] → LeadsOn pool names taken names
leads-begin pool names taken e all can reached = subst (λ (l : List (List ℕ)). AreReached pool l names all) e reached

-- a name that passes the test is one for which is chosen
pub has-name : (choices : List ChoiceRecord) (name : List ℕ) → list_any (λ c. bytes_eq name c.name) choices ≡ true → Contains (map chosen_name choices) name
has-name choices name t =
    let found = Any-from_list_any (λ (c : ChoiceRecord). bytes_eq name c.name) choices t in
    let long = length-map choices chosen_name in
    let within : found.0 < length choices = found.2 in
    let low : found.0 < length (map chosen_name choices) = omega arith in
    subst (Contains (map chosen_name choices)) (get_or-map chosen_name choices found.0 found.1 [] within ∙ ap chosen_name found.3 ∙ sym ((bytes_eq-Decides name found.1.name).0 found.4)) (Contains-get_or (map chosen_name choices) found.0 [] low)

-- who is taken is among those and one more
pub taken-at : {A : Type 0} (taken : List (Taken A)) (name : List ℕ) (i : ℕ) (one : Taken A) → i < length taken → one ≡ get_or taken i one → Contains (names_of taken ++ name ∷ []) one.name.now
taken-at {A} taken name i one low is =
    let read : Taken A → List ℕ = λ t. t.name.now in
    let long = length-map taken read in
    let within : i < length (map read taken) = omega arith in
    Contains-append_left (map read taken) (name ∷ []) (read one) (i, within, get_or-map read taken i one (read one) low ∙ ap read (sym is))

-- one more that is among all
pub part-more : (all part more : List (List ℕ)) (name copy : List ℕ) → more ≡ part ++ copy ∷ [] → copy ≡ name → All (Contains all) part → Contains all name → All (Contains all) more
part-more all part more name copy is same each one = subst (All (Contains all)) (sym (is ∙ ap (λ (n : List ℕ). part ++ n ∷ []) same)) (All-push (Contains all) part name each one)

distinct-nil : IsDistinct bytes_eq []
unfolding IsDistinct
distinct-nil = tt

-- nothing is a choice for nobody
pub nothing-chosen : (pool : PoolRecord) → IsChoiceFor pool [] []
nothing-chosen pool = record {
  coordinating = record { distinct = distinct-nil; grounded = λ k d h. absurd (omega arith); served = λ k d h. absurd (omega arith) };
  named = λ k d h. absurd (omega arith);
}

-- what is answered
pub reached-choice : (pool : PoolRecord) (names taken : List (List ℕ)) (choices : List ChoiceRecord) → names ≡ matched_names pool → AreTaken pool names taken → IsChoiceFor pool taken choices → IsReachedChoice pool choices
reached-choice pool names taken choices e are is = (taken, subst (λ (l : List (List ℕ)). AreReached pool [] l taken) e (are (choices, is)), is)
