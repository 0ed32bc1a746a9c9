-- The union of all closed sets of nodes is the greatest set of places that feeds itself.
use Rattle.std.proofs.Common.{◌≡◌, ℕ, ◌+◌, ◌-◌, ◌<◌, ◌↔◌, Bool, true, false, if◌then◌else◌, not, ◌&&◌, ◌||◌, eqb, List, [], ◌∷◌, length, get_or, map, filter, refl, sym, ap, ◌∙◌, arith, nat_eq, IsTrue, Result, Ok, Err, IfOk}
use Rattle.std.specs.List.{All, Any, Contains, list_any, range_with_len}
use Rattle.std.specs.List.Sorted.{IsPermutation}
use Rattle.std.specs.Set.{is_member}
use Rattle.std.proofs.lemmas.Bool.{eqb-true}
use Rattle.std.proofs.lemmas.Cmp.{nat_eq_equiv}
use Rattle.std.proofs.lemmas.Bool.Decides.{Decides-eqb}
use Rattle.std.proofs.lemmas.List.{get_or_default}
use Rattle.std.proofs.lemmas.List.Elements.{All-contains, Contains-get_or}
use Rattle.std.proofs.lemmas.List.Folds.{list_any-append}
use Rattle.std.proofs.lemmas.List.FromFn.{length-range_with_len, get_or-range_with_len}
use Rattle.std.proofs.lemmas.List.Sorted.{IsPermutation-map, IsPermutation-sym, Contains-permutation}
use Rattle.std.proofs.lemmas.List.Sums.{AllPass-from_list_all, list_all-from_AllPass}
use Rattle.std.proofs.lemmas.Map.Made.{is_member-Decides, is_member-filter}
use Rattle.cq_atom.specs.declared.edge.Edge.{Edge}
use Rattle.cq_match.specs.declared.settle.Offer.{Offer}
use Rattle.cq_match.specs.Matched.{numbers, is_supplied, has_each_post, is_closed, sublists, is_matched}
use Rattle.cq_match.specs.Graph.{leads_to}
use Rattle.cq_match.specs.Steps.Places.{number_at, posts_at, able_at, slots_at, IsRanked, AreSlots, AreOffersOf}
use Rattle.std.proofs.lemmas.List.Folds.{Any-from_list_any}
use Rattle.cq_match.proofs.Offered.{posts-of, within-slots}
use Rattle.cq_match.specs.Steps.Settle.{stands, feeds, FeedsItself}
use Rattle.cq_match.proofs.Tests.{by_bool, and_left, and_right, both}
use Rattle.cq_match.proofs.Ranks.{Nodes, numbers-get_or, length-numbers}
use Rattle.cq_match.proofs.Settling.{feeds-more}
use Rattle.cq_match.proofs.Standing.{number-known}

-- ---- members

pub member-contained : (set : List ℕ) (n : ℕ) → is_member nat_eq set n ≡ true → Contains set n
member-contained set n = (is_member-Decides Decides-eqb set n).0

pub contained-member : (set : List ℕ) (n : ℕ) → Contains set n → is_member nat_eq set n ≡ true
contained-member set n = (is_member-Decides Decides-eqb set n).1

-- the place of a node, and the node of a place
node-placed : (nodes ranked : Nodes) → IsPermutation nodes ranked → (k : ℕ) (d : ℕ × ℕ × Bool) → k < length nodes → (p : ℕ) × (p < length ranked) × (get_or ranked p (0, 0, false) ≡ get_or nodes k d)
node-placed nodes ranked moved k d low =
    let node = get_or nodes k d in
    let found = Contains-permutation nodes ranked node moved (Contains-get_or nodes k d low) in
    (found.0, found.1, get_or_default ranked found.0 (0, 0, false) node found.1 ∙ found.2)

place-listed : (nodes ranked : Nodes) → IsPermutation nodes ranked → (p : ℕ) → p < length ranked → Contains nodes (get_or ranked p (0, 0, false))
place-listed nodes ranked moved p low = Contains-permutation ranked nodes (get_or ranked p (0, 0, false)) (IsPermutation-sym nodes ranked moved) (Contains-get_or ranked p (0, 0, false) low)

-- the place of a number
pub number-placed : (ranked : Nodes) (n : ℕ) → Contains (numbers ranked) n → (p : ℕ) × (p < length ranked) × (number_at ranked p ≡ n)
number-placed ranked n (k, low, at) =
    let inside : k < length ranked = let len = length-numbers ranked in omega arith in
    (k, inside, sym (numbers-get_or ranked k inside) ∙ get_or_default (numbers ranked) k 0 n low ∙ at)

-- ---- closed sets of nodes, and sets of places that feed themselves

or-right : (a b : Bool) → a ≡ true → (not a || b) ≡ true → b ≡ true
or-right true b e t = t
or-right false b e t = absurd (let never : false ≡ true = e in cc)

-- a member of a closed set is able and has each of its postconditions
pub member-fits : (nodes : Nodes) (edges : List Edge) (set : List ℕ) (node : ℕ × ℕ × Bool) → is_closed nodes edges set ≡ true → Contains nodes node → is_member nat_eq set node.0 ≡ true → (node.2 && has_each_post edges set node) ≡ true
unfolding is_closed
member-fits nodes edges set node closed listed member =
    let test : ℕ × ℕ × Bool → Bool = λ x. not (is_member nat_eq set x.0) || (x.2 && has_each_post edges set x) in
    let passes : test node ≡ true = All-contains (λ x. test x ≡ true) nodes node (AllPass-from_list_all test nodes closed) listed in
    or-right (is_member nat_eq set node.0) (node.2 && has_each_post edges set node) member passes

pub has-post : (edges : List Edge) (set : List ℕ) (node : ℕ × ℕ × Bool) (post : ℕ) → has_each_post edges set node ≡ true → post < node.1 → is_supplied edges set node.0 post ≡ true
has-post edges set node post has low =
    let passes = AllPass-from_list_all (is_supplied edges set node.0) (range_with_len 0 node.1) has in
    let len = length-range_with_len 0 node.1 in
    let at : get_or (range_with_len 0 node.1) post 0 ≡ post = let e = get_or-range_with_len 0 node.1 post 0 low in omega arith in
    ap (is_supplied edges set node.0) (sym at) ∙ passes post 0 (omega arith)

pub each-post : (edges : List Edge) (set : List ℕ) (node : ℕ × ℕ × Bool) → ((post : ℕ) → post < node.1 → is_supplied edges set node.0 post ≡ true) → has_each_post edges set node ≡ true
each-post edges set node supplied =
    list_all-from_AllPass (is_supplied edges set node.0) (range_with_len 0 node.1)
    (λ k d low.
    let len = length-range_with_len 0 node.1 in
    let inside : k < node.1 = omega arith in
    let at : get_or (range_with_len 0 node.1) k d ≡ k = let e = get_or-range_with_len 0 node.1 k d inside in omega arith in
    ap (is_supplied edges set node.0) at ∙ supplied k inside)

-- an able node has a slot for each postcondition alone
able-slots : (b : Bool) (posts post : ℕ) → b ≡ true → post < posts + (if b then 0 else 1) → post < posts
able-slots true posts post able within = omega arith
able-slots false posts post able within = absurd (let never : false ≡ true = able in cc)

-- a node that is not able has one slot more
pub unable-slot : (b : Bool) (posts : ℕ) → b ≡ false → posts < posts + (if b then 0 else 1)
unable-slot true posts unable = absurd (let never : true ≡ false = unable in cc)
unable-slot false posts unable = omega arith

-- What is asked of an edge: both of its ends are nodes, and its waiter has that postcondition.
abbrev pub HasEnds : Nodes → Edge → Type 0
HasEnds nodes edge = Contains (numbers nodes) edge.provider × Any (λ node. (node.0 ≡ edge.waiter) × (edge.post < node.1)) nodes

-- after its last postcondition a node has none that an edge could lead to
pub past-last : (ranked : Nodes) (edges : List Edge) (set : List ℕ) (p : ℕ) → IsRanked ranked → All (HasEnds ranked) edges → p < length ranked → is_supplied edges set (number_at ranked p) (posts_at ranked p) ≡ true → ⊥
past-last ranked edges set p rising ends low e =
    let n = number_at ranked p in
    let k = posts_at ranked p in
    let found = Any-from_list_any (λ edge. leads_to n k edge && is_member nat_eq set edge.provider) edges e in
    let edge = found.1 in
    let leads = and_left (leads_to n k edge) (is_member nat_eq set edge.provider) found.4 in
    let waiter : edge.waiter ≡ n = eqb-true edge.waiter n (and_left (eqb edge.waiter n) (eqb edge.post k) leads) in
    let post : edge.post ≡ k = eqb-true edge.post k (and_right (eqb edge.waiter n) (eqb edge.post k) leads) in
    let has = All-contains (HasEnds ranked) edges edge ends (found.0, found.2, found.3) in
    let less = posts-of ranked rising edge.waiter edge.post p low (sym waiter) has.1 in
    absurd (omega arith)

-- The places whose nodes are in a closed set feed themselves.
pub closed-feeds : (nodes ranked : Nodes) (edges : List Edge) (starts owners : List ℕ) (offers : List Offer) → IsPermutation nodes ranked → AreSlots ranked starts owners → AreOffersOf ranked starts (length owners) edges offers
    → (set : List ℕ) → is_closed nodes edges set ≡ true → FeedsItself owners offers (λ p. is_member nat_eq set (number_at ranked p))
closed-feeds nodes ranked edges starts owners offers moved s l set closed = record {
  fed = λ slot low up.
      let p = get_or owners slot 0 in
      let start = get_or starts p 0 in
      let from = s.owned_from slot low in
      let to = s.owned_to slot low in
      let held = s.owner_low slot low in
      let post = slot - start in
      let fits = member-fits nodes edges set (get_or ranked p (0, 0, false)) closed (place-listed nodes ranked moved p held) up in
      let able : able_at ranked p ≡ true = and_left (able_at ranked p) (has_each_post edges set (get_or ranked p (0, 0, false))) fits in
      let has = and_right (able_at ranked p) (has_each_post edges set (get_or ranked p (0, 0, false))) fits in
      let within : post < slots_at ranked p = omega arith in
      let inside : post < posts_at ranked p = able-slots (able_at ranked p) (posts_at ranked p) post able within in
      let supplied = has-post edges set (get_or ranked p (0, 0, false)) post has inside in
      let at : start + post ≡ slot = omega arith in
      ap (λ n. list_any (feeds (λ q. is_member nat_eq set (number_at ranked q)) n) offers) (sym at) ∙ l.same set p post held within ∙ supplied;
}

-- The nodes of places that feed themselves are a closed set.
pub feeds-closed : (nodes ranked : Nodes) (edges : List Edge) (starts owners : List ℕ) (offers : List Offer) (up : ℕ → Bool) → IsPermutation nodes ranked → IsRanked ranked → All (HasEnds ranked) edges → AreSlots ranked starts owners → AreOffersOf ranked starts (length owners) edges offers
    → FeedsItself owners offers up → (set : List ℕ) → ((p : ℕ) → p < length ranked → is_member nat_eq set (number_at ranked p) ≡ up p) → is_closed nodes edges set ≡ true
unfolding is_closed
feeds-closed nodes ranked edges starts owners offers up moved rising ends s l itself set same =
    list_all-from_AllPass (λ x. not (is_member nat_eq set x.0) || (x.2 && has_each_post edges set x)) nodes
    (λ k d low.
    let node = get_or nodes k d in
    let placed = node-placed nodes ranked moved k d low in
    let p = placed.0 in
    by_bool (is_member nat_eq set node.0) ((not (is_member nat_eq set node.0) || (node.2 && has_each_post edges set node)) ≡ true)
    (λ t.
    let member : is_member nat_eq set (number_at ranked p) ≡ true = ap (λ (x : ℕ × ℕ × Bool). is_member nat_eq set x.0) placed.2 ∙ t in
    let stand : up p ≡ true = sym (same p placed.1) ∙ member in
    let given : (post : ℕ) → post < slots_at ranked p → is_supplied edges set (number_at ranked p) post ≡ true = λ post within.
    let slot = get_or starts p 0 + post in
    let held = s.slot_low p post placed.1 within in
    let owner = s.slot_owner p post placed.1 within in
    let fed = itself.fed slot held (ap up owner ∙ stand) in
    let fed' = feeds-more (length ranked) up (λ q. is_member nat_eq set (number_at ranked q)) slot (λ q inner e. same q inner ∙ e) offers (λ j e inner. (l.low j e inner).0) fed in
    sym (l.same set p post placed.1 within) ∙ fed' in
    let able : able_at ranked p ≡ true = by_bool (able_at ranked p) (able_at ranked p ≡ true) (λ b. b)
    (λ b. absurd (past-last ranked edges set p rising ends placed.1 (given (posts_at ranked p) (unable-slot (able_at ranked p) (posts_at ranked p) b)))) in
    let has : has_each_post edges set (get_or ranked p (0, 0, false)) ≡ true = each-post edges set (get_or ranked p (0, 0, false)) (λ post inside.
    given post (within-slots ranked p post inside)) in
    let here : (node.2 && has_each_post edges set node) ≡ true = ap (λ (x : ℕ × ℕ × Bool). x.2 && has_each_post edges set x) (sym placed.2) ∙ both (able_at ranked p) (has_each_post edges set (get_or ranked p (0, 0, false))) able has in
    rw here (or-true (not (is_member nat_eq set node.0))))
    (λ f. rw f refl))
  where
    or-true : (b : Bool) → (b || true) ≡ true
    or-true true = refl
    or-true false = refl

-- ---- all sets of elements of a list

any-mapped : {X Y : Type 0} (test : Y → Bool) (f : X → Y) (xs : List X) → list_any test (map f xs) ≡ list_any (λ x. test (f x)) xs
any-mapped test f [] = refl
any-mapped test f (x ∷ xs) = ap (λ (b : Bool). test (f x) || b) (any-mapped test f xs)

-- what passes as the part of a list that a test keeps is found among all its sets
pub part-found : (test : List ℕ → Bool) (keep : ℕ → Bool) (xs : List ℕ) → test (filter keep xs) ≡ true → list_any test (sublists xs) ≡ true
part-found test keep [] e = rw e refl
part-found test keep (x ∷ xs) e =
    let parts : list_any test (sublists (x ∷ xs)) ≡ (list_any (λ chosen. test (x ∷ chosen)) (sublists xs) || list_any test (sublists xs)) =
    list_any-append test (map (λ chosen. x ∷ chosen) (sublists xs)) (sublists xs) ∙ ap (λ (b : Bool). b || list_any test (sublists xs)) (any-mapped test (λ chosen. x ∷ chosen) (sublists xs)) in
    by_bool (keep x) (list_any test (sublists (x ∷ xs)) ≡ true)
    (λ t.
    let kept : test (x ∷ filter keep xs) ≡ true = rw t at e in
    let with_first = part-found (λ chosen. test (x ∷ chosen)) keep xs kept in
    parts ∙ ap (λ (b : Bool). b || list_any test (sublists xs)) with_first)
    (λ f.
    let left : test (filter keep xs) ≡ true = rw f at e in
    let without = part-found test keep xs left in
    parts ∙ ap (λ (b : Bool). list_any (λ chosen. test (x ∷ chosen)) (sublists xs) || b) without ∙ or-true (list_any (λ chosen. test (x ∷ chosen)) (sublists xs)))
  where
    or-true : (b : Bool) → (b || true) ≡ true
    or-true true = refl
    or-true false = refl

or-cases : (a b : Bool) (P : Type 0) → (a || b) ≡ true → (a ≡ true → P) → (b ≡ true → P) → P
or-cases true b P e f g = f refl
or-cases false b P e f g = g e

or-wider : (a b c : Bool) → (b ≡ true → c ≡ true) → (a || b) ≡ true → (a || c) ≡ true
or-wider true b c f e = refl
or-wider false b c f e = f e

or-later : (a b : Bool) → b ≡ true → (a || b) ≡ true
or-later true b e = refl
or-later false b e = e

-- a set that passes, and whose members are elements of the list
abbrev pub PassingPart : (List ℕ → Bool) → List ℕ → Type 0
PassingPart test xs = (set : List ℕ) × (test set ≡ true) × ((n : ℕ) → is_member nat_eq set n ≡ true → is_member nat_eq xs n ≡ true)

pub found-part : (test : List ℕ → Bool) (xs : List ℕ) → list_any test (sublists xs) ≡ true → PassingPart test xs
found-part test [] e = ([], or-cases (test []) false (test [] ≡ true) e (λ t. t) (λ n. absurd (let never : false ≡ true = n in cc)), λ n m. m)
found-part test (x ∷ xs) e =
    let parts : list_any test (sublists (x ∷ xs)) ≡ (list_any (λ chosen. test (x ∷ chosen)) (sublists xs) || list_any test (sublists xs)) =
    list_any-append test (map (λ chosen. x ∷ chosen) (sublists xs)) (sublists xs) ∙ ap (λ (b : Bool). b || list_any test (sublists xs)) (any-mapped test (λ chosen. x ∷ chosen) (sublists xs)) in
    or-cases (list_any (λ chosen. test (x ∷ chosen)) (sublists xs)) (list_any test (sublists xs)) (PassingPart test (x ∷ xs)) (sym parts ∙ e)
    (λ t.
    let found = found-part (λ chosen. test (x ∷ chosen)) xs t in
    (x ∷ found.0, found.1, λ n m. or-wider (eqb n x) (is_member nat_eq found.0 n) (is_member nat_eq xs n) (found.2 n) m))
    (λ t.
    let found = found-part test xs t in
    (found.0, found.1, λ n m. or-later (eqb n x) (is_member nat_eq xs n) (found.2 n m)))

-- ---- matched nodes

-- What is found, and whose places are the greatest that feed themselves, is what is matched.
pub found-matched : (nodes ranked : Nodes) (edges : List Edge) (starts owners : List ℕ) (offers : List Offer) (standing : List Bool) (found : List ℕ)
    → IsPermutation nodes ranked → IsRanked ranked → All (HasEnds ranked) edges → AreSlots ranked starts owners → AreOffersOf ranked starts (length owners) edges offers
    → FeedsItself owners offers (stands standing)
    → ((set : ℕ → Bool) → FeedsItself owners offers set → (p : ℕ) → p < length ranked → set p ≡ true → stands standing p ≡ true)
    → ((p : ℕ) → p < length ranked → is_member nat_eq found (number_at ranked p) ≡ stands standing p)
    → All (Contains (numbers ranked)) found
    → (n : ℕ) → Contains found n ↔ IsTrue (is_matched nodes edges n)
unfolding is_matched
found-matched nodes ranked edges starts owners offers standing found moved rising ends s l itself greatest same known n =
    let listed : (m : ℕ) → is_member nat_eq (numbers ranked) m ≡ true → is_member nat_eq (numbers nodes) m ≡ true = λ m h. contained-member (numbers nodes) m
    (Contains-permutation (numbers ranked) (numbers nodes) m (IsPermutation-sym (numbers nodes) (numbers ranked) (IsPermutation-map (λ (node : ℕ × ℕ × Bool). node.0) nodes ranked moved)) (member-contained (numbers ranked) m h)) in
    let keep : ℕ → Bool = is_member nat_eq found in
    let part = filter keep (numbers nodes) in
    let part_member : (m : ℕ) → is_member nat_eq part m ≡ (is_member nat_eq (numbers nodes) m && keep m) = λ m.
    is_member-filter nat_eq_equiv keep m (λ x e. ap keep (eqb-true m x e)) (numbers nodes) in
    let in_part : (m : ℕ) → is_member nat_eq (numbers ranked) m ≡ true → is_member nat_eq part m ≡ keep m = λ m h. part_member m ∙ ap (λ (b : Bool). b && keep m) (listed m h) in
    let part_same : (p : ℕ) → p < length ranked → is_member nat_eq part (number_at ranked p) ≡ stands standing p = λ p low.
    in_part (number_at ranked p) (contained-member (numbers ranked) (number_at ranked p) (number-known ranked p low)) ∙ same p low in
    let part_closed = feeds-closed nodes ranked edges starts owners offers (stands standing) moved rising ends s l itself part part_same in
    let test : List ℕ → Bool = λ set. is_closed nodes edges set && is_member nat_eq set n in (
      λ has.
          let member = in_part n (contained-member (numbers ranked) n (All-contains (Contains (numbers ranked)) found n known has)) ∙ contained-member found n has in
          part-found test keep (numbers nodes) (both (is_closed nodes edges part) (is_member nat_eq part n) part_closed member),
      λ matched.
          let passing = found-part test (numbers nodes) matched in
          let set = passing.0 in
          let closed = and_left (is_closed nodes edges set) (is_member nat_eq set n) passing.1 in
          let member = and_right (is_closed nodes edges set) (is_member nat_eq set n) passing.1 in
          let there = Contains-permutation (numbers nodes) (numbers ranked) n (IsPermutation-map (λ (node : ℕ × ℕ × Bool). node.0) nodes ranked moved) (member-contained (numbers nodes) n (passing.2 n member)) in
          let placed = number-placed ranked n there in
          let up = greatest (λ p. is_member nat_eq set (number_at ranked p)) (closed-feeds nodes ranked edges starts owners offers moved s l set closed) placed.0 placed.1 (ap (is_member nat_eq set) placed.2 ∙ member) in
          member-contained found n (ap keep (sym placed.2) ∙ same placed.0 placed.1 ∙ up),
    )

-- ---- what is asked of edges, over the nodes in rising order

pub ends-ranked : (nodes ranked : Nodes) (edges : List Edge) → IsPermutation nodes ranked
    → All (HasEnds nodes) edges → All (HasEnds ranked) edges
ends-ranked nodes ranked edges moved ends k d low =
    let edge = get_or edges k d in
    let e = ends k d low in
    let provider = Contains-permutation (numbers nodes) (numbers ranked) edge.provider (IsPermutation-map (λ (node : ℕ × ℕ × Bool). node.0) nodes ranked moved) e.0 in
    let w = e.1 in
    let waiter = Contains-permutation nodes ranked w.1 moved (w.0, w.2, w.3) in
    (provider, (waiter.0, w.1, waiter.1, waiter.2, w.4))

-- ---- two facts of one answer

pub if-ok-both : {X Y : Type 0} (r : Result X Y) (P Q R : X → Type 0) → ((x : X) → P x → Q x → R x) → IfOk r P → IfOk r Q → IfOk r R
if-ok-both (Ok x) P Q R f p q = f x p q
if-ok-both (Err e) P Q R f p q = tt

pub owners-low : (ranked : Nodes) (starts owners : List ℕ) (n : ℕ) → AreSlots ranked starts owners → n ≡ length ranked → All (λ p. p < n) owners
owners-low ranked starts owners n s len k d low =
    let here : get_or owners k d ≡ get_or owners k 0 = get_or_default owners k d 0 low in
    let o = s.owner_low k low in
    omega arith
