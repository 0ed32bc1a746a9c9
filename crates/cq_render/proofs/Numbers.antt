-- The numbers of the queries that wait.
use Rattle.std.proofs.Common.{◌≡◌, ℕ, ◌+◌, zero-add, add-zero, ◌<◌, ◌≤◌, Bool, true, false, eqb, cond, List, [], ◌∷◌, ◌++◌, length, map, take, get_or, refl, sym, ap, subst, ◌∙◌, arith, Some}
use Rattle.std.specs.Prelude.{not, if◌then◌else◌, Result, Ok, Err, IfOk, Option, None}
use Rattle.std.specs.List.{All, Contains, enumerate_from, position, position_or_len, prefix_len}
use Rattle.std.specs.Str.{bytes_eq}
use Rattle.std.specs.Option.{is_some}
use Rattle.std.proofs.lemmas.Bool.{eq-eqb, ltb-true, ltb-false, lt-ltb, le-ltb, ne_eqb}
use Rattle.std.proofs.Math.Dec.{ltb}
use Rattle.std.proofs.lemmas.List.{get_or-map, length-map, length-take-le, length-append, take_more}
use Rattle.std.proofs.lemmas.List.Folds.{position_or_len_push}
use Rattle.std.proofs.lemmas.List.Sums.{prefix_len-le-length}
use Rattle.std.proofs.lemmas.List.Elements.{All-filter, All-from_get_or, Contains-get_or}
use Rattle.std.proofs.lemmas.List.FromFn.{get_or-enumerate_from, length-enumerate_from}
use Rattle.std.proofs.lemmas.List.Quantifiers.{position-Some}
use Rattle.cq_match.specs.declared.falls.Fall.{Fall}
use Rattle.cq_match.specs.declared.falls.Reason.TheVariants.{NotAble}
use Rattle.cq_match.specs.Falling.{fallen, IsUnmatched}
use Rattle.cq_match.specs.Matched.{numbers}
use Rattle.cq_match.specs.Resting.{IsPartFor}
use Rattle.cq_board.specs.Pool.{PendingQuery, PoolRecord, name_of}
use Rattle.cq_board.specs.Edits.{is_named}
use Rattle.cq_board.specs.Edges.{edges_of}
use Rattle.cq_board.specs.Board.{is_able, is_matched_at, nodes_of, place_of}
use Rattle.cq_board.specs.Waiting.{is_waiting}
use Rattle.cq_render.proofs.Pieces.{by_bool}
use Rattle.cq_render.specs.Steps.Falls.{AreFalls}
use Rattle.cq_render.specs.Steps.Numbering.{first_of}

-- what three clauses say of a value
pub all_three : {X Y : Type 0} (r : Result X Y) (P Q R S : X → Type 0) → ((x : X) → P x → Q x → R x → S x) → IfOk r P → IfOk r Q → IfOk r R → IfOk r S
all_three (Ok x) P Q R S f p q r = f x p q r
all_three (Err e) P Q R S f p q r = tt

-- ---- the nodes of a pool are numbered from 0

module _ (pool : PoolRecord) where
  abbrev node : ℕ × PendingQuery → ℕ × ℕ × Bool
  node p = (p.0, length p.1.query.posts, is_able pool.tables.rows p.1)

  how_many : length (numbers (nodes_of pool)) ≡ length pool.pending
  how_many = length-map (nodes_of pool) (λ n. n.0) ∙ length-map (enumerate_from 0 pool.pending) node ∙ length-enumerate_from 0 pool.pending

  no_query : PendingQuery
  no_query = record { name = []; query = record { posts = []; heads = []; body = [] } }

  number_at : (k d : ℕ) → k < length pool.pending → get_or (numbers (nodes_of pool)) k d ≡ k
  number_at k d low =
      let all = enumerate_from 0 pool.pending in
      let none : ℕ × PendingQuery = (0, no_query) in
      let in_all : k < length all = let m = length-enumerate_from 0 pool.pending in omega (arith, low, m) in
      let in_nodes : k < length (nodes_of pool) = let m = length-map all node in omega (arith, in_all, m) in
      get_or-map (λ (n : ℕ × ℕ × Bool). n.0) (nodes_of pool) k (node none) d in_nodes
      ∙ ap (λ (n : ℕ × ℕ × Bool). n.0) (get_or-map node all k none (node none) in_all)
      ∙ ap (λ (p : ℕ × PendingQuery). p.0) (get_or-enumerate_from 0 pool.pending k none low)
      ∙ zero-add k

  below : (n : ℕ) → Contains (numbers (nodes_of pool)) n → n < length pool.pending
  below n h =
      let at : h.0 < length pool.pending = let low = h.1 in let m = how_many in omega (arith, low, m) in
      subst (λ (k : ℕ). k < length pool.pending) (sym (number_at h.0 n at) ∙ h.2) at

  listed : (n : ℕ) → n < length pool.pending → Contains (numbers (nodes_of pool)) n
  listed n low =
      subst (Contains (numbers (nodes_of pool))) (number_at n 0 low)
      (Contains-get_or (numbers (nodes_of pool)) n 0 (let m = how_many in omega (arith, low, m)))

  -- all falls are of queries that are pending
  pub falls_low : (falls : List Fall) → AreFalls pool falls → All (λ (fall : Fall). fall.node < length pool.pending) falls
  falls_low falls all =
      let d : Fall = record { node = 0; reason = NotAble } in
      All-from_get_or (λ (fall : Fall). fall.node < length pool.pending) falls d
      (λ i low.
      let fall = get_or falls i d in
      let node_is : get_or (fallen falls) i 0 ≡ fall.node = get_or-map (λ (f : Fall). f.node) falls i d 0 low in
      let among : i < length (fallen falls) = let m = length-map falls (λ (f : Fall). f.node) in omega (arith, low, m) in
      below fall.node ((all.unmatched fall.node).0 (subst (Contains (fallen falls)) node_is (Contains-get_or (fallen falls) i 0 among))).0)

  -- a part of all falls is of queries that are pending
  pub part_low : (falls : List Fall) → AreFalls pool falls → (node : ℕ) (part : List Fall) → IsPartFor (edges_of pool.pending) falls node part → All (λ (fall : Fall). fall.node < length pool.pending) part
  part_low falls all node part is =
      let P : Fall → Type 0 = λ fall. fall.node < length pool.pending in
      subst (All P) (sym is.kept) (All-filter is.keeps P falls (falls_low falls all))

  -- the number of a query that waits is not matched
  pub unmatched_at : (name : List ℕ) (n : ℕ) → is_waiting name pool ≡ true → place_of name pool.pending ≡ Some n → IsUnmatched (nodes_of pool) (edges_of pool.pending) n
  unmatched_at name n waits here =
      let told : not (is_matched_at pool n) ≡ true = rw here at waits in (
        listed n (position-Some (is_named name) pool.pending n no_query here).0,
        by_bool (is_matched_at pool n) (is_matched_at pool n ≡ false)
            (λ t. let never : false ≡ true = rw t at told in cc)
            (λ f. f),
      )

-- ---- a name is found among the names where its query stands

prefix_map : {X Y : Type 0} (p : Y → Bool) (read : X → Y) (xs : List X) → prefix_len p (map read xs) ≡ prefix_len (λ x. p (read x)) xs
prefix_map p read [] = refl
prefix_map p read (x ∷ xs) =
    by_bool (p (read x)) (prefix_len p (map read (x ∷ xs)) ≡ prefix_len (λ x. p (read x)) (x ∷ xs))
    (λ t. rw t (ap (λ (n : ℕ). 1 + n) (prefix_map p read xs)))
    (λ f. rw f refl)

pub number_is_place : {X : Type 0} (name : List ℕ) (read : X → List ℕ) (xs : List X) (pending : List PendingQuery) → map read xs ≡ map name_of pending
    → position (λ x. bytes_eq name (read x)) xs ≡ place_of name pending
number_is_place {X} name read xs pending same =
    let other : List ℕ → Bool = λ y. not (bytes_eq name y) in
    let many : length xs ≡ length pending = sym (length-map xs read) ∙ ap length same ∙ length-map pending name_of in
    let front : position_or_len (λ (x : X). bytes_eq name (read x)) xs ≡ position_or_len (is_named name) pending = sym (prefix_map other read xs) ∙ ap (prefix_len other) same ∙ prefix_map other name_of pending in
    rw (front, many) refl

-- one more name is numbered
pub position_more : {X : Type 0} (p : X → Bool) (xs : List X) (i : ℕ) (d : X) → i < length xs → position p (take (i + 1) xs) ≡ first_of (position p (take i xs)) (if p (get_or xs i d) then Some i else None)
position_more {X} p xs i d low =
    let front = take i xs in
    let x = get_or xs i d in
    let at = position_or_len p front in
    let many : length front ≡ i = length-take-le i xs (omega (arith, low)) in
    let longer : take (i + 1) xs ≡ front ++ x ∷ [] = take_more xs i d low in
    let grown : length (front ++ x ∷ []) ≡ i + 1 = length-append front (x ∷ []) ∙ ap (λ (n : ℕ). n + 1) many in
    let push : position_or_len p (front ++ x ∷ []) ≡ cond (eqb at (length front)) (length front + cond (p x) 0 1) at = position_or_len_push p front x in
    ap (position p) longer ∙
    by_bool (ltb at (length front)) (position p (front ++ x ∷ []) ≡ first_of (position p front) (if p x then Some i else None))
    (λ t.
    let less : at < length front = ltb-true at (length front) t in
    let other : eqb at (length front) ≡ false = ne_eqb at (length front) (λ e. let equal : at ≡ length front = e in omega (arith, less, equal)) in
    let stays : position_or_len p (front ++ x ∷ []) ≡ at = push ∙ rw other refl in
    let under : ltb at (length (front ++ x ∷ [])) ≡ true = lt-ltb at (length (front ++ x ∷ [])) (omega (arith, less, many, grown)) in
    rw (stays, under, t) refl)
    (λ f.
    let over : length front ≤ at = ltb-false at (length front) f in
    let at_end : at ≡ length front = let most = prefix_len-le-length (λ y. not (p y)) front in omega (arith, over, most) in
    let here : eqb at (length front) ≡ true = eq-eqb at (length front) at_end in
    by_bool (p x) (position p (front ++ x ∷ []) ≡ first_of (position p front) (if p x then Some i else None))
    (λ y.
    let stays : position_or_len p (front ++ x ∷ []) ≡ i = push ∙ rw (here, y) (add-zero (length front) ∙ many) in
    let under : ltb i (length (front ++ x ∷ [])) ≡ true = lt-ltb i (length (front ++ x ∷ [])) (omega (arith, grown)) in
    rw (stays, under, f, y) refl)
    (λ n.
    let past : position_or_len p (front ++ x ∷ []) ≡ i + 1 = push ∙ rw (here, n) (ap (λ (m : ℕ). m + 1) many) in
    let over_all : ltb (i + 1) (length (front ++ x ∷ [])) ≡ false = le-ltb (i + 1) (length (front ++ x ∷ [])) (omega (arith, grown)) in
    rw (past, over_all, f, n) refl))

pub first_alone : (found : Option ℕ) → first_of found None ≡ found
first_alone None = refl
first_alone (Some n) = refl

pub first_new : (found other : Option ℕ) → is_some found ≡ false → first_of found other ≡ other
first_new None other h = refl
first_new (Some n) other h = absurd (let never : false ≡ true = sym h in cc)
