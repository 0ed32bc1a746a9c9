-- Why a pending query waits: the part of the falls that tells it, and the number of its name.
use Rattle.std.proofs.Common.{◌≡◌, ℕ, zero, suc, ◌<◌, Bool, true, false, List, [], ◌∷◌, ◌++◌, length, map, get_or, refl, sym, ap, subst, ◌∙◌, arith, Some}
use Rattle.std.specs.Prelude.{not, Result, Ok, Err, IfOk}
use Rattle.std.specs.List.{All, AllByRecursion, enumerate_from, slice_get, position, position_or_len}
use Rattle.std.specs.Str.{bytes_eq}
use Rattle.std.proofs.Math.ListN.{length-map}
use Rattle.std.proofs.lemmas.List.Elements.{All-from_recursion}
use Rattle.std.proofs.lemmas.List.Quantifiers.{position-Some}
use Rattle.std.proofs.lemmas.Option.{slice_get_within}
use Rattle.cq_match.specs.declared.falls.Fall.{Fall}
use Rattle.cq_match.specs.Falling.{is_unmet, HasReason, IsFallingAfter, IsFalling, IsUnmatched}
use Rattle.cq_match.specs.Matched.{numbers}
use Rattle.cq_board.specs.Pool.{PendingQuery, PoolRecord, name_of}
use Rattle.cq_board.specs.Edits.{is_named}
use Rattle.cq_board.specs.Edges.{edges_of}
use Rattle.cq_board.specs.Board.{is_able, nodes_of, is_matched_at, place_of}
use Rattle.cq_board.specs.Waiting.{is_waiting}
use Rattle.cq_board.proofs.Among.{Contains-In, In-Any, enumerate-In}
use Rattle.cq_board.proofs.Ends.{In-enumerate}
use Rattle.cq_board.proofs.Members.{by_bool, In, In-map, In-map_gives}

got-at : {X : Type 0} (xs : List X) (i : ℕ) (d : X) → i < length xs → slice_get xs i ≡ Some (get_or xs i d)
got-at [] i d low = absurd (omega arith)
got-at (x ∷ xs) zero d low = refl
got-at (x ∷ xs) (suc i) d low = got-at xs i d (omega arith)

-- ---- the nodes of a pool are the places of its queries

module _ (pool : PoolRecord) where
  abbrev node_for : ℕ × PendingQuery → ℕ × ℕ × Bool
  node_for p = (p.0, length p.1.query.posts, is_able pool.tables.rows p.1)

  node-low : (node : ℕ × ℕ × Bool) → In node (nodes_of pool) → node.0 < length pool.pending
  node-low node h =
      let found = In-map_gives node_for (enumerate_from 0 pool.pending) node h in
      let within : found.0.0 < length pool.pending = slice_get_within pool.pending found.0.0 found.0.1 (In-enumerate pool.pending found.0 found.1) in
      subst (λ (k : ℕ). k < length pool.pending) (sym (ap (λ (x : ℕ × ℕ × Bool). x.0) found.2)) within

  falls-low : (gone : List ℕ) (falls : List Fall) → IsFallingAfter (nodes_of pool) (edges_of pool.pending) gone falls → AllByRecursion (λ (fall : Fall). fall.node < length pool.pending) falls
  falls-low gone [] h = tt
  falls-low gone (fall ∷ falls) h =
      let node = In-Any (λ (node : ℕ × ℕ × Bool). (node.0 ≡ fall.node) × HasReason (is_unmet (edges_of pool.pending) gone node.0) node fall.reason) (nodes_of pool) h.0 in
      (subst (λ (k : ℕ). k < length pool.pending) node.2.0 (node-low node.0 node.1), falls-low (gone ++ fall.node ∷ []) falls h.1)

  -- those that fall are places of pending queries
  pub part-low : (falls : List Fall) → IsFalling (nodes_of pool) (edges_of pool.pending) falls → All (λ (fall : Fall). fall.node < length pool.pending) falls
  part-low falls h = All-from_recursion (λ (fall : Fall). fall.node < length pool.pending) falls (falls-low [] falls h)

  unmatched : (name : List ℕ) (number : ℕ) → is_waiting name pool ≡ true → place_of name pool.pending ≡ Some number → is_matched_at pool number ≡ false
  unmatched name number waits here =
      let told : not (is_matched_at pool number) ≡ true = rw here at waits in
      by_bool (is_matched_at pool number) (is_matched_at pool number ≡ false)
      (λ t. let never : false ≡ true = rw t at told in cc)
      (λ f. f)

  -- a query that waits is a node that is not matched
  pub waiting-unmatched : (name : List ℕ) (number : ℕ) → is_waiting name pool ≡ true → place_of name pool.pending ≡ Some number → IsUnmatched (nodes_of pool) (edges_of pool.pending) number
  waiting-unmatched name number waits here =
      let d : PendingQuery = record { name = []; query = record { posts = []; heads = []; body = [] } } in
      let p = get_or pool.pending number d in
      let low : number < length pool.pending = (position-Some (is_named name) pool.pending number d here).0 in
      let at : slice_get pool.pending number ≡ Some p = got-at pool.pending number d low in
      let there : In (number, p) (enumerate_from 0 pool.pending) = enumerate-In pool.pending number p at in (
        Contains-In (numbers (nodes_of pool)) number (In-map (λ (x : ℕ × ℕ × Bool). x.0) (nodes_of pool) (node_for (number, p)) (In-map node_for (enumerate_from 0 pool.pending) (number, p) there)),
        unmatched name number waits here,
      )

-- ---- the number of a name

position_or_len-read : {X : Type 0} (test : List ℕ → Bool) (read : X → List ℕ) (xs : List X) (pending : List PendingQuery) → map read xs ≡ map name_of pending
    → position_or_len (λ x. test (read x)) xs ≡ position_or_len (λ (p : PendingQuery). test p.name) pending
position_or_len-read test read [] [] same = refl
position_or_len-read test read [] (p ∷ pending) same = absurd (let no : [] ≡ p.name ∷ map name_of pending = same in cc)
position_or_len-read test read (x ∷ xs) [] same = absurd (let no : read x ∷ map read xs ≡ [] = same in cc)
position_or_len-read test read (x ∷ xs) (p ∷ pending) same =
    let both : read x ∷ map read xs ≡ p.name ∷ map name_of pending = same in
    let first : read x ≡ p.name = cc in
    let rest : map read xs ≡ map name_of pending = cc in
    rw (first, position_or_len-read test read xs pending rest) refl

-- a name is found among the names as its query among the queries
pub place-read : {X : Type 0} (name : List ℕ) (read : X → List ℕ) (xs : List X) (pending : List PendingQuery) → map read xs ≡ map name_of pending → position (λ x. bytes_eq name (read x)) xs ≡ place_of name pending
place-read name read xs pending same =
    let many : length xs ≡ length pending = sym (length-map xs read) ∙ ap length same ∙ length-map pending name_of in
    rw (position_or_len-read (bytes_eq name) read xs pending same, many) refl

-- what three clauses say of a value
pub if_ok_three : {X Y : Type 0} (r : Result X Y) (P Q R S : X → Type 0) → ((x : X) → P x → Q x → R x → S x) → IfOk r P → IfOk r Q → IfOk r R → IfOk r S
if_ok_three (Ok x) P Q R S f p q r = f x p q r
if_ok_three (Err e) P Q R S f p q r = tt
