-- JSON that is put part by part, and what it tells.
use Rattle.std.proofs.Common.{◌≡◌, ℕ, ◌+◌, ◌<◌, Bool, true, false, List, [], ◌∷◌, ◌++◌, length, map, take, drop, get_or, refl, sym, ap, ◌∙◌, append_assoc, append-nil, Some, arith}
use Rattle.std.specs.Prelude.{◌==◌, not, filter, Option, None, Result, Ok, Err, OnOk}
use Rattle.std.specs.List.{flat_map, enumerate_from, slice_get}
use Rattle.std.specs.Option.{option_map_or}
use Rattle.std.specs.Str.{bytes_eq}
use Rattle.std.proofs.lemmas.Bool.Decides.{Decides-eqb}
use Rattle.json.specs.Json.{Json}
use Rattle.json.specs.Token.{Token, begin_object, end_object, begin_array, end_array, key}
use Rattle.json.specs.Tree.{json_tokens, items_tokens, members_tokens}
use Rattle.cq_board.specs.Pool.{PendingQuery, PoolRecord}
use Rattle.cq_render.specs.Json.{items, members, array_of, object_of}
use Rattle.cq_render.specs.Data.{IsPut, IsOne, IsArray, standing_json, first_json, IsUnmetJson, IsWaitJson, IsWhyBy, told_names}
use Rattle.cq_render.specs.Explain.{waiting_names}
use Rattle.cq_render.specs.Steps.Walking.{ShownRecord, shown_of, shown_json}
use Rattle.cq_render.specs.Steps.Telling.{first_shown, member_tokens, ArePut, AreListed}
use Rattle.cq_render.proofs.Explained.{pieces_step, pieces_at}
use Rattle.cq_render.proofs.Pages.{put_both}
use Rattle.cq_render.proofs.Pieces.{ahead, by_bool}

-- ---- members

members_append : (ms ns : List (List ℕ × Json)) → member_tokens (ms ++ ns) ≡ member_tokens ms ++ member_tokens ns
members_append [] ns = refl
members_append (m ∷ ms) ns =
    ap (λ (z : List Token). key m.0 ∷ (json_tokens m.1 ++ z)) (members_append ms ns) ∙ ap (λ (z : List Token). key m.0 ∷ z) (sym (append_assoc (json_tokens m.1) (member_tokens ms) (member_tokens ns)))

-- the tokens of members, with the closing bracket
closed : (ms : List (List ℕ × Json)) → member_tokens ms ++ end_object ∷ [] ≡ members_tokens (members ms)
closed [] = refl
closed (m ∷ ms) = ap (λ (z : List Token). key m.0 ∷ z) (append_assoc (json_tokens m.1) (member_tokens ms) (end_object ∷ []) ∙ ap (λ (z : List Token). json_tokens m.1 ++ z) (closed ms))

-- an object that is put: its bracket, its members, and its other bracket
pub put_object : {E : Type 0} (old first last new : List Token) (ms : List (List ℕ × Json)) (r : Result (Unit {0}) E) → first ≡ old ++ begin_object ∷ [] → last ≡ first ++ member_tokens ms
    → OnOk r (new ≡ last ++ end_object ∷ []) → OnOk r (new ≡ old ++ json_tokens (object_of ms))
put_object old first last new ms (Ok done) begun put ended =
    ended ∙ ap (λ (z : List Token). z ++ end_object ∷ []) put ∙ append_assoc first (member_tokens ms) (end_object ∷ []) ∙ ap (λ (z : List Token). first ++ z) (closed ms)
    ∙ ap (λ (z : List Token). z ++ members_tokens (members ms)) begun ∙ append_assoc old (begin_object ∷ []) (members_tokens (members ms))
put_object old first last new ms (Err fault) begun put ended = tt

-- one more member: its key, and its value
pub put_more : (old before named new : List Token) (ms : List (List ℕ × Json)) (name : List ℕ) (value : Json) → before ≡ old ++ member_tokens ms → named ≡ before ++ key name ∷ []
    → new ≡ named ++ json_tokens value → new ≡ old ++ member_tokens (ms ++ (name, value) ∷ [])
put_more old before named new ms name value h k v =
    let pair : new ≡ before ++ (key name ∷ json_tokens value) = put_both before named new (key name ∷ []) (json_tokens value) k v in
    let all : new ≡ old ++ (member_tokens ms ++ (key name ∷ json_tokens value)) = put_both old before new (member_tokens ms) (key name ∷ json_tokens value) h pair in
    all ∙ ap (λ (z : List Token). old ++ (member_tokens ms ++ key name ∷ z)) (sym (append-nil (json_tokens value))) ∙ ap (λ (z : List Token). old ++ z) (sym (members_append ms ((name, value) ∷ [])))

-- the last member, of which is told what it is
pub put_last_member : {E : Type 0} (P : Json → Type 0) (Q : List (List ℕ × Json) → Type 0) (old before named new : List Token) (ms : List (List ℕ × Json)) (name : List ℕ) (r : Result (Unit {0}) E)
    → before ≡ old ++ member_tokens ms → named ≡ before ++ key name ∷ [] → ((value : Json) → P value → Q (ms ++ (name, value) ∷ [])) → OnOk r (IsPut P named new) → OnOk r (ArePut Q old new)
put_last_member P Q old before named new ms name (Ok done) h k so put =
    (ms ++ (name, put.0) ∷ [], so put.0 put.1, put_more old before named new ms name put.0 h k put.2)
put_last_member P Q old before named new ms name (Err fault) h k so put = tt

-- a value that is put is so
pub put_so : {E : Type 0} (P : Json → Type 0) (value : Json) (old new : List Token) (r : Result (Unit {0}) E) → P value → OnOk r (new ≡ old ++ json_tokens value) → OnOk r (IsPut P old new)
put_so P value old new (Ok done) so is = (value, so, is)
put_so P value old new (Err fault) so is = tt

-- ---- values

closed_items : (vs : List Json) → flat_map json_tokens vs ++ end_array ∷ [] ≡ items_tokens (items vs)
closed_items [] = refl
closed_items (v ∷ vs) = append_assoc (json_tokens v) (flat_map json_tokens vs) (end_array ∷ []) ∙ ap (λ (z : List Token). json_tokens v ++ z) (closed_items vs)

values_more : (vs : List Json) (v : Json) → flat_map json_tokens vs ++ json_tokens v ≡ flat_map json_tokens (vs ++ v ∷ [])
values_more [] v = sym (append-nil (json_tokens v))
values_more (w ∷ vs) v = append_assoc (json_tokens w) (flat_map json_tokens vs) (json_tokens v) ∙ ap (λ (z : List Token). json_tokens w ++ z) (values_more vs v)

-- none so far
pub listed_none : {X : Type 0} (tells : X → Json → Type 0) (old : List Token) → AreListed tells [] old old
listed_none tells old = ([], refl, sym (append-nil old))

tokens_more : (old mid new : List Token) (vs : List Json) (v : Json) → mid ≡ old ++ flat_map json_tokens vs → new ≡ mid ++ json_tokens v → new ≡ old ++ flat_map json_tokens (vs ++ v ∷ [])
tokens_more old mid new vs v h k = put_both old mid new (flat_map json_tokens vs) (json_tokens v) h k ∙ ap (λ (z : List Token). old ++ z) (values_more vs v)

-- one more
pub listed_step : {X : Type 0} (tells : X → Json → Type 0) (xs : List X) (i : ℕ) (d : X) (old mid new : List Token) → i < length xs → AreListed tells (take i xs) old mid
    → IsPut (tells (get_or xs i d)) mid new → AreListed tells (take (i + 1) xs) old new
listed_step tells xs i d old mid new low so_far one = (
  so_far.0 ++ one.0 ∷ [],
  pieces_step (IsOne tells) xs i d so_far.0 (so_far.0 ++ one.0 ∷ []) (one.0 ∷ []) low so_far.1 (one.0, one.1, refl) refl,
  tokens_more old mid new so_far.0 one.0 so_far.2 one.2,
)

-- the same of elements as they are read
pub listed_read : {X Y : Type 0} (tells : Y → Json → Type 0) (read : X → Y) (xs : List X) (i : ℕ) (d : X) (old mid new : List Token) → i < length xs
    → AreListed tells (map read (take i xs)) old mid → IsPut (tells (read (get_or xs i d))) mid new → AreListed tells (map read (take (i + 1) xs)) old new
listed_read tells read xs i d old mid new low so_far one = (
  so_far.0 ++ one.0 ∷ [],
  pieces_at (IsOne tells) read xs i d so_far.0 (so_far.0 ++ one.0 ∷ []) (one.0 ∷ []) low so_far.1 (one.0, one.1, refl) refl,
  tokens_more old mid new so_far.0 one.0 so_far.2 one.2,
)

-- an array that is put: its bracket, its values, and its other bracket
pub listed_closed : {X E : Type 0} (tells : X → Json → Type 0) (xs : List X) (old first last new : List Token) (r : Result (Unit {0}) E) → first ≡ old ++ begin_array ∷ [] → AreListed tells xs first last
    → OnOk r (new ≡ last ++ end_array ∷ []) → OnOk r (IsPut (IsArray tells xs) old new)
listed_closed tells xs old first last new (Ok done) begun listed ended = (
  array_of listed.0,
  (listed.0, listed.1, refl),
  ended ∙ ap (λ (z : List Token). z ++ end_array ∷ []) listed.2 ∙ append_assoc first (flat_map json_tokens listed.0) (end_array ∷ []) ∙ ap (λ (z : List Token). first ++ z) (closed_items listed.0)
      ∙ ap (λ (z : List Token). z ++ items_tokens (items listed.0)) begun ∙ append_assoc old (begin_array ∷ []) (items_tokens (items listed.0)),
)
listed_closed tells xs old first last new (Err fault) begun listed ended = tt

-- ---- the first query of a name

pub first_is : (pool : PoolRecord) (name : List ℕ) (n : ℕ) (pending : List PendingQuery)
    → first_shown pool name (map (shown_of pool) (enumerate_from n pending)) ≡ first_json pool name (filter (λ entry. bytes_eq entry.1.name name) (enumerate_from n pending))
first_is pool name n [] = refl
first_is pool name n (p ∷ pending) =
    by_bool (bytes_eq p.name name) (first_shown pool name (map (shown_of pool) (enumerate_from n (p ∷ pending))) ≡ first_json pool name (filter (λ entry. bytes_eq entry.1.name name) (enumerate_from n (p ∷ pending))))
    (λ t. rw t refl)
    (λ f. rw f (first_is pool name (n + 1) pending))

pub first_here : {X : Type 0} (pool : PoolRecord) (name : List ℕ) (read : X → ShownRecord) (xs : List X) (i : ℕ) (x : X) → slice_get xs i ≡ Some x → bytes_eq (read x).name name ≡ true
    → shown_json pool.pending (read x) ≡ first_shown pool name (map read (drop i xs))
first_here pool name read xs i x got here = rw (ahead xs i x got, here) refl

pub first_later : {X : Type 0} (pool : PoolRecord) (name : List ℕ) (read : X → ShownRecord) (xs : List X) (i : ℕ) (x : X) → slice_get xs i ≡ Some x → bytes_eq (read x).name name ≡ false
    → first_shown pool name (map read (drop (i + 1) xs)) ≡ first_shown pool name (map read (drop i xs))
first_later pool name read xs i x got other = rw (ahead xs i x got, other) refl

-- ---- by what a name names, and whether there are names

pub unmet_some : {X : Type 0} (pending : List PendingQuery) (name : List ℕ) (post : ℕ) (read : X → List ℕ) (xs : List X) → (length xs == 0) ≡ false
    → IsUnmetJson pending name post (map read xs) (array_of [])
unmet_some pending name post read [] many = absurd (let never : true ≡ false = many in cc)
unmet_some pending name post read (x ∷ xs) many = refl

pub unmet_none : {X : Type 0} (pending : List PendingQuery) (name : List ℕ) (post : ℕ) (read : X → List ℕ) (xs : List X) → (length xs == 0) ≡ true → (heads : Json)
    → IsUnmetJson pending name post [] heads → IsUnmetJson pending name post (map read xs) heads
unmet_none pending name post read [] none heads told = told
unmet_none pending name post read (x ∷ xs) none heads told = let long = (Decides-eqb (length (x ∷ xs)) 0).0 none in absurd (omega (arith, long))

pub why_settled : (state : Option Bool) (pool : PoolRecord) (name : List ℕ) → option_map_or not state false ≡ false → IsWhyBy state pool name (standing_json pool name)
why_settled None pool name off = refl
why_settled (Some true) pool name off = refl
why_settled (Some false) pool name off = absurd (let never : true ≡ false = off in cc)

pub why_waits : (state : Option Bool) (pool : PoolRecord) (name : List ℕ) (value : Json) → option_map_or not state false ≡ true → IsWaitJson pool name value → IsWhyBy state pool name value
why_waits None pool name value on waits = absurd (let never : false ≡ true = on in cc)
why_waits (Some true) pool name value on waits = absurd (let never : false ≡ true = on in cc)
why_waits (Some false) pool name value on waits = waits

pub told_none : (pool : PoolRecord) (names : List (List ℕ)) → (length names == 0) ≡ true → waiting_names pool ≡ told_names pool names
told_none pool [] none = refl
told_none pool (name ∷ names) none = let long = (Decides-eqb (length (name ∷ names)) 0).0 none in absurd (omega (arith, long))

pub told_some : (pool : PoolRecord) (names : List (List ℕ)) → (length names == 0) ≡ false → names ≡ told_names pool names
told_some pool [] many = absurd (let never : true ≡ false = many in cc)
told_some pool (name ∷ names) many = refl
