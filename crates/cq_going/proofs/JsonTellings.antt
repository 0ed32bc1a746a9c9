-- What is told of a search, and of groups, as JSON.
use Rattle.std.proofs.Common.{◌≡◌, ℕ, true, false, List, [], ◌∷◌, length, refl, append-nil, arith}
use Rattle.std.specs.Prelude.{◌==◌, Bool, Option, Some, None, codes, map}
use Rattle.std.proofs.lemmas.Bool.Decides.{Decides-eqb}
use Rattle.json.specs.Json.{string}
use Rattle.json.specs.Tree.{json_tokens}
use Rattle.cq_board.specs.Pool.{PoolRecord}
use Rattle.cq_render.specs.Json.{array_of, object_of}
use Rattle.cq_render.specs.Data.{standing_json}
use Rattle.cq_going.specs.Reasons.{is_yes}
use Rattle.cq_going.specs.Grouping.{IsVerdict}
use Rattle.cq_going.specs.Data.{barred_if, IsGroupJson}
use Rattle.cq_going.specs.Steps.Tokens.{items_alone}

-- nothing is told of a name whose query is matched
pub matched_alone : (pool : PoolRecord) (name : List ℕ) (state : Option Bool) → is_yes state ≡ true → items_alone (barred_if pool name state) ≡ []
matched_alone pool name None on = cc
matched_alone pool name (Some true) on = refl
matched_alone pool name (Some false) on = cc

-- any other is told
pub barred_alone : (pool : PoolRecord) (name : List ℕ) (state : Option Bool) → is_yes state ≡ false → items_alone (barred_if pool name state) ≡ json_tokens (standing_json pool name)
barred_alone pool name None off = append-nil (json_tokens (standing_json pool name))
barred_alone pool name (Some true) off = cc
barred_alone pool name (Some false) off = append-nil (json_tokens (standing_json pool name))

-- nothing is told of no group
pub no_group : (pool : PoolRecord) (names : List (List ℕ)) → (length names == 0) ≡ true → IsGroupJson pool names []
no_group pool [] none = refl
no_group pool (name ∷ names) none = let long = (Decides-eqb (length (name ∷ names)) 0).0 none in absurd (omega (arith, long))

-- the same of a group that has queries
pub group_told : (pool : PoolRecord) (names : List (List ℕ)) (words : List ℕ) → (length names == 0) ≡ false → IsVerdict pool names words
    → IsGroupJson pool names (object_of ((codes "queries", array_of (map string names)) ∷ (codes "verdict", string words) ∷ []) ∷ [])
group_told pool [] words some told = absurd cc
group_told pool (name ∷ names) words some told = (words, told, refl)
