-- Tokens of JSON that is put part by part.
use Rattle.std.proofs.Common.{◌≡◌, ℕ, ◌+◌, List, [], ◌∷◌, ◌++◌, drop, refl, sym, ap, ◌∙◌, append_assoc, append-nil, Some}
use Rattle.std.specs.List.{flat_map, slice_get}
use Rattle.std.proofs.lemmas.Grind.{flat_map-append}
use Rattle.json.specs.Json.{Json}
use Rattle.json.specs.Token.{Token, key, end_object, begin_array, end_array}
use Rattle.json.specs.Tree.{json_tokens, items_tokens, members_tokens}
use Rattle.cq_render.specs.Json.{items, array_of, members}
use Rattle.cq_render.proofs.CallerLemmas.{put_both}
use Rattle.cq_going.specs.Steps.Tokens.{members_alone, items_alone}
use Rattle.cq_going.proofs.Listed.{ahead}

-- ---- items

items_after : (values more : List Json) → items_tokens (items (values ++ more)) ≡ items_alone values ++ items_tokens (items more)
items_after [] more = refl
items_after (value ∷ values) more =
    ap (λ (z : List Token). json_tokens value ++ z) (items_after values more) ∙ sym (append_assoc (json_tokens value) (items_alone values) (items_tokens (items more)))

-- the same of elements that have several items each, or none
abbrev pub spread : {X : Type 0} → (X → List Json) → List X → List Token
spread f xs = items_tokens (items (flat_map f xs))

pub spread_at : {X : Type 0} (f : X → List Json) (xs : List X) (i : ℕ) (x : X) → slice_get xs i ≡ Some x → spread f (drop i xs) ≡ items_alone (f x) ++ spread f (drop (i + 1) xs)
spread_at f xs i x got = ap (spread f) (ahead xs i x got) ∙ items_after (f x) (flat_map f (drop (i + 1) xs))

-- an array of items that were put one after another
pub array_whole : (old first last new : List Token) (values : List Json) → first ≡ old ++ begin_array ∷ [] → last ≡ first ++ items_alone values → new ≡ last ++ end_array ∷ [] → new ≡ old ++ json_tokens (array_of values)
array_whole old first last new values begun put ended =
    put_both old first new (begin_array ∷ []) (items_alone values ++ end_array ∷ []) begun (put_both first last new (items_alone values) (end_array ∷ []) put ended)
    ∙ ap (λ (z : List Token). old ++ begin_array ∷ z) (sym (items_after values []) ∙ ap (λ (js : List Json). items_tokens (items js)) (append-nil values))

-- items after others
pub items_more : (old last new : List Token) (values piece : List Json) → last ≡ old ++ items_alone values → new ≡ last ++ items_alone piece → new ≡ old ++ items_alone (values ++ piece)
items_more old last new values piece put more =
    put_both old last new (items_alone values) (items_alone piece) put more ∙ ap (λ (z : List Token). old ++ z) (sym (flat_map-append json_tokens values piece))

-- ---- members

pub members_after : (ms more : List (List ℕ × Json)) → members_tokens (members (ms ++ more)) ≡ members_alone ms ++ members_tokens (members more)
members_after [] more = refl
members_after (m ∷ ms) more =
    ap (λ (z : List Token). key m.0 ∷ (json_tokens m.1 ++ z)) (members_after ms more) ∙ sym (append_assoc (key m.0 ∷ json_tokens m.1) (members_alone ms) (members_tokens (members more)))

pub members_whole : (ms : List (List ℕ × Json)) → members_tokens (members ms) ≡ members_alone ms ++ end_object ∷ []
members_whole ms = ap (λ (all : List (List ℕ × Json)). members_tokens (members all)) (sym (append-nil ms)) ∙ members_after ms []
