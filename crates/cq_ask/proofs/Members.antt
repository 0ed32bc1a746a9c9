-- Members that are put: a value after a name.
use Rattle.std.proofs.Common.{◌≡◌, ◌∙◌, ℕ, List, [], ◌∷◌, ◌++◌, refl, sym, ap, append_assoc}
use Rattle.std.specs.Prelude.{Result, Ok, Err, IfOk, OnOk, codes}
use Rattle.std.proofs.lemmas.Result.{IfOk-weaker}
use Rattle.json.specs.Json.{Json}
use Rattle.json.specs.Token.{Token, begin_array, end_array}
use Rattle.json.specs.Tree.{json_tokens, items_tokens}
use Rattle.json.specs.Print.{print}
use Rattle.cq_render.specs.Json.{items, array_of}
use Rattle.cq_render.specs.Data.{IsPut}
use Rattle.cq_render.proofs.CallerLemmas.{joined, put_both}
use Rattle.cq_ask.specs.Data.{member_text, IsToldAs}
use Rattle.cq_ask.specs.Steps.Several.{all_tokens}

-- the text of a member whose value was put on an empty sheet
member_is : (bytes name : List ℕ) (value : Json) (old new : List Token) → old ≡ [] → new ≡ old ++ json_tokens value → bytes ≡ codes ",\"" ++ (name ++ (codes "\":" ++ print new)) → bytes ≡ member_text (name, value)
member_is bytes name value old new empty put is =
    is ∙ joined (codes ",\"") name (codes "\":") (print new) ∙ ap (λ (tokens : List Token). codes ",\"" ++ name ++ codes "\":" ++ print tokens) (put ∙ ap (λ (z : List Token). z ++ json_tokens value) empty)

-- a member of a value that was put
pub told_as : {X E : Type 0} (is_so : List ℕ × Json → Type 0) (bytes : X → List ℕ) (r : Result X E) (name : List ℕ) (value : Json) (old new : List Token) → old ≡ [] → new ≡ old ++ json_tokens value → is_so (name, value)
    → IfOk r (λ text. bytes text ≡ codes ",\"" ++ (name ++ (codes "\":" ++ print new))) → IfOk r (λ text. IsToldAs is_so (bytes text))
told_as is_so bytes r name value old new empty put so written =
    IfOk-weaker r _ _ (λ text is. ((name, value), so, member_is (bytes text) name value old new empty put is)) written

-- the same of one of which is known what it tells
pub told_put : {X E : Type 0} (tells : Json → Type 0) (bytes : X → List ℕ) (r : Result X E) (name : List ℕ) (old new : List Token) → old ≡ [] → IsPut tells old new
    → IfOk r (λ text. bytes text ≡ codes ",\"" ++ (name ++ (codes "\":" ++ print new)))
    → IfOk r (λ text. IsToldAs (λ told. (value : Json) × tells value × (told ≡ (name, value))) (bytes text))
told_put tells bytes r name old new empty put written =
    told_as (λ told. (value : Json) × tells value × (told ≡ (name, value))) bytes r name put.0 old new empty put.2 (put.0, put.1, refl) written

-- the tokens of an array
array_tokens : (values : List Json) → json_tokens (array_of values) ≡ begin_array ∷ (all_tokens values ++ end_array ∷ [])
array_tokens values = ap (λ (tokens : List Token). begin_array ∷ tokens) (items_are values)
  where
    items_are : (values : List Json) → items_tokens (items values) ≡ all_tokens values ++ end_array ∷ []
    items_are [] = refl
    items_are (value ∷ values) = ap (λ (tokens : List Token). json_tokens value ++ tokens) (items_are values) ∙ sym (append_assoc (json_tokens value) (all_tokens values) (end_array ∷ []))

-- values one after another
pub all_append : (xs ys : List Json) → all_tokens (xs ++ ys) ≡ all_tokens xs ++ all_tokens ys
all_append [] ys = refl
all_append (x ∷ xs) ys = ap (λ (tokens : List Token). json_tokens x ++ tokens) (all_append xs ys) ∙ sym (append_assoc (json_tokens x) (all_tokens xs) (all_tokens ys))

-- an array of two parts: its bracket, its values, and its other bracket
pub array_of_both : {E : Type 0} (old first mid last new : List Token) (xs ys : List Json) (r : Result (Unit {0}) E) → first ≡ old ++ begin_array ∷ [] → mid ≡ first ++ all_tokens xs → last ≡ mid ++ all_tokens ys
    → OnOk r (new ≡ last ++ end_array ∷ []) → OnOk r (new ≡ old ++ json_tokens (array_of (xs ++ ys)))
array_of_both old first mid last new xs ys (Err fault) begun one two ended = tt
array_of_both old first mid last new xs ys (Ok done) begun one two ended =
    let both : last ≡ first ++ all_tokens (xs ++ ys) = put_both first mid last (all_tokens xs) (all_tokens ys) one two ∙ ap (λ (z : List Token). first ++ z) (sym (all_append xs ys)) in
    ended ∙ ap (λ (z : List Token). z ++ end_array ∷ []) both ∙ append_assoc first (all_tokens (xs ++ ys)) (end_array ∷ [])
    ∙ ap (λ (z : List Token). z ++ (all_tokens (xs ++ ys) ++ end_array ∷ [])) begun ∙ append_assoc old (begin_array ∷ []) (all_tokens (xs ++ ys) ++ end_array ∷ [])
    ∙ ap (λ (z : List Token). old ++ z) (sym (array_tokens (xs ++ ys)))
