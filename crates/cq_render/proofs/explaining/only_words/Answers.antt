use Rattle.std.proofs.Common.{◌≡◌, ◌++◌, ◌∙◌, List, ℕ, length, map, subst, sym, ap, append_assoc}
use Rattle.std.specs.Prelude.{codes, string_bytes, IfOk}
use Rattle.std.specs.List.{join_by}
use Rattle.std.proofs.lemmas.List.{length-map}
use Rattle.cq_render.specs.Explain.{wait_word}
use Rattle.cq_render.proofs.Pieces.{join_map}
use Rattle.cq_render.proofs.explaining.only_words.Goals as goal

abbrev line : List ℕ → List ℕ → List ℕ
line joined wait = codes "only " ++ joined ++ codes ", who " ++ wait

whole : (joined wait : List ℕ) → codes "only " ++ (joined ++ (codes ", who " ++ wait)) ≡ line joined wait
whole joined wait = simp append_assoc

pub returns : goal.returns
returns g c =
    let names = c.args.names.now in
    let joined : c.as_str-joined.result.now ≡ join_by (λ name. name) (codes ", ") (map (λ name. name.now) names) =
    c.as_str-joined.ensures.value ∙ c.in_ok-joined.ensures.ok ∙ join_map (λ name. name.now) (codes ", ") names in
    let wait : c.wait_word-wait.result.now ≡ wait_word (length (map (λ name. name.now) names)) = c.wait_word-wait.ensures ∙ ap wait_word (sym (length-map names (λ name. name.now))) in
    let written : IfOk c.format.result (λ text. string_bytes text ≡ codes "only " ++ (c.as_str-joined.result.now ++ (codes ", who " ++ c.wait_word-wait.result.now))) = c.format.ensures.ok in
    let told = subst (λ (bytes : List ℕ). IfOk c.format.result (λ text. string_bytes text ≡ bytes)) (whole c.as_str-joined.result.now c.wait_word-wait.result.now) written in
    subst (λ (words : List ℕ). IfOk c.format.result (λ text. string_bytes text ≡ line words (wait_word (length (map (λ name. name.now) names))))) joined
    (subst (λ (words : List ℕ). IfOk c.format.result (λ text. string_bytes text ≡ line c.as_str-joined.result.now words)) wait told)
