use Rattle.std.proofs.Common.{◌≡◌, ◌++◌, ◌∙◌, ℕ, List, subst, ap, append_assoc}
use Rattle.std.specs.Prelude.{codes, decimal, string_bytes, IfOk}
use Rattle.cq_render.specs.Explain.{atom_or_none, head_named}
use Rattle.cq_render.proofs.explaining.near_words.Goals as goal

abbrev line : List ℕ → ℕ → List ℕ → List ℕ
line name head atom = name ++ codes " head " ++ decimal head ++ codes " " ++ atom

whole : (name : List ℕ) (head : ℕ) (atom : List ℕ) → name ++ (codes " head " ++ (decimal head ++ (codes " " ++ atom))) ≡ line name head atom
whole name head atom = simp append_assoc

pub returns : goal.returns
returns g c =
    let provider = c.args.provider.now in
    let head = c.args.head in
    let atom : c.as_str-atom.result.now ≡ atom_or_none (head_named provider head c.args.board.now.pending) = c.as_str-atom.ensures.value ∙ c.in_ok-atom.ensures ∙ ap atom_or_none c.head_of.ensures in
    let name : c.as_str-name.result.now ≡ provider = c.as_str-name.ensures.bytes in
    let written : IfOk c.format.result (λ text. string_bytes text ≡ c.as_str-name.result.now ++ (codes " head " ++ (decimal head ++ (codes " " ++ c.as_str-atom.result.now)))) = c.format.ensures.ok in
    let told = subst (λ (bytes : List ℕ). IfOk c.format.result (λ text. string_bytes text ≡ bytes)) (whole c.as_str-name.result.now head c.as_str-atom.result.now) written in
    subst (λ (words : List ℕ). IfOk c.format.result (λ text. string_bytes text ≡ line provider head words)) atom
    (subst (λ (words : List ℕ). IfOk c.format.result (λ text. string_bytes text ≡ line words head c.as_str-atom.result.now)) name told)
