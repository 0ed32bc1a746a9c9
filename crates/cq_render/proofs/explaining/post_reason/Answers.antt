use Rattle.std.proofs.Common.{◌≡◌, ◌++◌, ◌∙◌, List, ℕ, map, subst, sym, ap, append_assoc}
use Rattle.std.specs.Prelude.{codes, decimal, string_bytes, IfOk}
use Rattle.std.proofs.lemmas.Result.{IfOk-weaker}
use Rattle.cq_board.specs.Near.{post_named}
use Rattle.cq_render.specs.Explain.{atom_or_none, name_of_number, IsUnmetTold}
use Rattle.cq_render.proofs.explaining.post_reason.Goals as goal

abbrev line : ℕ → List ℕ → List ℕ → List ℕ
line post atom unmet = codes "post " ++ decimal post ++ codes " " ++ atom ++ codes ": " ++ unmet

whole : (post : ℕ) (atom unmet : List ℕ) → codes "post " ++ (decimal post ++ (codes " " ++ (atom ++ (codes ": " ++ unmet)))) ≡ line post atom unmet
whole post atom unmet = simp append_assoc

pub returns : goal.returns
returns g c =
    let pending = c.args.fallen.now.listing.now.board.now.pending in
    let name = c.args.name.now in
    let post = c.args.post in
    let providers = c.in_ok-providers.providers.items in
    let names : List (List ℕ) = map (name_of_number pending) providers in
    let atom : c.as_str-atom.result.now ≡ atom_or_none (post_named name post pending) = c.as_str-atom.ensures.value ∙ c.in_ok-atom.ensures ∙ ap atom_or_none c.post_of.ensures in
    let told_of : IsUnmetTold c.args.hints pending name c.args.waiter post names (string_bytes c.in_ok-unmet.unmet) = rw c.deref.ensures.value at c.in_ok-unmet.ensures in
    let unmet : IsUnmetTold c.args.hints pending name c.args.waiter post names c.as_str-unmet.result.now = subst (IsUnmetTold c.args.hints pending name c.args.waiter post names) (sym c.as_str-unmet.ensures.value) told_of in
    let written : IfOk c.format.result (λ text. string_bytes text ≡ codes "post " ++ (decimal post ++ (codes " " ++ (c.as_str-atom.result.now ++ (codes ": " ++ c.as_str-unmet.result.now))))) = c.format.ensures.ok in
    let told = subst (λ (bytes : List ℕ). IfOk c.format.result (λ text. string_bytes text ≡ bytes)) (whole post c.as_str-atom.result.now c.as_str-unmet.result.now) written in
    IfOk-weaker c.format.result _ _
    (λ text is. (providers, c.in_ok-providers.ensures, c.as_str-unmet.result.now, unmet, is))
    (subst (λ (words : List ℕ). IfOk c.format.result (λ text. string_bytes text ≡ line post words c.as_str-unmet.result.now)) atom told)
