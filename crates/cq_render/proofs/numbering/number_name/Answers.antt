use Rattle.std.proofs.Common.{◌≡◌, ℕ, true, false, List, sym, ◌∙◌, Some, None, bytes_eq, if◌then◌else◌, subst}
use Rattle.std.specs.Prelude.{Option}
use Rattle.std.specs.Option.{is_some}
use Rattle.std.specs.HashMap.{get_by}
use Rattle.std.proofs.lemmas.Slice.Eq.{bytes_eq-Decides}
use Rattle.std.proofs.lemmas.Map.Text.{hash_map_updates_str}
use Rattle.cq_render.proofs.Pieces.{by_bool}
use Rattle.cq_render.specs.Steps.Numbering.{first_of}
use Rattle.cq_render.proofs.Numbers.{first_alone, first_new}
use Rattle.cq_render.proofs.numbering.number_name.Goals as goal

pub returns : goal.returns
returns g c wanted =
    let name = c.args.name.now in
    let old : Option ℕ = get_by (λ k. bytes_eq wanted k.now) c.args.numbers.now in
    let put = hash_map_updates_str name c.args.numbers.now c.insert.new.self _ c.in_ok-insert.ensures.updates wanted in
    by_bool (bytes_eq wanted name) (get_by (λ k. bytes_eq wanted k.now) c.insert.new.self ≡ first_of old (if bytes_eq wanted name then Some c.args.number else None))
    (λ t.
    let same : wanted ≡ name = (bytes_eq-Decides wanted name).0 t in
    let itself : bytes_eq name wanted ≡ true = (bytes_eq-Decides name wanted).1 (sym same) in
    let none : is_some old ≡ false = subst (λ (q : List ℕ). is_some (get_by (λ k. bytes_eq q k.now) c.args.numbers.now) ≡ false) (sym same) (sym c.contains_key.ensures ∙ c.if-contains_key.false) in
    rw t (rw itself at put ∙ sym (first_new old (Some c.args.number) none)))
    (λ f.
    let apart : bytes_eq name wanted ≡ false =
    by_bool (bytes_eq name wanted) (bytes_eq name wanted ≡ false)
    (λ t. absurd (let yes : bytes_eq wanted name ≡ true = (bytes_eq-Decides wanted name).1 (sym ((bytes_eq-Decides name wanted).0 t)) in let never : false ≡ true = sym f ∙ yes in cc))
    (λ e. e) in
    rw f (rw apart at put ∙ sym (first_alone old)))
