use Rattle.std.proofs.Common.{◌≡◌, ℕ, List, [], map, sym, ap, subst, ◌∙◌}
use Rattle.std.specs.Prelude.{Option, Some, None, IfOk}
use Rattle.std.specs.Option.{option_map, option_map_or}
use Rattle.cq_atom.specs.Value.{ValueContent}
use Rattle.cq_atom.specs.Atom.{RowRecord}
use Rattle.cq_rel.specs.Tables.{rows_in}
use Rattle.cq_near.specs.Unfit.{strange, nearest}
use Rattle.cq_near.proofs.unfit.near_values.Goals as goal

pub returns-in-Some : goal.returns-in-Some
returns-in-Some g c =
    let tables = c.args.tables.now in
    let atom = c.args.atom.now in
    let near = λ (best : Option (ℕ × RowRecord)). option_map_or (λ (b : ℕ × RowRecord). strange atom.terms b.1.values) best [] in
    let found : nearest atom.terms (rows_in atom.relation tables) ≡ Some (c.in-Some.field-0-0, c.in-Some.row.now) =
    sym (c.in_ok-row.ensures ∙ ap (λ ts. nearest ts (rows_in c.relation.result.now tables)) c.terms.ensures.value ∙ ap (λ r. nearest atom.terms (rows_in r tables)) c.relation.ensures.value) ∙ ap (option_map (λ best. (best.0, best.1.now))) c.in-Some.is in
    subst (λ (all : List ValueContent). IfOk c.strange.result (λ values. map (λ v. v.now) values.items ≡ all))
    (ap (λ ts. strange ts c.values.result.now) c.terms-in-Some.ensures.value ∙ ap (strange atom.terms) c.values.ensures.value ∙ sym (ap near found)) c.strange.ensures

pub returns-in-None : goal.returns-in-None
returns-in-None g c =
    let tables = c.args.tables.now in
    let atom = c.args.atom.now in
    let near = λ (best : Option (ℕ × RowRecord)). option_map_or (λ (b : ℕ × RowRecord). strange atom.terms b.1.values) best [] in
    let found : nearest atom.terms (rows_in atom.relation tables) ≡ None =
    sym (c.in_ok-row.ensures ∙ ap (λ ts. nearest ts (rows_in c.relation.result.now tables)) c.terms.ensures.value ∙ ap (λ r. nearest atom.terms (rows_in r tables)) c.relation.ensures.value) ∙ ap (option_map (λ best. (best.0, best.1.now))) c.in-None.is in
    ap (map (λ v. v.now)) c.new.ensures.items ∙ sym (ap near found)
