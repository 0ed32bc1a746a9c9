use Rattle.std.proofs.Common.{◌≡◌, ◌∷◌, ◌+◌, [], refl, ◌∙◌, ap, inr, sym, arith, Some, None, true, false, take, drop, length, vec_len, filter_map, length-append}
use Rattle.std.specs.Prelude.{option_map}
use Rattle.csv.specs.Records.{field_at, fields_of}
use Rattle.cq_text.specs.Field.{value_of_field}
use Rattle.cq_csv.specs.declared.fault.Wrong.TheVariants.{Text}
use Rattle.cq_csv.specs.Csv.{field_flaw, first_wrong, flaw_of, is_field}
use Rattle.cq_csv.proofs.Csv.{fields_all, fields_from, fields_more, first_bad, good_more, its_flaw, no_flaw, values_more}
use Rattle.cq_csv.proofs.records.push_values.Goals as goal

pub loop-field-preserved : goal.loop-field-preserved
loop-field-preserved g c =
    let i = c.loop-field.invariant in
    let s = c.in-Some.ensures.steps in
    let at = c.loop-field.field-iterator.at in
    let fields = fields_of c.args.fields.now in
    let front = take at fields in
    let f = c.in-Some.field.now in
    let here : field_at fields at ≡ Some f = rw i.record_is at (sym s.1) in
    let more = fields_more fields at f here in
    let value = c.in-Ok.ensures.found in
    let good : is_field f ≡ true = rw value refl in
    record {
      record_is = rw s.0 i.record_is;
      fields = rw (s.2, more) (good_more field_flaw front (length front) f i.fields refl (no_flaw (length front) f good));
      values = rw (s.2, values_more value_of_field fields at f c.in-Ok.value here value, c.in_ok-push-in-Ok.ensures.items, i.values) refl;
      count = rw (s.2, more, c.in_ok-push-in-Ok.ensures.items) (omega (arith, i.count, length-append front (f ∷ []), length-append c.loop-field.values.items (c.in-Ok.value ∷ [])));
    }

pub returns-in-Err-At-clause-wrong : goal.returns-in-Err-At-clause-wrong
returns-in-Err-At-clause-wrong g c =
    let i = c.loop-field.invariant in
    let s = c.in-Some.ensures.steps in
    let at = c.loop-field.field-iterator.at in
    let fields = fields_of c.args.fields.now in
    let front = take at fields in
    let f = c.in-Some.field.now in
    let here : field_at fields at ≡ Some f = rw i.record_is at (sym s.1) in
    let none = (rw c.in-Err-At.field-0-is at c.in-Err-At.ensures.fault).0 in
    let bad : is_field f ≡ false = rw none refl in
    let n = length front in
    let wrong : first_wrong field_flaw fields ≡ Some (n, flaw_of f) =
    ap (first_wrong field_flaw) (fields_from fields at f here) ∙ first_bad field_flaw front n f (drop (at + 1) fields) (n, flaw_of f) i.fields refl (its_flaw n f bad)
    in
    let len : n ≡ vec_len c.loop-field.values = omega (arith, i.count, c.loop-field.values.ok) in
    inr (ap (option_map (λ w. Text w.0 w.1)) wrong ∙ rw (c.len.ensures, c.flaw_of.ensures) (ap (λ n. Some (Text n (flaw_of f))) len))

pub returns-clause-fields : goal.returns-clause-fields
returns-clause-fields g c =
    let i = c.loop-field.invariant in
    let fields = fields_of c.args.fields.now in
    let here : field_at fields c.loop-field.field-iterator.at ≡ None = rw i.record_is at (sym c.in-None.ensures.steps.1) in
    ap (first_wrong field_flaw) (sym (fields_all fields _ here)) ∙ i.fields

pub returns-clause-values : goal.returns-clause-values
returns-clause-values g c =
    let i = c.loop-field.invariant in
    let fields = fields_of c.args.fields.now in
    let here : field_at fields c.loop-field.field-iterator.at ≡ None = rw i.record_is at (sym c.in-None.ensures.steps.1) in
    i.values ∙ ap (filter_map value_of_field) (fields_all fields _ here)
