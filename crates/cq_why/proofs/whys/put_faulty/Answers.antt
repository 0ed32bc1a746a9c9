use Rattle.std.proofs.Common.{◌≡◌, ◌++◌, ◌∙◌, ℕ, List, Option, refl, ap, subst, take, drop}
use Rattle.std.specs.Prelude.{string_bytes}
use Rattle.std.proofs.lemmas.Result.{on_ok_weaker}
use Rattle.cq_text.specs.declared.fault.Kind.{Kind}
use Rattle.cq_text.specs.declared.form.Form.{Form}
use Rattle.cq_rel.specs.Tables.{Declaration}
use Rattle.cq_board.specs.declared.limits.Limits.{Limits}
use Rattle.cq_report.specs.declared.refusal.Refusal.{Refusal}
use Rattle.cq_report.specs.Reading.{Faulty}
use Rattle.cq_why.specs.Why.{IsHint, IsWhy, why_line}
use Rattle.cq_why.proofs.whys.put_faulty.Goals as goal

told_of : (limits : Limits) (catalog : List Declaration) (refused : Option Refusal) (form : Form) (kind : Kind) (offset : ℕ) (line origin : List ℕ) (number : ℕ) (front rest before after : List ℕ) → front ≡ take offset line → rest ≡ drop offset line
    → (words : List ℕ) × IsHint form kind front rest words × (after ≡ before ++ why_line origin number words front rest)
    → (piece : List ℕ) × IsWhy origin number limits catalog form line refused (Faulty kind offset) piece × (after ≡ before ++ piece)
told_of limits catalog refused form kind offset line origin number front rest before after p q told =
    let hint : IsHint form kind (take offset line) (drop offset line) told.0 =
    subst (λ (x : List ℕ). IsHint form kind x (drop offset line) told.0) p (subst (λ (x : List ℕ). IsHint form kind front x told.0) q told.1) in
    let is : after ≡ before ++ why_line origin number told.0 (take offset line) (drop offset line) =
    told.2 ∙ ap (λ (x : List ℕ). before ++ why_line origin number told.0 x rest) p ∙ ap (λ (x : List ℕ). before ++ why_line origin number told.0 (take offset line) x) q in
    (why_line origin number told.0 (take offset line) (drop offset line), (told.0, hint, refl), is)

pub returns : goal.returns
returns g c =
    on_ok_weaker c.put_why.result
    (λ told limits catalog refused. told_of limits catalog refused c.args.form c.args.kind c.args.offset c.args.line.now c.args.origin.now c.args.number c.parted.result.0.now c.parted.result.1.now (string_bytes c.args.page.now) (string_bytes c.put_why.new.page) c.parted.ensures.front c.parted.ensures.rest told)
    c.put_why.ensures
