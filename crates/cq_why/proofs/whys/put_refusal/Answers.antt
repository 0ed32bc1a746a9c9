use Rattle.std.proofs.Common.{◌≡◌, ◌++◌, ◌∙◌, ℕ, List, Option, refl, ap}
use Rattle.std.specs.Prelude.{string_bytes}
use Rattle.std.proofs.lemmas.Result.{on_ok_weaker}
use Rattle.cq_rel.specs.Tables.{Declaration}
use Rattle.cq_board.specs.declared.limits.Limits.{Limits}
use Rattle.cq_text.specs.Grammar.{CommandContent}
use Rattle.cq_text.specs.declared.form.Form.{Form}
use Rattle.cq_report.specs.declared.refusal.Refusal.{Refusal}
use Rattle.cq_report.specs.Reading.{Reading, Reads, Faulty, IsReading}
use Rattle.cq_report.proofs.CallerLemmas.{the_fault}
use Rattle.cq_why.specs.Why.{Use, IsWhy, command_line, misused, uses_of}
use Rattle.cq_why.proofs.whys.put_refusal.Goals as goal

-- what is told of a command, by its first misused relation
told_of : (limits : Limits) (catalog : List Declaration) (form : Form) (refused : Option Refusal) (line origin : List ℕ) (number : ℕ) (command : CommandContent) (used : Option Use) (before page : List ℕ) → used ≡ misused catalog (uses_of command) → IsReading form line (Reads command)
    → page ≡ before ++ command_line origin number limits catalog used line refused
    → (reading : Reading) × IsReading form line reading × (piece : List ℕ) × IsWhy origin number limits catalog form line refused reading piece × (page ≡ before ++ piece)
told_of limits catalog form refused line origin number command used before page same is told =
    (Reads command, is, command_line origin number limits catalog (misused catalog (uses_of command)) line refused, refl, told ∙ ap (λ (u : Option Use). before ++ command_line origin number limits catalog u line refused) same)

pub returns-in-Ok : goal.returns-in-Ok
returns-in-Ok g c =
    on_ok_weaker c.put_refused.result
    (told_of c.args.limits c.args.catalog.now c.args.form c.args.refused c.args.line.now c.args.origin.now c.args.number c.in-Ok.command _ (string_bytes c.args.page.now) (string_bytes c.put_refused.new.page) c.misused-used.ensures c.in-Ok.ensures.found)
    c.put_refused.ensures

pub returns-in-Err-At : goal.returns-in-Err-At
returns-in-Err-At g c =
    let reading = Faulty c.in-Err-At.kind c.in-Err-At.offset in
    on_ok_weaker c.put_faulty.result
    (λ told. let piece = told c.args.limits c.args.catalog.now c.args.refused in (reading, the_fault c.args.form c.args.line.now _ c.in-Err-At.kind c.in-Err-At.offset c.in-Err-At.field-0-is c.in-Err-At.ensures.fault, piece.0, rw c.in-Err-At.field-0-is at piece.1, piece.2))
    c.put_faulty.ensures
