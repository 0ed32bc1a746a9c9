use Rattle.std.proofs.Common.{◌≡◌, length, arith, refl}
use Rattle.std.specs.Prelude.{nat_le}
use Rattle.std.proofs.lemmas.Str.{is_utf8-from_IsUtf8}
use Rattle.std.proofs.lemmas.Bool.{le-leb}
use Rattle.cq_csv.proofs.Csv.{no_utf8}
use Rattle.cq_csv.proofs.records.flaw_of.Goals as goal

pub returns-in-Ok : goal.returns-in-Ok
returns-in-Ok c =
    let short : nat_le (length c.args.field.now) 255 ≡ _ = le-leb (length c.args.field.now) 255 (omega (arith, c.if-field-gt-MAX_TEXT.false)) in
    rw (short, is_utf8-from_IsUtf8 c.args.field.now c.in-Ok.ensures.cases.1) refl

pub returns-in-Err : goal.returns-in-Err
returns-in-Err c =
    let short : nat_le (length c.args.field.now) 255 ≡ _ = le-leb (length c.args.field.now) 255 (omega (arith, c.if-field-gt-MAX_TEXT.false)) in
    rw (short, no_utf8 c.args.field.now c.in-Err.ensures.cases.0) refl
