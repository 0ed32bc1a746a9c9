-- The answers of a board to another setup.
use Rattle.std.proofs.Common.{◌≡◌, Option, Some, None, refl, sym, ap, ◌∙◌}
use Rattle.std.specs.Prelude.{Result, Ok, Err}
use Rattle.cq_atom.specs.Answer.{Answers}
use Rattle.cq_board.specs.Setup.{refused_by}
use Rattle.cq_board.specs.declared.setup.RelationFault.{RelationFault}
use Rattle.cq_board.specs.declared.setup.RelationFault.TheVariants.{NoMemory}
use Rattle.cq_board.specs.declared.setup.LimitsFault.{LimitsFault}
use Rattle.cq_board.specs.declared.setup.LimitsFault.TheVariants.{TooManyPending}

pub accepted : (f : Option RelationFault) (r : Result (Unit {0}) RelationFault) (u : Unit {0}) → Answers NoMemory f tt r → r ≡ Ok u → f ≡ None
accepted None r u a is = refl
accepted (Some x) r u a is = absurd (let never : Err x ≡ Ok u = sym a ∙ is in cc)

pub refused : (f : Option RelationFault) (r : Result (Unit {0}) RelationFault) (e : RelationFault) → Answers NoMemory f tt r → r ≡ Err e → (e ≡ NoMemory → ⊥) → f ≡ Some e
refused (Some x) r e a is n = let both : Err x ≡ Err e = sym a ∙ is in let same : x ≡ e = cc in ap Some same
refused None (Ok u) e a is n = absurd cc
refused None (Err x) e a is n = absurd (n (let same : x ≡ e = cc in sym same ∙ a))

pub limited : (f : Option LimitsFault) (r : Result (Unit {0}) LimitsFault) (u : Unit {0}) → r ≡ refused_by f → r ≡ Ok u → f ≡ None
limited None r u a is = refl
limited (Some x) r u a is = absurd (let never : Err x ≡ Ok u = sym a ∙ is in cc)

pub too_many : (f : Option LimitsFault) (r : Result (Unit {0}) LimitsFault) (e : LimitsFault) → r ≡ refused_by f → r ≡ Err e → f ≡ Some TooManyPending
too_many None r e a is = absurd (let never : Ok tt ≡ Err e = sym a ∙ is in cc)
too_many (Some TooManyPending) r e a is = refl
