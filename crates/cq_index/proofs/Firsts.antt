-- The first term of an atom, as it is read.
use Rattle.std.proofs.Common.{◌≡◌, ◌<◌, ◌≤◌, List, [], ◌∷◌, length, get_or, Option, Some, None, is_some, sym, ap, ◌∙◌, subst, arith}
use Rattle.std.specs.Borrow.{Bor}
use Rattle.std.specs.Option.{option_copied}
use Rattle.cq_atom.specs.Value.{ValueContent}
use Rattle.cq_atom.specs.Atom.{TermContent, AtomRecord, constant_of}
use Rattle.cq_index.specs.declared.key.Reach.{Reach}
use Rattle.cq_index.specs.declared.key.Reach.TheVariants.{Own}
use Rattle.cq_index.specs.Index.{leading_constant, first_constant}
use Rattle.cq_index.specs.Steps.Keys.{first_of, first_at}

leading : (ts : List TermContent) (t : TermContent) → 1 ≤ length ts → t ≡ get_or ts 0 t → constant_of t ≡ leading_constant ts
leading [] t some is = absurd (omega arith)
leading (s ∷ ts) t some is = ap constant_of is

-- there is one
pub has-first : {X : Type 0} (now ts : List X) → now ≡ ts → 1 ≤ length ts → 0 < length now
has-first now ts same some = subst (λ l. 1 ≤ length l) (sym same) some

-- it is the constant that the atom begins with, or none
pub first-is : (now ts : List TermContent) (t : TermContent) (o : Option ValueContent) → now ≡ ts → 1 ≤ length ts → t ≡ get_or now 0 t → o ≡ constant_of t → o ≡ leading_constant ts
first-is now ts t o same some is read = read ∙ leading now t (has-first now ts same some) is ∙ ap leading_constant same

pub told : {X : Type 0} (r : Option (Bor X)) (o : Option X) → option_copied r ≡ o → is_some r ≡ is_some o
told None o is = ap is_some is
told (Some x) o is = ap is_some is

-- as a bucket goes by it
pub own-first : (reach : Reach) (a : AtomRecord) (o : Option ValueContent) → reach ≡ Own → o ≡ first_constant a → first_of o ≡ first_at reach a
own-first reach a o own is = ap first_of is ∙ sym (ap (λ r. first_at r a) own)
