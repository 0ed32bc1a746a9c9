-- What is made of good parts: none is refused.
use Rattle.std.proofs.Common.{◌≡◌, ℕ, true, List, Option, Some, None, Ok, Err, refl}
use Rattle.cq_atom.specs.declared.fault.Bad.{Bad}
use Rattle.cq_atom.specs.Answer.{Answers}
use Rattle.cq_atom.specs.Atom.{arity_fault, is_arity}
use Rattle.cq_atom.specs.Text.{is_relation_name}

module _ {V : Type 0} (v : V) where
  -- the value is what was asked for
  pub made : (fault : Option Bad) (x : V) → fault ≡ None → Answers Bad.NoMemory fault v (Ok x) → x ≡ v
  made None x none h = h
  made (Some bad) x none h = absurd cc

  -- only memory runs out
  pub not_made : (fault : Option Bad) (bad : Bad) → fault ≡ None → Answers Bad.NoMemory fault v (Err bad) → bad ≡ Bad.NoMemory
  not_made None bad none h = h
  not_made (Some other) bad none h = absurd cc

pub well_named : (relation : List ℕ) (count : ℕ) → is_relation_name relation ≡ true → is_arity count ≡ true → arity_fault relation count ≡ None
well_named relation count name arity = rw (name, arity) refl
