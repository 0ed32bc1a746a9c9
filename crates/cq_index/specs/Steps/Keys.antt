-- The keys of buckets.
use Rattle.std.specs.Prelude.{ℕ, Bool, true, false, ◌&&◌, nat_eq, ◌++◌, List, length, Option, Some, None}
use Rattle.std.specs.Str.{bytes_eq}
use Rattle.std.specs.Hash as fed
use Rattle.cq_atom.specs.declared.value.Content.TheVariants.{Number, Text}
use Rattle.std.specs.Borrow.{Bor}
use Rattle.cq_index.specs.declared.key.First.{First}
use Rattle.cq_index.specs.declared.key.First.TheVariants.{Any, Variable, Constant}
use Rattle.cq_index.specs.declared.key.Asked.{Asked}
use Rattle.cq_index.specs.declared.key.Reach.{Reach}
use Rattle.cq_index.specs.declared.key.Reach.TheVariants.{Own, Open, Group}
use Rattle.cq_atom.specs.Value.{ValueContent}
use Rattle.cq_atom.specs.Atom.{AtomRecord}
use Rattle.cq_index.specs.Index.{first_constant, same_value}

-- The relation, the arity and the first argument by which a bucket goes.
pub record KeyContent : Type 0 where
  pub relation : List ℕ
  pub arity : ℕ
  pub first : First ValueContent

abbrev pub first_of : Option ValueContent → First ValueContent
first_of None = Variable
first_of (Some v) = Constant v

-- The first argument of the atom, as far as the bucket goes by it.
abbrev pub first_at : Reach → AtomRecord → First ValueContent
first_at Own a = first_of (first_constant a)
first_at Open a = Variable
first_at Group a = Any

abbrev pub key_at : Reach → AtomRecord → KeyContent
key_at reach a = record { relation = a.relation; arity = length a.terms; first = first_at reach a }

-- The key of the bucket that holds the atoms with the same relation, arity and first argument.
abbrev pub key_of : AtomRecord → KeyContent
key_of a = key_at Own a

-- The key of the bucket that holds the atoms with the same relation and arity that begin with a variable.
abbrev pub open_of : AtomRecord → KeyContent
open_of a = key_at Open a

-- The key of the bucket that holds the atoms with the same relation and arity.
abbrev pub group_of : AtomRecord → KeyContent
group_of a = key_at Group a

-- What is looked up, as it lies in an atom.
abbrev pub asked_first : First (Bor ValueContent) → First ValueContent
asked_first Any = Any
asked_first Variable = Variable
asked_first (Constant v) = Constant v.now

abbrev pub asked_key : {A : Type 0} → Asked A → KeyContent
asked_key q = record { relation = q.relation.now; arity = q.arity; first = asked_first q.first }

abbrev pub same_first : First ValueContent → First ValueContent → Bool
same_first Any Any = true
same_first Any Variable = false
same_first Any (Constant w) = false
same_first Variable Any = false
same_first Variable Variable = true
same_first Variable (Constant w) = false
same_first (Constant v) Any = false
same_first (Constant v) Variable = false
same_first (Constant v) (Constant w) = same_value v w

abbrev pub same_key : KeyContent → KeyContent → Bool
same_key k l = bytes_eq k.relation l.relation && (nat_eq k.arity l.arity && same_first k.first l.first)

abbrev pub same_asked : {A : Type 0} → Asked A → Asked A → Bool
same_asked q r = same_key (asked_key q) (asked_key r)

-- What is hashed of a value, of a first argument and of a key.
abbrev pub value_input : ValueContent → List (List ℕ)
value_input (Number n) = fed.i64 n
value_input (Text t) = fed.str t

abbrev pub first_input : First ValueContent → List (List ℕ)
first_input Any = fed.bool false
first_input Variable = fed.bool true
first_input (Constant v) = value_input v

abbrev pub key_input : KeyContent → List (List ℕ)
key_input k = fed.str k.relation ++ (fed.usize k.arity ++ first_input k.first)
