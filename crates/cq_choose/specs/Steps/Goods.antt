-- Goods: what members of a choice offer and await. That a query is chosen for is one too.
use Rattle.std.specs.Prelude.{ℕ, Bool, true, false, ◌&&◌, List, [], ◌∷◌, ◌++◌}
use Rattle.std.specs.Ordering.{int_eq}
use Rattle.std.specs.List.{flat_map}
use Rattle.std.specs.Str.{bytes_eq}
use Rattle.std.specs.Hash as fed
use Rattle.std.specs.Borrow.{Bor}
use Rattle.cq_atom.specs.declared.value.Content.TheVariants.{Number, Text}
use Rattle.cq_atom.specs.declared.term.TermKind.TheVariants.{Constant, Variable}
use Rattle.cq_atom.specs.Value.{ValueContent}
use Rattle.cq_atom.specs.Atom.{TermContent, AtomRecord}
use Rattle.cq_atom.specs.Valuation.{under}
use Rattle.cq_board.specs.Choice.{bound}
use Rattle.cq_choose.specs.declared.keys.Good.{Good}
use Rattle.cq_choose.specs.declared.keys.Good.TheVariants.{Query, Atom}
use Rattle.cq_choose.specs.declared.keys.Part.{Part}
use Rattle.cq_choose.specs.declared.keys.Part.TheVariants.{Fixed, Open}
use Rattle.cq_choose.specs.declared.keys.Instance.{Instance}

-- That the query of that name is chosen for, or an atom under values.
abbrev pub GoodContent : Type 0
GoodContent = Good (List ℕ) AtomRecord

-- The atom under the values.
abbrev pub atom_of : {A : Type 0} → Instance A → AtomRecord
atom_of i = under (bound i.query.now i.values.now) i.atom.now

-- What is kept, as it is read.
abbrev pub good_of : {A : Type 0} → Good (Bor (List ℕ)) (Instance A) → GoodContent
good_of (Query name) = Query name.now
good_of (Atom i) = Atom (atom_of i)

-- A part of an atom, as the term that it is.
abbrev pub term_of : Part (Bor ValueContent) (Bor (List ℕ)) → TermContent
term_of (Fixed v) = Constant v.now
term_of (Open x) = Variable x.now

abbrev pub same_value : ValueContent → ValueContent → Bool
same_value (Number m) (Number n) = int_eq m n
same_value (Number m) (Text t) = false
same_value (Text s) (Number n) = false
same_value (Text s) (Text t) = bytes_eq s t

abbrev pub same_term : TermContent → TermContent → Bool
same_term (Constant c) (Constant d) = same_value c d
same_term (Constant c) (Variable y) = false
same_term (Variable x) (Constant d) = false
same_term (Variable x) (Variable y) = bytes_eq x y

abbrev pub same_terms : List TermContent → List TermContent → Bool
same_terms [] [] = true
same_terms [] (t ∷ ts) = false
same_terms (s ∷ ss) [] = false
same_terms (s ∷ ss) (t ∷ ts) = same_term s t && same_terms ss ts

abbrev pub same_atom : AtomRecord → AtomRecord → Bool
same_atom a b = bytes_eq a.relation b.relation && same_terms a.terms b.terms

abbrev pub same_good : GoodContent → GoodContent → Bool
same_good (Query m) (Query n) = bytes_eq m n
same_good (Query m) (Atom b) = false
same_good (Atom a) (Query n) = false
same_good (Atom a) (Atom b) = same_atom a b

-- What is hashed.
abbrev pub value_input : ValueContent → List (List ℕ)
value_input (Number n) = fed.i64 n
value_input (Text t) = fed.str t

abbrev pub term_input : TermContent → List (List ℕ)
term_input (Constant c) = value_input c
term_input (Variable x) = fed.str x

abbrev pub terms_input : List TermContent → List (List ℕ)
terms_input terms = flat_map term_input terms

abbrev pub atom_input : AtomRecord → List (List ℕ)
atom_input a = fed.str a.relation ++ terms_input a.terms

abbrev pub good_input : GoodContent → List (List ℕ)
good_input (Query name) = fed.str name
good_input (Atom a) = atom_input a
