-- How the members of a choice serve one another, one step after another.
use Rattle.std.specs.Prelude.{◌≡◌, List, Option, Some, None}
use Rattle.std.specs.List.{All, Any, AllByRecursion}
use Rattle.cq_atom.specs.declared.term.TermKind.TheVariants.{Constant, Variable}
use Rattle.cq_atom.specs.Value.{ValueContent, IsValue}
use Rattle.cq_atom.specs.Atom.{TermContent, AtomRecord}
use Rattle.cq_atom.specs.Query.{QueryRecord}
use Rattle.cq_atom.specs.Valuation.{under}
use Rattle.cq_atom.specs.Unify.{Unify}
use Rattle.cq_board.specs.Pool.{PendingQuery}
use Rattle.cq_board.specs.Named.{query_named}
use Rattle.cq_board.specs.Choice.{ChoiceRecord, bound}

-- A constant is a value.
abbrev pub IsValid : TermContent → Type 0
IsValid (Constant c) = IsValue c
IsValid (Variable x) = Unit {0}

abbrev pub AreValid : List TermContent → Type 0
AreValid terms = AllByRecursion IsValid terms

-- Both terms are the variable of one name.
abbrev pub SameVariable : TermContent → TermContent → Type 0
SameVariable (Constant c) t = ⊥
SameVariable (Variable x) (Constant d) = ⊥
SameVariable (Variable x) (Variable y) = x ≡ y

-- A head of the query is the atom under the values, where there is a query.
abbrev pub IsOfferedBy : Option QueryRecord → List ValueContent → AtomRecord → Type 0
IsOfferedBy None values atom = ⊥
IsOfferedBy (Some query) values atom = Any (λ head. under (bound query values) head ≡ atom) query.heads

-- A head of the query unifies with the postcondition, where there is a query.
abbrev pub HasHead : Option QueryRecord → AtomRecord → Type 0
HasHead None post = ⊥
HasHead (Some query) post = Any (λ head. Unify head post) query.heads

abbrev pub IsOffered : List PendingQuery → List ChoiceRecord → AtomRecord → Type 0
IsOffered pending choices atom = Any (λ c. IsOfferedBy (query_named c.name pending) c.values atom) choices

abbrev pub IsSupplied : List PendingQuery → List ChoiceRecord → AtomRecord → Type 0
IsSupplied pending choices post = Any (λ c. HasHead (query_named c.name pending) post) choices

-- Each postcondition of the query is offered under the values, where there is a query.
abbrev pub IsServed : List PendingQuery → List ChoiceRecord → Option QueryRecord → List ValueContent → Type 0
IsServed pending choices None values = Unit {0}
IsServed pending choices (Some query) values = All (λ post. IsOffered pending choices (under (bound query values) post)) query.posts

-- Each postcondition of the query unifies with a member's head, where there is a query.
abbrev pub HasSuppliers : List PendingQuery → List ChoiceRecord → Option QueryRecord → Type 0
HasSuppliers pending choices None = Unit {0}
HasSuppliers pending choices (Some query) = All (IsSupplied pending choices) query.posts

abbrev pub AreServed : List PendingQuery → List ChoiceRecord → Type 0
AreServed pending choices = All (λ c. IsServed pending choices (query_named c.name pending) c.values) choices

abbrev pub HaveSuppliers : List PendingQuery → List ChoiceRecord → Type 0
HaveSuppliers pending choices = All (λ c. HasSuppliers pending choices (query_named c.name pending)) choices
