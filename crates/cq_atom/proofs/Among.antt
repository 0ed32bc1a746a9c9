-- A name is among the variables of a body exactly where an atom of the body has the variable.
use Rattle.std.proofs.Common.{◌≡◌, ℕ, Bool, true, false, not, List, [], ◌∷◌, refl, sym, ap, ◌∙◌, bytes_eq}
use Rattle.std.specs.Prelude.{filter, ◌||◌, ◌&&◌}
use Rattle.std.specs.List.{list_any, list_all, filter_map, flat_map}
use Rattle.std.proofs.lemmas.List.Folds.{list_any-append}
use Rattle.std.proofs.lemmas.Slice.Eq.{bytes_eq-Decides}
use Rattle.cq_atom.specs.declared.term.TermKind.TheVariants.{Constant, Variable}
use Rattle.cq_atom.specs.Atom.{TermContent, AtomRecord, variable_of}
use Rattle.cq_atom.specs.Query.{is_variable, binds, is_bound, binds_all, occurrences, firsts, variables_of}
use Rattle.cq_atom.specs.Steps.Variables.{is_among}

by_bool : (b : Bool) (P : Type 0) → (b ≡ true → P) → (b ≡ false → P) → P
by_bool true P f g = f refl
by_bool false P f g = g refl

-- another name is no more among the names where those that are one name are left out
any-others : (x y : List ℕ) → bytes_eq x y ≡ false → (zs : List (List ℕ)) → list_any (bytes_eq x) (filter (λ z. not (bytes_eq y z)) zs) ≡ list_any (bytes_eq x) zs
any-others x y apart [] = refl
any-others x y apart (z ∷ zs) =
    by_bool (bytes_eq y z) (list_any (bytes_eq x) (filter (λ z. not (bytes_eq y z)) (z ∷ zs)) ≡ list_any (bytes_eq x) (z ∷ zs))
    (λ t. let same : y ≡ z = (bytes_eq-Decides y z).0 t in
    let other : bytes_eq x z ≡ false = ap (bytes_eq x) (sym same) ∙ apart in
    rw (t, other) (any-others x y apart zs))
    (λ f. rw f (ap (λ b. bytes_eq x z || b) (any-others x y apart zs)))

any-firsts : (x : List ℕ) (ys : List (List ℕ)) → list_any (bytes_eq x) (firsts ys) ≡ list_any (bytes_eq x) ys
any-firsts x [] = refl
any-firsts x (y ∷ ys) =
    by_bool (bytes_eq x y) (list_any (bytes_eq x) (firsts (y ∷ ys)) ≡ list_any (bytes_eq x) (y ∷ ys))
    (λ t. rw t refl)
    (λ f. rw f (any-others x y f (firsts ys) ∙ any-firsts x ys))

any-occurrences : (x : List ℕ) (ts : List TermContent) → list_any (bytes_eq x) (filter_map variable_of ts) ≡ list_any (is_variable x) ts
any-occurrences x [] = refl
any-occurrences x (Constant c ∷ ts) = any-occurrences x ts
any-occurrences x (Variable y ∷ ts) = ap (λ b. bytes_eq x y || b) (any-occurrences x ts)

any-body : (x : List ℕ) (body : List AtomRecord) → list_any (bytes_eq x) (flat_map occurrences body) ≡ binds body x
any-body x [] = refl
any-body x (a ∷ body) =
    list_any-append (bytes_eq x) (occurrences a) (flat_map occurrences body)
    ∙ ap (λ b. b || list_any (bytes_eq x) (flat_map occurrences body)) (any-occurrences x a.terms)
    ∙ ap (λ b. list_any (is_variable x) a.terms || b) (any-body x body)

among-bound : (body : List AtomRecord) (t : TermContent) → is_among (variables_of body) t ≡ is_bound body t
among-bound body (Constant c) = refl
among-bound body (Variable x) = any-firsts x (flat_map occurrences body) ∙ any-body x body

all-same : {X : Type 0} (p q : X → Bool) → ((x : X) → p x ≡ q x) → (xs : List X) → list_all p xs ≡ list_all q xs
all-same p q h [] = refl
all-same p q h (x ∷ xs) = ap (λ b. b && list_all p xs) (h x) ∙ ap (λ b. q x && b) (all-same p q h xs)

pub among-all : (names : List (List ℕ)) (body : List AtomRecord) (atoms : List AtomRecord) → names ≡ variables_of body → list_all (λ a. list_all (is_among names) a.terms) atoms ≡ binds_all body atoms
among-all names body atoms e =
    rw e (all-same (λ a. list_all (is_among (variables_of body)) a.terms) (λ a. list_all (is_bound body) a.terms) (λ a. all-same (is_among (variables_of body)) (is_bound body) (among-bound body) a.terms) atoms)

-- of a term that is a variable
pub among-variable : (names : List (List ℕ)) (t : TermContent) (x : List ℕ) → t ≡ Variable x → is_among names t ≡ list_any (bytes_eq x) names
among-variable names t x e = ap (is_among names) e
