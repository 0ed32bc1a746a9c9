-- When two atoms unify, as a test: a search among finitely many valuations. That it is `Unify`, for all atoms, is the law `unifies_is_unify`.
use Rattle.std.specs.Prelude.{ℕ, pos, negsuc, ◌^◌, Bool, true, false, ◌&&◌, nat_lt, List, [], ◌∷◌, ◌++◌, map, filter}
use Rattle.std.specs.List.{list_any, filter_map, flat_map}
use Rattle.std.specs.Str.{bytes_eq}
use Rattle.cq_atom.specs.declared.value.Content.TheVariants.{Number, Text}
use Rattle.cq_atom.specs.declared.term.TermKind.TheVariants.{Constant, Variable}
use Rattle.cq_atom.specs.Text.{is_text}
use Rattle.cq_atom.specs.Value.{ValueContent}
use Rattle.cq_atom.specs.Atom.{TermContent, AtomRecord, constant_of}
use Rattle.cq_atom.specs.Query.{occurrences}
use Rattle.cq_atom.specs.Valuation.{Bindings, under}
use Rattle.cq_index.specs.Index.{same_value}

-- A whole number from -2^63 to 2^63 - 1, or a text.
abbrev pub is_value : ValueContent → Bool
is_value (Number (pos n)) = nat_lt n (2 ^ 63)
is_value (Number (negsuc n)) = nat_lt n (2 ^ 63)
is_value (Text t) = is_text t

-- Two lists of constants, the same in the same order.
abbrev pub same_constants : List TermContent → List TermContent → Bool
same_constants [] [] = true
same_constants [] (t ∷ ts) = false
same_constants (s ∷ ss) [] = false
same_constants (Constant c ∷ ss) (Constant d ∷ ts) = same_value c d && same_constants ss ts
same_constants (Constant c ∷ ss) (Variable y ∷ ts) = false
same_constants (Variable x ∷ ss) (t ∷ ts) = false

-- The two atoms are one and the same row.
abbrev pub same_row : AtomRecord → AtomRecord → Bool
same_row a b = bytes_eq a.relation b.relation && same_constants a.terms b.terms

-- The values among the constants of two atoms, and one more value: if any values make two atoms equal, some of these do.
abbrev pub values_of : AtomRecord → AtomRecord → List ValueContent
values_of a b = Number (pos 0) ∷ filter is_value (filter_map constant_of a.terms ++ filter_map constant_of b.terms)

-- Every way to give each of these variables one of these values.
abbrev pub valuations : List ValueContent → List (List ℕ) → List Bindings
valuations values [] = [] ∷ []
valuations values (x ∷ xs) = flat_map (λ rest. map (λ value. (x, value) ∷ rest) values) (valuations values xs)

-- Some values for the variables of the one atom, and some for those of the other, make them one row. Derived: it is `Unify`, by the law `unifies_is_unify`.
unfoldable pub unifies : AtomRecord → AtomRecord → Bool
unifies a b =
    let values = values_of a b in
    list_any (λ v. list_any (λ w. same_row (under v a) (under w b)) (valuations values (occurrences b))) (valuations values (occurrences a))
