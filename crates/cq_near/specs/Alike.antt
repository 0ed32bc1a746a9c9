-- How alike words, constants and atoms are. (this project's profile)
use Rattle.std.specs.Prelude.{ℕ, ◌+◌, ◌/◌, Bool, nat_eq, nat_le, List, length, map, zip, max, min, ◌-◌, fold, if◌then◌else◌, Option, Some, None}
use Rattle.std.specs.Fmt.{signed_decimal}
use Rattle.std.specs.Str.{chars}
use Rattle.strsim.specs.Edits.{levenshtein_row}
use Rattle.cq_atom.specs.declared.value.Content.TheVariants.{Number, Text}
use Rattle.cq_atom.specs.Value.{ValueContent}
use Rattle.cq_atom.specs.Atom.{AtomRecord, constant_of}

-- How many letters are to be changed, put in or left out, so that one word becomes the other. (Levenshtein 1966)
abbrev pub distance : List ℕ → List ℕ → ℕ
distance one other = levenshtein_row nat_eq (chars one) (chars other) (length (chars other))

-- What is compared of a value: a number in decimal, or the text itself.
abbrev pub letters : ValueContent → List ℕ
letters (Number n) = signed_decimal n
letters (Text text) = text

-- How far what stands at two places is apart: where both are constants, as their letters are; a variable is apart from nothing.
abbrev pub apart_at : Option ValueContent → Option ValueContent → ℕ
apart_at (Some c) (Some d) = distance (letters c) (letters d)
apart_at (Some c) None = 0
apart_at None there = 0

-- How far lists are apart, place by place; each place that has none opposite counts as one.
abbrev pub apart : List (Option ValueContent) → List (Option ValueContent) → ℕ
apart wanted there =
    fold (λ changes places. changes + apart_at places.0 places.1) (max (length wanted) (length there) - min (length wanted) (length there)) (zip wanted there)

-- No more than a third of the wanted name's letters are changed.
abbrev pub is_alike : ℕ → List ℕ → Bool
is_alike changes wanted = nat_le changes (length wanted / 3)

-- How far a head is from what is wanted, by the names of the relations and by the constants; nothing where the names are not alike.
abbrev pub likeness : AtomRecord → AtomRecord → Option ℕ
likeness wanted head =
    let renamed = distance wanted.relation head.relation in
    if is_alike renamed wanted.relation then Some (renamed + apart (map constant_of wanted.terms) (map constant_of head.terms)) else None
