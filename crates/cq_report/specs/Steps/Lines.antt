-- A reply by its pieces.
use Rattle.std.specs.Prelude.{ℕ, List, [], ◌++◌, Option, None, Some, decimal}

-- A number, if there is one.
abbrev pub number_bytes : Option ℕ → List ℕ
number_bytes None = []
number_bytes (Some number) = decimal number

-- Words, a number, if there is one, and what ends them.
abbrev pub line_bytes : List ℕ → Option ℕ → List ℕ → List ℕ
line_bytes words number end = words ++ (number_bytes number ++ end)

-- What a reply begins with, a word, a part of a query and what stands before it, a number, if there is one, and what stands before it, and what ends them.
abbrev pub reply_bytes : (front word before_part part before_number : List ℕ) → Option ℕ → List ℕ → List ℕ
reply_bytes front word before_part part before_number number end = (front ++ word) ++ ((before_part ++ part) ++ (before_number ++ (number_bytes number ++ end)))
