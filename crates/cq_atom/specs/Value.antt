-- Values, and their order. (this project's profile)
use Rattle.std.specs.Prelude.{ℕ, ℤ, List, Bool, true, false, Option, Some, None, IsTrue, FitsSigned}
use Rattle.std.specs.Int.{w64}
use Rattle.std.specs.Ordering.{is_lt, nat_cmp, int_cmp}
use Rattle.std.specs.Cmp.Lexicographic.{slice_cmp}
use Rattle.cq_atom.specs.declared.value.Content.{Content}
use Rattle.cq_atom.specs.declared.value.Content.TheVariants.{Number, Text}
use Rattle.cq_atom.specs.Text.{is_text}

-- A number, or a text by its bytes: a number never equals a text.
abbrev pub ValueContent : Type 0
ValueContent = Content (List ℕ)

-- A whole number from -2^63 to 2^63 - 1, or a text.
abbrev pub IsValue : ValueContent → Type 0
IsValue (Number n) = FitsSigned w64 n
IsValue (Text t) = IsTrue (is_text t)

-- Numbers come before texts, numbers go by size, texts by bytes.
abbrev pub is_before : ValueContent → ValueContent → Bool
is_before (Number m) (Number n) = is_lt (int_cmp m n)
is_before (Number m) (Text t) = true
is_before (Text s) (Number n) = false
is_before (Text s) (Text t) = is_lt (slice_cmp nat_cmp s t)

-- The number, where the value is one.
abbrev pub number_of : ValueContent → Option ℤ
number_of (Number n) = Some n
number_of (Text t) = None

-- The text, where the value is one.
abbrev pub text_of : ValueContent → Option (List ℕ)
text_of (Number n) = None
text_of (Text t) = Some t
