-- Which bytes are a name, a relation's name, a variable's name or a text. (this project's profile)
use Rattle.std.specs.Prelude.{ℕ, Bool, false, ◌&&◌, ◌||◌, nat_le, nat_eq, not, List, [], ◌∷◌, length}
use Rattle.std.specs.Char.{is_ascii_alphabetic, is_ascii_alphanumeric, is_ascii_lowercase, is_ascii_uppercase}
use Rattle.std.specs.List.{list_all}
use Rattle.std.specs.Str.{is_utf8}
use Rattle.cq_atom.specs.Limits.{max_name, max_text}

-- A letter, a digit or `_`.
abbrev pub is_word_byte : ℕ → Bool
is_word_byte b = is_ascii_alphanumeric b || nat_eq b 95

-- The first byte is a letter.
abbrev pub begins_with_letter : List ℕ → Bool
begins_with_letter [] = false
begins_with_letter (b ∷ bs) = is_ascii_alphabetic b

-- A name: 1 to 32 word bytes, of which the first is a letter.
abbrev pub is_name : List ℕ → Bool
is_name bs = begins_with_letter bs && (nat_le (length bs) max_name && list_all is_word_byte bs)

-- The first byte is a lower-case letter.
abbrev pub begins_with_lower : List ℕ → Bool
begins_with_lower [] = false
begins_with_lower (b ∷ bs) = is_ascii_lowercase b

-- The first byte is an upper-case letter.
abbrev pub begins_with_upper : List ℕ → Bool
begins_with_upper [] = false
begins_with_upper (b ∷ bs) = is_ascii_uppercase b

-- A variable's name begins with a lower-case letter.
abbrev pub is_variable_name : List ℕ → Bool
is_variable_name bs = is_name bs && begins_with_lower bs

-- A relation's name begins with an upper-case letter.
abbrev pub is_relation_name : List ℕ → Bool
is_relation_name bs = is_name bs && begins_with_upper bs

-- No control character of ASCII.
abbrev pub is_plain_byte : ℕ → Bool
is_plain_byte b = nat_le 32 b && not (nat_eq b 127)

-- A text: 0 to 255 bytes of UTF-8 without U+0000 to U+001F and U+007F.
abbrev pub is_text : List ℕ → Bool
is_text bs = is_utf8 bs && (nat_le (length bs) max_text && list_all is_plain_byte bs)
