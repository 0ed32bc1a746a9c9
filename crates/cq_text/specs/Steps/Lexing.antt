-- The token at the front of bytes, as the code finds it.
use Rattle.std.specs.Prelude.{ℕ, ℤ, List, [], ◌∷◌, Bool, false, not, ◌&&◌, ◌==◌, Option, Some, None, if◌then◌else◌}
use Rattle.cq_atom.specs.declared.value.Content.TheVariants.{Number, Text}
use Rattle.cq_atom.specs.Text.{is_text}
use Rattle.cq_atom.specs.Value.{ValueContent}
use Rattle.cq_text.specs.declared.fault.Kind.TheVariants as kinds
use Rattle.cq_text.specs.declared.token.Sign.{Sign}
use Rattle.cq_text.specs.declared.token.Sign.TheVariants.{OpenBrace, CloseBrace, OpenParen, CloseParen, Comma}
use Rattle.cq_text.specs.declared.token.Token.TheVariants.{Literal, Bad}
use Rattle.cq_text.specs.Token.{TokenContent}
use Rattle.cq_text.specs.Lexing.{word_token, positive_token, front}

abbrev pub word_of : List ℕ → TokenContent × ℕ
word_of [] = (Bad kinds.Token, 1)
word_of (b ∷ bs) = word_token b bs

abbrev pub positive_of : List ℕ → TokenContent × ℕ
positive_of [] = (Bad kinds.Token, 1)
positive_of (b ∷ bs) = positive_token b bs

abbrev pub front_of : List ℕ → TokenContent × ℕ
front_of [] = (Bad kinds.Token, 1)
front_of (b ∷ bs) = front b bs

abbrev pub number_or_bad : Option ℤ → TokenContent
number_or_bad None = Bad kinds.Number
number_or_bad (Some n) = Literal (Number n)

-- The text that bytes are, if they are one.
abbrev pub text_of : List ℕ → Option ValueContent
text_of s = if is_text s then Some (Text s) else None

-- Whether a byte between quotes stands for itself.
abbrev pub is_verbatim : ℕ → Bool
is_verbatim b = not (b == 34) && not (b == 92)

-- Whether the closing quote comes.
abbrev pub closes : List ℕ → Bool
closes [] = false
closes (b ∷ bs) = b == 34

-- The byte that the escape at the front stands for, if one comes.
abbrev pub escaped_byte : List ℕ → Option ℕ
escaped_byte [] = None
escaped_byte (b ∷ []) = None
escaped_byte (b ∷ c ∷ bs) = if (b == 92) && not (is_verbatim c) then Some c else None

-- The sign that a byte is.
abbrev pub sign_of : ℕ → Option Sign
sign_of b =
    if b == 123 then Some OpenBrace else (if b == 125 then Some CloseBrace else (if b == 40 then Some OpenParen else (if b == 41 then Some CloseParen else (if b == 44 then Some Comma else None))))
