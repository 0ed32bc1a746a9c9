-- The tokens of a text, each as long as possible. (this project's profile)
use Rattle.std.specs.Prelude.{ℕ, zero, suc, ◌+◌, ◌-◌, ◌*◌, ◌^◌, pos, List, [], ◌∷◌, take, fold, Bool, true, false, ◌||◌, ◌&&◌, ◌==◌, nat_lt, nat_le, Option, Some, None, if◌then◌else◌}
use Rattle.std.specs.List.{prefix_len}
use Rattle.std.specs.Char.{is_ascii_alphabetic, is_ascii_digit}
use Rattle.std.proofs.Common.{neg_ℤ}
use Rattle.cq_atom.specs.Text.{is_word_byte, is_text}
use Rattle.cq_atom.specs.declared.value.Content.TheVariants.{Number, Text}
use Rattle.cq_text.specs.declared.fault.Kind.TheVariants as kinds
use Rattle.cq_text.specs.declared.token.Sign.TheVariants.{OpenBrace, CloseBrace, OpenParen, CloseParen, Comma, Arrow}
use Rattle.cq_text.specs.declared.token.Token.TheVariants.{Mark, Word, Literal, Bad}
use Rattle.cq_text.specs.Token.{TokenContent, LexemeContent}

-- A space, a tab or a carriage return: these may stand between tokens.
abbrev pub is_space : ℕ → Bool
is_space b = (b == 32) || (b == 9) || (b == 13)

-- Spaces alone, or `#` as the first other byte.
abbrev pub is_blank : List ℕ → Bool
is_blank [] = true
is_blank (b ∷ bs) = if is_space b then is_blank bs else (b == 35)

-- The number that digits stand for.
abbrev pub magnitude : List ℕ → ℕ
magnitude ds = fold (λ n d. 10 * n + (d - 48)) 0 ds

-- Digits of which no zero stands before others.
abbrev pub is_plain : List ℕ → Bool
is_plain [] = false
is_plain (d ∷ []) = true
is_plain (d ∷ e ∷ ds) = nat_lt 48 d

-- Digits without a minus, up to 2^63 - 1.
abbrev pub positive : List ℕ → TokenContent
positive ds = if is_plain ds && nat_lt (magnitude ds) (2 ^ 63) then Literal (Number (pos (magnitude ds))) else Bad kinds.Number

-- Digits after a minus, from 1 to 2^63.
abbrev pub negative : List ℕ → TokenContent
negative ds = if is_plain ds && nat_lt 0 (magnitude ds) && nat_le (magnitude ds) (2 ^ 63) then Literal (Number (neg_ℤ (pos (magnitude ds)))) else Bad kinds.Number

-- One byte more in front of what stands between quotes, spelled by n bytes.
abbrev pub behind : ℕ → ℕ → Option (List ℕ × ℕ) → Option (List ℕ × ℕ)
behind b n None = None
behind b n (Some c) = Some (b ∷ c.0, n + c.1)

-- What the bytes after an opening quote stand for up to the closing quote, and how many they are with it;
-- nothing where no quote closes them, or a backslash stands before anything but a quote or a backslash.
unfoldable pub content : List ℕ → Option (List ℕ × ℕ)
content [] = None
content (b ∷ []) = if b == 34 then Some ([], 1) else None
content (b ∷ c ∷ bs) = if b == 34 then Some ([], 1) else (if b == 92 then (if (c == 34) || (c == 92) then behind c 2 (content bs) else None) else behind b 1 (content (c ∷ bs)))

-- A quoted text, by what stands between its quotes, where they are closed.
abbrev pub quoted_token : Option (List ℕ × ℕ) → TokenContent × ℕ
quoted_token None = (Bad kinds.Text, 1)
quoted_token (Some c) = if is_text c.0 then (Literal (Text c.0), c.1 + 1) else (Bad kinds.Text, 1)

-- An identifier that begins with the letter b.
abbrev pub word_token : ℕ → List ℕ → TokenContent × ℕ
word_token b bs = let n = prefix_len is_word_byte bs in (Word (b ∷ take n bs), n + 1)

-- A number that begins with the digit b.
abbrev pub positive_token : ℕ → List ℕ → TokenContent × ℕ
positive_token b bs = let n = prefix_len is_ascii_digit bs in (positive (b ∷ take n bs), n + 1)

-- A number after its minus.
abbrev pub negative_token : List ℕ → TokenContent × ℕ
negative_token bs = let n = prefix_len is_ascii_digit bs in if n == 0 then (Bad kinds.Token, 1) else (negative (take n bs), n + 1)

-- An arrow after its `<`.
abbrev pub arrow_token : List ℕ → TokenContent × ℕ
arrow_token [] = (Bad kinds.Token, 1)
arrow_token (b ∷ bs) = if b == 45 then (Mark Arrow, 2) else (Bad kinds.Token, 1)

-- A sign of one byte.
abbrev pub sign_token : ℕ → TokenContent
sign_token b =
    if b == 123 then Mark OpenBrace else (if b == 125 then Mark CloseBrace else (if b == 40 then Mark OpenParen else (if b == 41 then Mark CloseParen else (if b == 44 then Mark Comma else Bad kinds.Token))))

-- The token that begins with the byte b before the bytes bs, and how many bytes it takes.
unfoldable pub front : ℕ → List ℕ → TokenContent × ℕ
front b bs =
    if is_ascii_alphabetic b then word_token b bs else (if is_ascii_digit b then positive_token b bs else (if b == 45 then negative_token bs else (if b == 60 then arrow_token bs
    else (if b == 34 then quoted_token (content bs) else (sign_token b, 1)))))

-- The lexemes of bytes of which the first has the offset at, and the first skip belong to a token before.
unfoldable pub lexemes : ℕ → ℕ → List ℕ → List LexemeContent
lexemes skip at [] = []
lexemes (suc skip) at (b ∷ bs) = lexemes skip (at + 1) bs
lexemes zero at (b ∷ bs) =
    if is_space b then lexemes 0 (at + 1) bs else record { at = at; token = (front b bs).0 } ∷ lexemes ((front b bs).1 - 1) (at + 1) bs

-- The lexemes of a whole text.
abbrev pub lexemes_of : List ℕ → List LexemeContent
lexemes_of text = lexemes 0 0 text
