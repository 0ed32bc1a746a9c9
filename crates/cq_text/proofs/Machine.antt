-- What a list of tokens may still become: the symbols that are expected after it.
use Rattle.std.proofs.Common.{◌≡◌, ℕ, ℤ, Bool, true, false, cond, List, [], ◌∷◌, ◌++◌, Option, Some, None, option_map, refl, sym, ap, ◌∙◌, append_assoc, ◌⊎◌, subst}
use Rattle.std.specs.Prelude.{◌||◌, ◌&&◌}
use Rattle.cq_atom.specs.declared.value.Content.TheVariants.{Number, Text}
use Rattle.std.proofs.lemmas.List.{append-nil}
use Rattle.std.specs.List.{AllByRecursion}
use Rattle.cq_atom.specs.Text.{begins_with_upper, begins_with_lower}
use Rattle.cq_atom.specs.Value.{ValueContent}
use Rattle.cq_atom.specs.Atom.{TermContent, AtomRecord}
use Rattle.cq_text.specs.declared.command.CommandWord.{CommandWord}
use Rattle.cq_text.specs.declared.command.CommandWord.TheVariants as words
use Rattle.cq_text.specs.declared.token.Sign.{Sign}
use Rattle.cq_text.specs.declared.token.Sign.TheVariants.{OpenBrace, CloseBrace, OpenParen, CloseParen, Comma, Arrow}
use Rattle.cq_text.specs.declared.token.Token.TheVariants.{Mark, Word, Literal, Bad, Finish}
use Rattle.cq_text.specs.Token.{TokenContent}
use Rattle.cq_text.specs.Grammar.{Separated, IsConstant, IsTermText, IsAtomText, AreAtomsIfAny}
use Rattle.cq_text.specs.Fault.{IsCommandText}
use Rattle.cq_text.specs.Steps.Lexemes.{is_sign, is_finish}
use Rattle.cq_text.specs.Steps.Commands.{command_word_in}

pub data Symbol : Type 0 where
  mark : Sign → Symbol
  name : Symbol
  upper : Symbol
  number : Symbol
  value : Symbol
  values_end : Symbol
  term : Symbol
  terms_end : Symbol
  atom : Symbol
  posts_end : Symbol
  heads_end : Symbol
  body_end : Symbol
  posts : Symbol
  body : Symbol
  command : Symbol

-- after an atom's relation
abbrev pub atom_symbols : List Symbol
atom_symbols = mark OpenParen ∷ term ∷ terms_end ∷ []

abbrev pub query_symbols : List Symbol
query_symbols = mark OpenBrace ∷ posts ∷ atom ∷ heads_end ∷ body ∷ []

abbrev pub row_symbols : List Symbol
row_symbols = upper ∷ mark OpenParen ∷ value ∷ values_end ∷ []

abbrev pub when : Bool → List Symbol → Option (List Symbol)
when true ss = Some ss
when false ss = None

abbrev pub first_of_atom : TokenContent → Option (List Symbol)
first_of_atom (Word w) = when (begins_with_upper w) atom_symbols
first_of_atom (Mark s) = None
first_of_atom (Literal v) = None
first_of_atom (Bad kind) = None
first_of_atom Finish = None

abbrev pub first_term : TokenContent → Option (List Symbol)
first_term (Word w) = when (begins_with_upper w || begins_with_lower w) []
first_term (Literal v) = Some []
first_term (Mark s) = None
first_term (Bad kind) = None
first_term Finish = None

abbrev pub first_name : TokenContent → Option (List Symbol)
first_name (Word w) = Some []
first_name (Mark s) = None
first_name (Literal v) = None
first_name (Bad kind) = None
first_name Finish = None

abbrev pub first_upper : TokenContent → Option (List Symbol)
first_upper (Word w) = when (begins_with_upper w) []
first_upper (Mark s) = None
first_upper (Literal v) = None
first_upper (Bad kind) = None
first_upper Finish = None

abbrev pub first_number : TokenContent → Option (List Symbol)
first_number (Literal (Number n)) = Some []
first_number (Literal (Text t)) = None
first_number (Word w) = None
first_number (Mark s) = None
first_number (Bad kind) = None
first_number Finish = None

abbrev pub first_value : TokenContent → Option (List Symbol)
first_value (Word w) = when (begins_with_upper w) []
first_value (Literal v) = Some []
first_value (Mark s) = None
first_value (Bad kind) = None
first_value Finish = None

abbrev pub first_in_list : Symbol → Symbol → Sign → TokenContent → Option (List Symbol)
first_in_list item again close t = cond (is_sign Comma t) (Some (item ∷ again ∷ [])) (when (is_sign close t) [])

abbrev pub after_command : CommandWord → List Symbol
after_command words.Relation = upper ∷ number ∷ []
after_command words.Board = number ∷ []
after_command words.Limits = number ∷ number ∷ []
after_command words.Post = name ∷ query_symbols
after_command words.Withdraw = name ∷ []
after_command words.Insert = row_symbols
after_command words.Delete = row_symbols
after_command words.Publish = []
after_command words.Show = []

abbrev pub first_command : TokenContent → Option (List Symbol)
first_command t = option_map after_command (command_word_in t)

-- what is expected after a token that a symbol begins with
abbrev pub first : Symbol → TokenContent → Option (List Symbol)
first (mark s) t = when (is_sign s t) []
first name t = first_name t
first upper t = first_upper t
first number t = first_number t
first value t = first_value t
first values_end t = first_in_list value values_end CloseParen t
first term t = first_term t
first terms_end t = first_in_list term terms_end CloseParen t
first atom t = first_of_atom t
first posts_end t = first_in_list atom posts_end CloseBrace t
first heads_end t = first_in_list atom heads_end Arrow t
first body_end t = when (is_sign Comma t) (atom ∷ body_end ∷ [])
first body t = option_map (λ r. r ++ (body_end ∷ [])) (first_of_atom t)
first posts t = cond (is_sign CloseBrace t) (Some []) (option_map (λ r. r ++ (posts_end ∷ [])) (first_of_atom t))
first command t = first_command t

-- the symbols that stand for nothing, too: these the end closes
abbrev pub is_nullable : Symbol → Bool
is_nullable body_end = true
is_nullable body = true
is_nullable _ = false

abbrev pub take_token : List Symbol → TokenContent → Option (List Symbol)
take_token [] t = None
take_token (x ∷ ss) t = cond (is_nullable x && is_finish t) (Some ss) (option_map (λ r. r ++ ss) (first x t))

-- ---- what the symbols stand for

-- items with a comma between two, and a sign after them
abbrev pub Closed : {A : Type 0} → (List TokenContent → A → Type 0) → Sign → List TokenContent → Type 0
Closed {A} P close ts = (inner : List TokenContent) × (xs : List A) × (ts ≡ inner ++ (Mark close ∷ [])) × Separated P inner xs

-- the same after an item
abbrev pub Tail : {A : Type 0} → (List TokenContent → A → Type 0) → Sign → List TokenContent → Type 0
Tail {A} P close ts = (ts ≡ Mark close ∷ []) ⊎ ((inner : List TokenContent) × (ts ≡ Mark Comma ∷ inner) × Closed P close inner)

-- nothing, or a comma and items up to the end
abbrev pub Rest : {A : Type 0} → (List TokenContent → A → Type 0) → List TokenContent → Type 0
Rest {A} P ts = (ts ≡ []) ⊎ ((inner : List TokenContent) × (xs : List A) × (ts ≡ Mark Comma ∷ inner) × Separated P inner xs)

abbrev pub Is : Symbol → List TokenContent → Type 0
Is (mark s) ts = ts ≡ Mark s ∷ []
Is name ts = (w : List ℕ) × (ts ≡ Word w ∷ [])
Is upper ts = (w : List ℕ) × (ts ≡ Word w ∷ []) × (begins_with_upper w ≡ true)
Is number ts = (n : ℤ) × (ts ≡ Literal (Number n) ∷ [])
Is value ts = (v : ValueContent) × IsConstant ts v
Is values_end ts = Tail IsConstant CloseParen ts
Is term ts = (x : TermContent) × IsTermText ts x
Is terms_end ts = Tail IsTermText CloseParen ts
Is atom ts = (x : AtomRecord) × IsAtomText ts x
Is posts_end ts = Tail IsAtomText CloseBrace ts
Is heads_end ts = Tail IsAtomText Arrow ts
Is body_end ts = Rest IsAtomText ts
Is body ts = (xs : List AtomRecord) × AreAtomsIfAny ts xs
Is posts ts = (inner : List TokenContent) × (xs : List AtomRecord) × (ts ≡ inner ++ (Mark CloseBrace ∷ [])) × AreAtomsIfAny inner xs
Is command ts = IsCommandText ts

abbrev pub Expects : List Symbol → List TokenContent → Type 0
Expects [] ts = ts ≡ []
Expects (x ∷ ss) ts = (front : List TokenContent) × (rest : List TokenContent) × (ts ≡ front ++ rest) × Is x front × Expects ss rest

pub Expects-append : (ss rs : List Symbol) (a b : List TokenContent) → Expects ss a → Expects rs b → Expects (ss ++ rs) (a ++ b)
Expects-append [] rs a b p q = rw p q
Expects-append (x ∷ ss) rs a b (front, rest, e, i, p) q = (front, rest ++ b, rw e (append_assoc front rest b), i, Expects-append ss rs rest b p q)

pub Expects-split : (ss rs : List Symbol) (ts : List TokenContent) → Expects (ss ++ rs) ts → (a : List TokenContent) × (b : List TokenContent) × (ts ≡ a ++ b) × Expects ss a × Expects rs b
Expects-split [] rs ts p = ([], ts, refl, refl, p)
Expects-split (x ∷ ss) rs ts (front, rest, e, i, p) =
    let q = Expects-split ss rs rest p in
    (front ++ q.0, q.1, e ∙ ap (λ (r : List TokenContent). front ++ r) q.2 ∙ sym (append_assoc front q.0 q.1), (front, q.0, refl, i, q.3), q.4)

-- ---- what stands last

-- the symbols that reach to the end, so that none comes after them
abbrev pub is_last : Symbol → Bool
is_last body_end = true
is_last body = true
is_last command = true
is_last _ = false

abbrev pub Holds : Bool → Type 0
Holds true = Unit {0}
Holds false = ⊥

abbrev pub OnlyLast : Bool → List Symbol → Type 0
OnlyLast true ss = ss ≡ []
OnlyLast false ss = Unit {0}

-- none comes after a symbol that reaches to the end
abbrev pub Ordered : List Symbol → Type 0
Ordered [] = Unit {0}
Ordered (x ∷ ss) = OnlyLast (is_last x) ss × Ordered ss

abbrev NotLast : Symbol → Type 0
NotLast x = is_last x ≡ false

-- what a symbol may leave: one that does not reach to the end leaves none that does
abbrev Left : Bool → List Symbol → Type 0
Left true r = Ordered r
Left false r = AllByRecursion NotLast r

abbrev IfLeft : Bool → Option (List Symbol) → Type 0
IfLeft b None = Unit {0}
IfLeft b (Some r) = Left b r

left_when : (b c : Bool) (r : List Symbol) → Left b r → IfLeft b (when c r)
left_when b true r h = h
left_when b false r h = tt

left_cond : (b c : Bool) (r : List Symbol) (o : Option (List Symbol)) → Left b r → IfLeft b o → IfLeft b (cond c (Some r) o)
left_cond b true r o h k = h
left_cond b false r o h k = k

left_atom : (t : TokenContent) → IfLeft false (first_of_atom t)
left_atom (Word w) = left_when false (begins_with_upper w) atom_symbols (refl, (refl, (refl, tt)))
left_atom (Mark s) = tt
left_atom (Literal v) = tt
left_atom (Bad kind) = tt
left_atom Finish = tt

-- an atom, and what stands after it
left_behind : (b : Bool) (x : Symbol) (o : Option (List Symbol)) → IfLeft false o → ((r : List Symbol) → Left false r → Left b (r ++ (x ∷ []))) → IfLeft b (option_map (λ r. r ++ (x ∷ [])) o)
left_behind b x None h k = tt
left_behind b x (Some r) h k = k r h

behind_open : (x : Symbol) (r : List Symbol) → NotLast x → AllByRecursion NotLast r → AllByRecursion NotLast (r ++ (x ∷ []))
behind_open x [] n h = (n, tt)
behind_open x (y ∷ r) n h = (h.0, behind_open x r n h.1)

open_only : (x : Symbol) (ss : List Symbol) → NotLast x → OnlyLast (is_last x) ss
open_only x ss n = subst (λ (b : Bool). OnlyLast b ss) (sym n) tt

pub Ordered-append : (r ss : List Symbol) → AllByRecursion NotLast r → Ordered ss → Ordered (r ++ ss)
Ordered-append [] ss h o = o
Ordered-append (x ∷ r) ss h o = (open_only x (r ++ ss) h.0, Ordered-append r ss h.1 o)

left_list : (item again : Symbol) (close : Sign) (t : TokenContent) → NotLast item → NotLast again → IfLeft false (first_in_list item again close t)
left_list item again close t i a = left_cond false (is_sign Comma t) (item ∷ again ∷ []) _ (i, (a, tt)) (left_when false (is_sign close t) [] tt)

left_word : (k : CommandWord) → Ordered (after_command k)
left_word words.Relation = (tt, (tt, tt))
left_word words.Board = (tt, tt)
left_word words.Limits = (tt, (tt, tt))
left_word words.Post = (tt, (tt, (tt, (tt, (tt, (refl, tt))))))
left_word words.Withdraw = (tt, tt)
left_word words.Insert = (tt, (tt, (tt, (tt, tt))))
left_word words.Delete = (tt, (tt, (tt, (tt, tt))))
left_word words.Publish = tt
left_word words.Show = tt

left_command : (o : Option CommandWord) → IfLeft true (option_map after_command o)
left_command None = tt
left_command (Some k) = left_word k

left : (x : Symbol) (t : TokenContent) → IfLeft (is_last x) (first x t)
left (mark s) t = left_when false (is_sign s t) [] tt
left name (Word w) = tt
left name (Mark s) = tt
left name (Literal v) = tt
left name (Bad kind) = tt
left name Finish = tt
left upper (Word w) = left_when false (begins_with_upper w) [] tt
left upper (Mark s) = tt
left upper (Literal v) = tt
left upper (Bad kind) = tt
left upper Finish = tt
left number (Literal (Number n)) = tt
left number (Literal (Text t)) = tt
left number (Word w) = tt
left number (Mark s) = tt
left number (Bad kind) = tt
left number Finish = tt
left value (Word w) = left_when false (begins_with_upper w) [] tt
left value (Literal v) = tt
left value (Mark s) = tt
left value (Bad kind) = tt
left value Finish = tt
left values_end t = left_list value values_end CloseParen t refl refl
left term (Word w) = left_when false (begins_with_upper w || begins_with_lower w) [] tt
left term (Mark s) = tt
left term (Literal v) = tt
left term (Bad kind) = tt
left term Finish = tt
left terms_end t = left_list term terms_end CloseParen t refl refl
left atom t = left_atom t
left posts_end t = left_list atom posts_end CloseBrace t refl refl
left heads_end t = left_list atom heads_end Arrow t refl refl
left body_end t = left_when true (is_sign Comma t) (atom ∷ body_end ∷ []) (tt, (refl, tt))
left posts t = left_cond false (is_sign CloseBrace t) [] _ tt (left_behind false posts_end (first_of_atom t) (left_atom t) (λ r h. behind_open posts_end r refl h))
left body t = left_behind true body_end (first_of_atom t) (left_atom t) (λ r h. Ordered-append r (body_end ∷ []) h (refl, tt))
left command t = left_command (command_word_in t)

nothing_behind : (r : List Symbol) (ss : List Symbol) → ss ≡ [] → Ordered r → Ordered (r ++ ss)
nothing_behind r ss e o = subst Ordered (sym (append-nil r) ∙ ap (λ (w : List Symbol). r ++ w) (sym e)) o

-- a token leaves symbols in order
pub Ordered-step : (x : Symbol) (ss : List Symbol) (t : TokenContent) (rs : List Symbol) → Ordered (x ∷ ss) → take_token (x ∷ ss) t ≡ Some rs → Ordered rs
Ordered-step x ss t rs o e = by_end (is_nullable x && is_finish t) e
  where
    joined : (b : Bool) (r : List Symbol) → OnlyLast b ss → Left b r → Ordered (r ++ ss)
    joined true r p h = nothing_behind r ss p h
    joined false r p h = Ordered-append r ss h o.1

    by_case : (f : Option (List Symbol)) → IfLeft (is_last x) f → option_map (λ r. r ++ ss) f ≡ Some rs → Ordered rs
    by_case None h k = absurd cc
    by_case (Some r) h k = let same : r ++ ss ≡ rs = cc in subst Ordered same (joined (is_last x) r o.0 h)

    by_end : (b : Bool) → cond b (Some ss) (option_map (λ r. r ++ ss) (first x t)) ≡ Some rs → Ordered rs
    by_end true k = let same : ss ≡ rs = cc in subst Ordered same o.1
    by_end false k = by_case (first x t) (left x t) k
