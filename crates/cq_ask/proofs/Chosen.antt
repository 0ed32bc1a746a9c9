-- Texts of values, one after another.
use Rattle.std.proofs.Common.{◌≡◌, refl, Bool, true, false, inl, inr, ℕ, ◌+◌, ◌<◌, ◌≤◌, arith, zero, suc, List, [], ◌∷◌, ◌++◌, length, take, drop, get_or, map, sym, ap, subst, ◌∙◌, append_assoc, append-nil}
use Rattle.std.specs.Prelude.{◌==◌, codes, if◌then◌else◌, ◌&&◌, IsTrue, Some, None, Ok, Err}
use Rattle.std.specs.List.{flat_map, join_by, list_all, prefix_len}
use Rattle.std.proofs.lemmas.List.{append_cancel_right, get_or-map, map-append, take_more, drop_more}
use Rattle.std.proofs.lemmas.Bool.{eqb-true}
use Rattle.cq_atom.specs.declared.fault.Bad.TheVariants.{NoMemory, BadName}
use Rattle.cq_atom.specs.Answer.{Answers}
use Rattle.cq_atom.specs.Text.{is_name, is_word_byte}
use Rattle.cq_atom.specs.Atom.{RowRecord}
use Rattle.cq_atom.specs.Value.{ValueContent}
use Rattle.cq_board.specs.Choice.{ChoiceRecord}
use Rattle.cq_text.specs.declared.form.Form.TheVariants.{Two}
use Rattle.cq_text.specs.Grammar.{StandsForRow}
use Rattle.cq_text.specs.Views.{OrNoMemory}
use Rattle.cq_ask.specs.declared.choices.ChoiceFault.TheVariants.{Bad}
use Rattle.cq_ask.specs.declared.choices.Place.{Place}
use Rattle.cq_ask.specs.declared.choices.Place.TheVariants.{Outside, Inside, Escaped}
use Rattle.cq_ask.specs.Choices.{ArePaired, StandsForValue, ListsValues, StandsForChoice, StandForChoices, StandForNone, IsBadWord, place_after}
use Rattle.cq_ask.specs.Steps.Splitting.{is_cut, pieces, is_before_bracket}
use Rattle.cq_ask.proofs.Splitting.{listed_pieces, no_value}

-- one more pair
pub paired-more : {X Y : Type 0} (related : X → Y → Type 0) (xs : List X) (ys : List Y) (x : X) (y : Y) → ArePaired related xs ys → related x y → ArePaired related (xs ++ x ∷ []) (ys ++ y ∷ [])
paired-more related [] [] x y all one = (one, tt)
paired-more related [] (other ∷ ys) x y all one = absurd all
paired-more related (other ∷ xs) [] x y all one = absurd all
paired-more related (a ∷ xs) (b ∷ ys) x y all one = (all.0, paired-more related xs ys x y all.1 one)

-- one more pair, of what is read of an element and what is shown of another
pub paired-next : {X V Y Z : Type 0} (related : V → Z → Type 0) (read : X → V) (shown : Y → Z) (xs : List X) (i : ℕ) (d : X) (ys : List Y) (y : Y) → i < length xs
    → ArePaired related (map read (take i xs)) (map shown ys) → related (read (get_or xs i d)) (shown y) → ArePaired related (map read (take (i + 1) xs)) (map shown (ys ++ y ∷ []))
paired-next {X} {V} {Y} {Z} related read shown xs i d ys y low all one =
    let x = get_or xs i d in
    let left : map read (take (i + 1) xs) ≡ map read (take i xs) ++ read x ∷ [] = ap (map read) (take_more xs i d low) ∙ map-append read (take i xs) (x ∷ []) in
    rw (left, map-append shown ys (y ∷ [])) (paired-more related (map read (take i xs)) (map shown ys) (read x) (shown y) all one)

-- lists of pairs are equally long
pub paired-length : {X V Y Z : Type 0} (related : V → Z → Type 0) (read : X → V) (shown : Y → Z) (xs : List X) (ys : List Y) → ArePaired related (map read xs) (map shown ys) → length ys ≡ length xs
paired-length related read shown [] [] all = refl
paired-length related read shown [] (y ∷ ys) all = absurd all
paired-length related read shown (x ∷ xs) [] all = absurd all
paired-length related read shown (x ∷ xs) (y ∷ ys) all = ap suc (paired-length related read shown xs ys all.1)

-- the pair of an element
paired-at : {X Y : Type 0} (related : X → Y → Type 0) (front : List X) (x : X) (rest : List X) (ys : List Y) → ArePaired related (front ++ x ∷ rest) ys → (y : Y) × related x y
paired-at related [] x rest [] all = absurd all
paired-at related [] x rest (y ∷ ys) all = (y, all.0)
paired-at related (first ∷ front) x rest [] all = absurd all
paired-at related (first ∷ front) x rest (y ∷ ys) all = paired-at related front x rest ys all.1

paired-index : {X V Y : Type 0} (related : V → Y → Type 0) (read : X → V) (xs : List X) (i : ℕ) (d : X) (ys : List Y) → i < length xs → ArePaired related (map read xs) ys → (y : Y) × related (read (get_or xs i d)) y
paired-index related read [] i d ys low all = absurd (omega (arith, low))
paired-index related read (x ∷ xs) i d [] low all = absurd all
paired-index related read (x ∷ xs) zero d (y ∷ ys) low all = (y, all.0)
paired-index related read (x ∷ xs) (suc i) d (y ∷ ys) low all = paired-index related read xs i d ys (omega arith) all.1

-- ---- pieces, each with a separator after it

module _ {Y : Type 0} (separator : List Y) where
  abbrev pub closed : List (List Y) → List Y
  closed pieces = flat_map (λ piece. piece ++ separator) pieces

  closed-more : (pieces : List (List Y)) (piece : List Y) → closed (pieces ++ piece ∷ []) ≡ closed pieces ++ (piece ++ separator)
  closed-more [] piece = append-nil (piece ++ separator)
  closed-more (first ∷ pieces) piece = ap (λ (more : List Y). (first ++ separator) ++ more) (closed-more pieces piece) ∙ sym (append_assoc (first ++ separator) (closed pieces) (piece ++ separator))

  behind : (pieces : List (List Y)) (piece : List Y) → flat_map (λ one. separator ++ one) (pieces ++ piece ∷ []) ≡ separator ++ (closed pieces ++ piece)
  behind [] piece = append-nil (separator ++ piece)
  behind (first ∷ pieces) piece =
      ap (λ (more : List Y). (separator ++ first) ++ more) (behind pieces piece)
      ∙ append_assoc separator first (separator ++ (closed pieces ++ piece))
      ∙ ap (λ (more : List Y). separator ++ more) (sym (append_assoc first separator (closed pieces ++ piece)) ∙ sym (append_assoc (first ++ separator) (closed pieces) piece))

  joined : (pieces : List (List Y)) (piece : List Y) → join_by (λ one. one) separator (pieces ++ piece ∷ []) ≡ closed pieces ++ piece
  joined [] piece = append-nil piece
  joined (first ∷ pieces) piece =
      ap (λ (more : List Y). first ++ more) (behind pieces piece) ∙ sym (append_assoc first separator (closed pieces ++ piece)) ∙ sym (append_assoc (first ++ separator) (closed pieces) piece)

-- ---- what is read of a text so far

-- Texts of values, each with a comma after it, and then a piece.
abbrev pub IsBegun : List ℕ → List ValueContent → List ℕ → Type 0
IsBegun text values piece = (texts : List (List ℕ)) × ArePaired StandsForValue texts values × (text ≡ closed (codes ",") texts ++ piece)

-- an empty text lists no value
pub lists-nothing : (text : List ℕ) (values : List ValueContent) → (length text == 0) ≡ true → values ≡ [] → ListsValues text values
lists-nothing [] values e f = ([], subst (ArePaired StandsForValue []) (sym f) tt, refl)
lists-nothing (b ∷ text) values e f = let never : suc (length text) ≡ 0 = eqb-true (suc (length text)) 0 e in absurd (omega (arith, never))

pub begun-nothing : (text : List ℕ) (values : List ValueContent) (piece : List ℕ) → values ≡ [] → piece ≡ [] → IsBegun (take 0 text) values piece
begun-nothing text values piece e f = rw (e, f) ([], tt, refl)

pub begun-byte : (text : List ℕ) (i d : ℕ) (values : List ValueContent) (piece : List ℕ) → i < length text → IsBegun (take i text) values piece → IsBegun (take (i + 1) text) values (piece ++ get_or text i d ∷ [])
begun-byte text i d values piece low begun =
    let byte = get_or text i d in
    (begun.0, begun.1, take_more text i d low ∙ ap (λ (front : List ℕ). front ++ byte ∷ []) begun.2 ∙ append_assoc (closed (codes ",") begun.0) piece (byte ∷ []))

pub begun-value : (text : List ℕ) (i d : ℕ) (values : List ValueContent) (piece : List ℕ) (value : ValueContent) → i < length text → get_or text i d ≡ 44 → StandsForValue piece value
    → IsBegun (take i text) values piece → IsBegun (take (i + 1) text) (values ++ value ∷ []) []
begun-value text i d values piece value low comma stands begun =
    let texts = begun.0 in (
      texts ++ piece ∷ [],
      paired-more StandsForValue texts values piece value begun.1 stands,
      take_more text i d low ∙ ap (λ (byte : ℕ). take i text ++ byte ∷ []) comma ∙ ap (λ (front : List ℕ). front ++ codes ",") begun.2
          ∙ append_assoc (closed (codes ",") texts) piece (codes ",") ∙ sym (closed-more (codes ",") texts piece) ∙ sym (append-nil (closed (codes ",") (texts ++ piece ∷ []))),
    )

pub begun-end : (text : List ℕ) (values : List ValueContent) (piece : List ℕ) (value : ValueContent) → StandsForValue piece value → IsBegun text values piece → ListsValues text (values ++ value ∷ [])
begun-end text values piece value stands begun =
    (begun.0 ++ piece ∷ [], paired-more StandsForValue begun.0 values piece value begun.1 stands, begun.2 ∙ sym (joined (codes ",") begun.0 piece))

-- a list of one
pub single : {X : Type 0} (xs : List X) (d x : X) → 1 ≤ length xs → length xs < 2 → x ≡ get_or xs 0 d → xs ≡ x ∷ []
single [] d x some few here = absurd (omega (arith, some))
single (y ∷ []) d x some few here = ap (λ z. z ∷ []) (sym here)
single (y ∷ z ∷ xs) d x some few here = absurd (omega (arith, few))

-- a name that was made of a text is that text, which is a name
pub made : (text name : List ℕ) → Answers NoMemory (if is_name text then None else Some BadName) text (Ok name) → (name ≡ text) × (is_name text ≡ true)
made text name h = by_case (is_name text) refl
  where
    by_case : (b : Bool) → is_name text ≡ b → (name ≡ text) × (is_name text ≡ true)
    by_case true t = (rw t at h, t)
    by_case false f = let never : Ok name ≡ Err BadName = rw f at h in cc

-- one more word and its choice
pub chosen-more : {X : Type 0} (read : X → List ℕ) (xs : List X) (i : ℕ) (d : X) (choices : List ChoiceRecord) (choice : ChoiceRecord) → i < length xs
    → StandForChoices (map read (take i xs)) choices → StandsForChoice (read (get_or xs i d)) choice → StandForChoices (map read (take (i + 1) xs)) (choices ++ choice ∷ [])
chosen-more read xs i d choices choice low so_far stands =
    let one = get_or xs i d ∷ [] in
    let split : map read (take (i + 1) xs) ≡ map read (take i xs) ++ map read one = ap (map read) (take_more xs i d low) ∙ map-append read (take i xs) one in
    subst (λ (words : List (List ℕ)). StandForChoices words (choices ++ choice ∷ [])) (sym split) (paired-more StandsForChoice (map read (take i xs)) choices (read (get_or xs i d)) choice so_far stands)

-- ---- what stands for nothing

-- Of the pieces of the text some are done, and the others are those of what is left.
abbrev pub IsCut : List ℕ → ℕ → Place → List ℕ → Type 0
IsCut text i place piece = (done : List (List ℕ)) × (pieces Outside [] text ≡ done ++ pieces place piece (drop i text))

-- No values are listed by these pieces.
abbrev pub HaveNone : List (List ℕ) → Type 0
HaveNone texts = (values : List ValueContent) → ArePaired StandsForValue texts values → ⊥

pub cut-nothing : (text piece : List ℕ) → piece ≡ [] → IsCut text 0 Outside piece
cut-nothing text piece e = ([], ap (λ (begun : List ℕ). pieces Outside begun text) (sym e))

pub cut-byte : (text : List ℕ) (i d : ℕ) (place : Place) (piece : List ℕ) → i < length text → is_cut place (get_or text i d) ≡ false → IsCut text i place piece
    → IsCut text (i + 1) (place_after place (get_or text i d)) (piece ++ get_or text i d ∷ [])
cut-byte text i d place piece low stays cut = (cut.0, cut.1 ∙ ap (λ (more : List (List ℕ)). cut.0 ++ more) (ap (pieces place piece) (drop_more text i d low) ∙ rw stays refl))

at_cut : (text : List ℕ) (i d : ℕ) (place : Place) (piece : List ℕ) → i < length text → is_cut place (get_or text i d) ≡ true → pieces place piece (drop i text) ≡ piece ∷ pieces place [] (drop (i + 1) text)
at_cut text i d place piece low cuts = ap (pieces place piece) (drop_more text i d low) ∙ rw cuts refl

pub cut-value : (text : List ℕ) (i d : ℕ) (place : Place) (piece : List ℕ) → i < length text → is_cut place (get_or text i d) ≡ true → IsCut text i place piece → IsCut text (i + 1) place []
cut-value text i d place piece low cuts cut = (
  cut.0 ++ piece ∷ [],
  cut.1 ∙ ap (λ (more : List (List ℕ)). cut.0 ++ more) (at_cut text i d place piece low cuts) ∙ sym (append_assoc cut.0 (piece ∷ []) (pieces place [] (drop (i + 1) text))),
)

none_at : (text : List ℕ) (done rest : List (List ℕ)) (piece : List ℕ) → pieces Outside [] text ≡ done ++ piece ∷ rest → ((value : ValueContent) → StandsForValue piece value → ⊥) → HaveNone (pieces Outside [] text)
none_at text done rest piece is none values all =
    let one = paired-at StandsForValue done piece rest values (subst (λ (texts : List (List ℕ)). ArePaired StandsForValue texts values) is all) in
    none one.0 one.1

pub none_at_cut : (text : List ℕ) (i d : ℕ) (place : Place) (piece : List ℕ) → i < length text → is_cut place (get_or text i d) ≡ true → ((value : ValueContent) → StandsForValue piece value → ⊥) → IsCut text i place piece
    → HaveNone (pieces Outside [] text)
none_at_cut text i d place piece low cuts none cut =
    none_at text cut.0 (pieces place [] (drop (i + 1) text)) piece (cut.1 ∙ ap (λ (more : List (List ℕ)). cut.0 ++ more) (at_cut text i d place piece low cuts)) none

pub none_at_end : (text : List ℕ) (i : ℕ) (place : Place) (piece : List ℕ) → drop i text ≡ [] → ((value : ValueContent) → StandsForValue piece value → ⊥) → IsCut text i place piece → HaveNone (pieces Outside [] text)
none_at_end text i place piece all none cut =
    none_at text cut.0 [] piece (cut.1 ∙ ap (λ (left : List ℕ). cut.0 ++ pieces place piece left) all) none

-- a text that is not empty lists no values where its pieces have none
pub lists_none : (text : List ℕ) → (text ≡ [] → ⊥) → HaveNone (pieces Outside [] text) → (values : List ValueContent) → ListsValues text values → ⊥
lists_none text full none values lists = by_texts lists.0 lists.1 lists.2
  where
    by_texts : (texts : List (List ℕ)) → ArePaired StandsForValue texts values → text ≡ join_by (λ one. one) (codes ",") texts → ⊥
    by_texts [] all is = full is
    by_texts (first ∷ texts) all is =
        let same : pieces Outside [] text ≡ first ∷ texts = ap (pieces Outside []) is ∙ listed_pieces first texts values all in
        none values (subst (λ (these : List (List ℕ)). ArePaired StandsForValue these values) (sym same) all)

-- bytes that cut are commas
pub cut_is_comma : (place : Place) (b : ℕ) → is_cut place b ≡ true → b ≡ 44
cut_is_comma Outside b e = eqb-true b 44 e
cut_is_comma Inside b e = absurd cc
cut_is_comma Escaped b e = absurd cc

-- a row of not one value is no row around a text that stands for one
pub not_one : (text : List ℕ) (row : RowRecord) → ((other : RowRecord) → StandsForRow Two (codes "V(" ++ text ++ codes ")") other → OrNoMemory (Ok row) (Ok other)) → (length row.values ≡ 1 → ⊥) → (value : ValueContent) → StandsForValue text value → ⊥
not_one text row only many value s = elim (only s.0 s.1) [
  | inl e ↦ let same : row ≡ s.0 = cc in many (ap (λ (r : RowRecord). length r.values) same ∙ ap length s.2)
  | inr e ↦ cc
]

-- a text that is no name makes none
pub not_made : (text : List ℕ) → Answers NoMemory (if is_name text then None else Some BadName) text (Err BadName) → is_name text ≡ true → ⊥
not_made text h t = let never : Answers NoMemory (if true then None else Some BadName) text (Err BadName) = rw t at h in cc

-- words of which one stands for no choice stand for none
pub none_of_words : {X : Type 0} (read : X → List ℕ) (xs : List X) (i : ℕ) (d : X) → i < length xs → ((choice : ChoiceRecord) → StandsForChoice (read (get_or xs i d)) choice → ⊥) → StandForNone (map read xs)
none_of_words read xs i d low none choices all = let one = paired-index StandsForChoice read xs i d choices low all in none one.0 one.1

length_read : {X : Type 0} (read : X → List ℕ) (xs : List X) → length (map read xs) ≡ length xs
length_read read [] = refl
length_read read (x ∷ xs) = ap suc (length_read read xs)

-- the word at a place stands for no choice
pub bad_word : {X : Type 0} (read : X → List ℕ) (xs : List X) (i : ℕ) (d : X) → i < length xs → ((choice : ChoiceRecord) → StandsForChoice (read (get_or xs i d)) choice → ⊥) → IsBadWord (map read xs) (Bad i)
bad_word read xs i d low none =
    let count = length_read read xs in
    (omega (arith, low, count), λ choice stands. none choice (subst (λ (word : List ℕ). StandsForChoice word choice) (get_or-map read xs i d [] low) stands))

-- ---- one reading

paired_one : {X Y : Type 0} (related : X → Y → Type 0) → ((x : X) (y z : Y) → related x y → related x z → y ≡ z) → (xs : List X) (ys zs : List Y) → ArePaired related xs ys → ArePaired related xs zs → ys ≡ zs
paired_one related one [] [] [] p q = refl
paired_one related one [] [] (z ∷ zs) p q = absurd q
paired_one related one [] (y ∷ ys) zs p q = absurd p
paired_one related one (x ∷ xs) [] zs p q = absurd p
paired_one related one (x ∷ xs) (y ∷ ys) [] p q = absurd q
paired_one related one (x ∷ xs) (y ∷ ys) (z ∷ zs) p q = let first : y ≡ z = one x y z p.0 q.0 in let rest : ys ≡ zs = paired_one related one xs ys zs p.1 q.1 in cc

word_bytes : (name : List ℕ) → is_name name ≡ true → list_all is_word_byte name ≡ true
word_bytes name is = second _ _ (second _ _ is)
  where
    second : (a b : Bool) → (a && b) ≡ true → b ≡ true
    second true b h = h
    second false b h = absurd cc

first_byte : (b : ℕ) (bs : List ℕ) → list_all is_word_byte (b ∷ bs) ≡ true → (is_word_byte b ≡ true) × (list_all is_word_byte bs ≡ true)
first_byte b bs h = parts (is_word_byte b) (list_all is_word_byte bs) h
  where
    parts : (s t : Bool) → (s && t) ≡ true → (s ≡ true) × (t ≡ true)
    parts true t k = (refl, k)
    parts false t k = absurd cc

no_bracket : (b : ℕ) (bs : List ℕ) → list_all is_word_byte (b ∷ bs) ≡ true → 40 ≡ b → ⊥
no_bracket b bs h e = let yes : is_word_byte 40 ≡ true = ap is_word_byte e ∙ (first_byte b bs h).0 in cc

-- a name ends at the first bracket
pub name_ends : (name other behind rest : List ℕ) → list_all is_word_byte name ≡ true → list_all is_word_byte other ≡ true → name ++ (40 ∷ behind) ≡ other ++ (40 ∷ rest) → (name ≡ other) × (behind ≡ rest)
name_ends [] [] behind rest p q e = (refl, cc)
name_ends [] (b ∷ other) behind rest p q e = absurd (no_bracket b other q cc)
name_ends (a ∷ name) [] behind rest p q e = absurd (no_bracket a name p cc)
name_ends (a ∷ name) (b ∷ other) behind rest p q e =
    let head : a ≡ b = cc in
    let tail : name ++ (40 ∷ behind) ≡ other ++ (40 ∷ rest) = cc in
    let both = name_ends name other behind rest (first_byte a name p).1 (first_byte b other q).1 tail in
    let names : name ≡ other = both.0 in
    (cc, both.1)

bracketed : (name inner : List ℕ) → name ++ codes "(" ++ inner ++ codes ")" ≡ name ++ (40 ∷ (inner ++ codes ")"))
bracketed name inner = append_assoc (name ++ codes "(") inner (codes ")") ∙ append_assoc name (codes "(") (inner ++ codes ")")

not_open : (b : ℕ) (bs : List ℕ) → list_all is_word_byte (b ∷ bs) ≡ true → (b == 40) ≡ false
not_open b bs h = by_case (b == 40) refl
  where
    by_case : (t : Bool) → (b == 40) ≡ t → t ≡ false
    by_case true e = absurd (no_bracket b bs h (sym (eqb-true b 40 e)))
    by_case false e = refl

before_open : (name rest : List ℕ) → list_all is_word_byte name ≡ true → prefix_len is_before_bracket (name ++ (40 ∷ rest)) ≡ length name
before_open [] rest h = refl
before_open (b ∷ bs) rest h = let one = not_open b bs h in let more = before_open bs rest (first_byte b bs h).1 in rw one (omega (arith, more))

take_front : (xs ys : List ℕ) → take (length xs) (xs ++ ys) ≡ xs
take_front [] ys = refl
take_front (x ∷ xs) ys = ap (λ zs. x ∷ zs) (take_front xs ys)

drop_front : (xs ys : List ℕ) → drop (length xs) (xs ++ ys) ≡ ys
drop_front [] ys = refl
drop_front (x ∷ xs) ys = drop_front xs ys

-- a word is cut at its first bracket, after the name
pub cut_at_bracket : (word name inner : List ℕ) (n : ℕ) → IsTrue (is_name name) → word ≡ name ++ codes "(" ++ inner ++ codes ")" → n ≡ prefix_len is_before_bracket word → (take n word ≡ name) × (drop n word ≡ 40 ∷ (inner ++ codes ")"))
cut_at_bracket word name inner n good is at =
    let rest : List ℕ = 40 ∷ (inner ++ codes ")") in
    let same : word ≡ name ++ rest = is ∙ bracketed name inner in
    let count : n ≡ length name = at ∙ ap (prefix_len is_before_bracket) same ∙ before_open name (inner ++ codes ")") (word_bytes name good) in
    (ap (take n) same ∙ ap (λ (k : ℕ). take k (name ++ rest)) count ∙ take_front name rest, ap (drop n) same ∙ ap (λ (k : ℕ). drop k (name ++ rest)) count ∙ drop_front name rest)

nothing_listed : (first : List ℕ) (texts : List (List ℕ)) (values : List ValueContent) → ArePaired StandsForValue (first ∷ texts) values → [] ≡ join_by (λ one. one) (codes ",") (first ∷ texts) → ⊥
nothing_listed first texts [] all e = absurd all
nothing_listed first texts (value ∷ values) all e =
    let same : ◌≡◌ {A = List (List ℕ)} ([] ∷ []) (first ∷ texts) = ap (pieces Outside []) e ∙ listed_pieces first texts (value ∷ values) all in
    let empty : first ≡ [] = cc in
    no_value value (subst (λ (text : List ℕ). StandsForValue text value) empty all.0)

module _ (one_row : (text : List ℕ) (row other : RowRecord) → StandsForRow Two text row → StandsForRow Two text other → row ≡ other) where
  value_one : (text : List ℕ) (value other : ValueContent) → StandsForValue text value → StandsForValue text other → value ≡ other
  value_one text value other s t =
      let rows : s.0 ≡ t.0 = one_row (codes "V(" ++ text ++ codes ")") s.0 t.0 s.1 t.1 in
      let same : ◌≡◌ {A = List ValueContent} (value ∷ []) (other ∷ []) = sym s.2 ∙ ap (λ (row : RowRecord). row.values) rows ∙ t.2 in
      cc

  values_one : (text : List ℕ) (values others : List ValueContent) → ListsValues text values → ListsValues text others → values ≡ others
  values_one text values others s t = by_texts s.0 t.0 s.1 t.1 s.2 t.2
    where
      by_texts : (xs ys : List (List ℕ)) → ArePaired StandsForValue xs values → ArePaired StandsForValue ys others → text ≡ join_by (λ one. one) (codes ",") xs → text ≡ join_by (λ one. one) (codes ",") ys → values ≡ others
      by_texts [] [] p q e f = paired_one StandsForValue value_one [] values others p q
      by_texts [] (y ∷ ys) p q e f = absurd (nothing_listed y ys others q (sym e ∙ f))
      by_texts (x ∷ xs) [] p q e f = absurd (nothing_listed x xs values p (sym f ∙ e))
      by_texts (x ∷ xs) (y ∷ ys) p q e f =
          let same : y ∷ ys ≡ x ∷ xs = sym (listed_pieces y ys others q) ∙ ap (pieces Outside []) (sym f ∙ e) ∙ listed_pieces x xs values p in
          paired_one StandsForValue value_one (x ∷ xs) values others p (subst (λ (texts : List (List ℕ)). ArePaired StandsForValue texts others) same q)

  pub choice_one : (word : List ℕ) (choice other : ChoiceRecord) → StandsForChoice word choice → StandsForChoice word other → choice ≡ other
  choice_one word choice other s t =
      let ends = name_ends choice.name other.name (s.0 ++ codes ")") (t.0 ++ codes ")") (word_bytes choice.name s.1) (word_bytes other.name t.1) (sym (s.3 ∙ bracketed choice.name s.0) ∙ (t.3 ∙ bracketed other.name t.0)) in
      let inner : t.0 ≡ s.0 = append_cancel_right t.0 s.0 (codes ")") (sym ends.1) in
      let values : choice.values ≡ other.values = values_one s.0 choice.values other.values s.2 (subst (λ (text : List ℕ). ListsValues text other.values) inner t.2) in
      ap (λ (name : List ℕ). record { name = name; values = choice.values }) ends.0 ∙ ap (λ (these : List ValueContent). record { name = other.name; values = these }) values

  pub choices_one : (words : List (List ℕ)) (choices others : List ChoiceRecord) → StandForChoices words choices → StandForChoices words others → choices ≡ others
  choices_one words choices others s t = paired_one StandsForChoice choice_one words choices others s t
