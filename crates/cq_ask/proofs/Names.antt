-- Words that are names.
use Rattle.std.proofs.Common.{◌≡◌, ℕ, ◌<◌, zero, suc, Bool, true, false, List, [], ◌∷◌, ◌++◌, ◌∙◌, ◌+◌, length, map, take, get_or, sym, ap, Some, None, refl, arith}
use Rattle.std.specs.Prelude.{◌&&◌, if◌then◌else◌}
use Rattle.std.specs.List.{list_all}
use Rattle.std.specs.Str.{IsAscii, IsUtf8}
use Rattle.std.proofs.lemmas.Str.{IsUtf8-from_ascii}
use Rattle.std.proofs.lemmas.List.{map-append, take_more}
use Rattle.std.proofs.lemmas.List.Folds.{list_all-append}
use Rattle.std.proofs.lemmas.Bool.Decides.{nat_tests}
use Rattle.cq_atom.specs.Text.{is_word_byte, begins_with_letter, is_name}
use Rattle.cq_ask.specs.declared.ask.AskKind.TheVariants.{Near}
use Rattle.cq_ask.specs.Ask.{unfit, post_of, asked_of_names, asked_of_post}

and_parts : (a b : Bool) → (a && b) ≡ true → (a ≡ true) × (b ≡ true)
and_parts true b e = (refl, e)
and_parts false b e = absurd cc

ascii_byte : (b : ℕ) → is_word_byte b ≡ true → b < 128
ascii_byte b e = grind (arith, nat_tests)

ascii : (w : List ℕ) → list_all is_word_byte w ≡ true → IsAscii w
ascii [] e i = omega arith
ascii (b ∷ w) e zero = ascii_byte b (and_parts (is_word_byte b) (list_all is_word_byte w) e).0
ascii (b ∷ w) e (suc i) = ascii w (and_parts (is_word_byte b) (list_all is_word_byte w) e).1 i

name-utf8 : (w : List ℕ) → is_name w ≡ true → IsUtf8 w
name-utf8 w e = IsUtf8-from_ascii w (ascii w (and_parts _ (list_all is_word_byte w) (and_parts (begins_with_letter w) _ e).1).1)

not_true : (t : Bool) → (t ≡ true → ⊥) → t ≡ false
not_true true n = absurd (n refl)
not_true false n = refl

-- what is no UTF-8 is no name
pub no_name : (w : List ℕ) → (IsUtf8 w → ⊥) → is_name w ≡ false
no_name w n = not_true (is_name w) (λ e. n (name-utf8 w e))

-- what is no name
pub none_no_name : {X : Type 0} (t : Bool) (x : X) → None ≡ (if t then Some x else None) → t ≡ false
none_no_name true x e = cc
none_no_name false x e = refl

-- what is one
pub some_name : {X : Type 0} (t : Bool) (x y : X) → Some y ≡ (if t then Some x else None) → (t ≡ true) × (y ≡ x)
some_name true x y e = (refl, cc)
some_name false x y e = cc

-- other words than two name no postcondition
pub not_two : {X : Type 0} (read : X → List ℕ) (words : List X) → (length words ≡ 2 → ⊥) → asked_of_post (map read words) ≡ unfit
not_two read [] h = refl
not_two read (x ∷ []) h = refl
not_two read (x ∷ y ∷ []) h = absurd (h refl)
not_two read (x ∷ y ∷ z ∷ words) h = refl

module _ {X : Type 0} (read : X → List ℕ) (d : X) where
  -- nor do two of which the second is no number
  pub no_post : (words : List X) → length words ≡ 2 → None ≡ post_of (read (get_or words 1 d)) → asked_of_post (map read words) ≡ unfit
  no_post [] two h = refl
  no_post (x ∷ []) two h = refl
  no_post (x ∷ y ∷ []) two h = rw (← h) refl
  no_post (x ∷ y ∷ z ∷ words) two h = refl

  pub some_post : (words : List X) (post : ℕ) → length words ≡ 2 → Some post ≡ post_of (read (get_or words 1 d)) → asked_of_post (map read words) ≡ asked_of_names (Near post) (map read (take 1 words))
  some_post [] post two h = absurd (omega (arith, two))
  some_post (x ∷ []) post two h = absurd (omega (arith, two))
  some_post (x ∷ y ∷ []) post two h = rw (← h) refl
  some_post (x ∷ y ∷ z ∷ words) post two h = absurd (omega (arith, two))

-- one name more
module _ {X : Type 0} (read : X → List ℕ) (words : List X) (i : ℕ) (d : X) where
  next : i < length words → map read (take (i + 1) words) ≡ map read (take i words) ++ read (get_or words i d) ∷ []
  next low = ap (map read) (take_more words i d low) ∙ map-append read (take i words) (get_or words i d ∷ [])

  pub names_next : (names names' : List (List ℕ)) (name : List ℕ) → i < length words → names ≡ map read (take i words) → names' ≡ names ++ name ∷ [] → name ≡ read (get_or words i d) → names' ≡ map read (take (i + 1) words)
  names_next names names' name low h k is = k ∙ ap (λ (ns : List (List ℕ)). ns ++ name ∷ []) h ∙ ap (λ (n : List ℕ). map read (take i words) ++ n ∷ []) is ∙ sym (next low)

  pub all_next : i < length words → list_all is_name (map read (take i words)) ≡ true → is_name (read (get_or words i d)) ≡ true → list_all is_name (map read (take (i + 1) words)) ≡ true
  all_next low h k = ap (list_all is_name) (next low) ∙ list_all-append is_name (map read (take i words)) (read (get_or words i d) ∷ []) ∙ rw (h, k) refl
