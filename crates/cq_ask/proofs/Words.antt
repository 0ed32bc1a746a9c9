-- The words of a text that has choices, one after another.
use Rattle.std.proofs.Common.{◌≡◌, ℕ, ◌+◌, ◌<◌, ◌≤◌, true, false, List, [], ◌∷◌, ◌++◌, length, drop, get_or, Option, None, refl, sym, ap, ◌∙◌, arith, append_assoc}
use Rattle.std.specs.Prelude.{not, ◌==◌}
use Rattle.std.specs.List.{between}
use Rattle.std.proofs.lemmas.List.{drop_more, drop_all}
use Rattle.std.proofs.lemmas.List.Edits.{between_none, between_more}
use Rattle.std.proofs.lemmas.List.Elements.{filter-append}
use Rattle.cq_ask.specs.declared.choices.Place.{Place}
use Rattle.cq_ask.specs.Choices.{bracket_after, is_gap, word_pieces, kept_words, choice_words}

-- The words so far and the piece that is begun go on to the words of the text.
pub record AreBegun (text : List ℕ) (start i : ℕ) (place : Option Place) (words : List (List ℕ)) : Type 0 where
  pub low : start ≤ i
  pub is : choice_words text ≡ words ++ kept_words (word_pieces place (between start i text) (drop i text))

pub begun-none : (text : List ℕ) → AreBegun text 0 0 None []
begun-none text = record { low = omega arith; is = rw (between_none text 0) refl }

module _ (text : List ℕ) (start i d : ℕ) (place : Option Place) (words : List (List ℕ)) where
  -- a byte of a word
  pub begun-part : i < length text → is_gap place (get_or text i d) ≡ false → AreBegun text start i place words → AreBegun text start (i + 1) (bracket_after place (get_or text i d)) words
  begun-part low part begun =
      let piece = between start i text in
      let b = get_or text i d in
      let step : word_pieces place piece (drop i text) ≡ word_pieces (bracket_after place b) (piece ++ b ∷ []) (drop (i + 1) text) = ap (word_pieces place piece) (drop_more text i d low) ∙ rw part refl in
      let longer : piece ++ b ∷ [] ≡ between start (i + 1) text = sym (between_more text start i d begun.low low) in
      record {
        low = let h = begun.low in omega (arith, h);
        is = begun.is ∙ ap (λ (ps : List (List ℕ)). words ++ kept_words ps) (step ∙ ap (λ (p : List ℕ). word_pieces (bracket_after place b) p (drop (i + 1) text)) longer);
      }

  -- a space
  pub begun-word : (words' : List (List ℕ)) (word : List ℕ) → i < length text → is_gap place (get_or text i d) ≡ true → word ≡ between start i text → words' ≡ words ++ kept_words (word ∷ []) → AreBegun text start i place words
      → AreBegun text (i + 1) (i + 1) place words'
  begun-word words' word low gap whole more begun =
      let piece = between start i text in
      let rest = word_pieces place [] (drop (i + 1) text) in
      let step : word_pieces place piece (drop i text) ≡ piece ∷ rest = ap (word_pieces place piece) (drop_more text i d low) ∙ rw gap refl in
      let taken : words' ≡ words ++ kept_words (piece ∷ []) = more ∙ ap (λ (w : List ℕ). words ++ kept_words (w ∷ [])) whole in
      record {
        low = omega arith;
        is = begun.is ∙ ap (λ (ps : List (List ℕ)). words ++ kept_words ps) step
            ∙ ap (λ (ws : List (List ℕ)). words ++ ws) (filter-append (λ (w : List ℕ). not (length w == 0)) (piece ∷ []) rest)
            ∙ sym (append_assoc words (kept_words (piece ∷ [])) (kept_words rest))
            ∙ ap (λ (ws : List (List ℕ)). ws ++ kept_words rest) (sym taken)
            ∙ ap (λ (p : List ℕ). words' ++ kept_words (word_pieces place p (drop (i + 1) text))) (sym (between_none text (i + 1)));
      }

  -- the end of the text
  pub begun-all : (words' : List (List ℕ)) (word : List ℕ) → length text ≤ i → word ≡ between start i text → words' ≡ words ++ kept_words (word ∷ []) → AreBegun text start i place words → words' ≡ choice_words text
  begun-all words' word all whole more begun =
      let piece = between start i text in
      let step : word_pieces place piece (drop i text) ≡ piece ∷ [] = ap (word_pieces place piece) (drop_all i text all) in
      more ∙ ap (λ (w : List ℕ). words ++ kept_words (w ∷ [])) whole ∙ sym (begun.is ∙ ap (λ (ps : List (List ℕ)). words ++ kept_words ps) step)
