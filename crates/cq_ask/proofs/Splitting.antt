-- A text of values is cut at the commas between them.
use Rattle.std.proofs.Common.{◌≡◌, ℕ, zero, suc, ◌+◌, ◌-◌, Bool, true, false, cond, List, [], ◌∷◌, ◌++◌, length, length-append, take, Option, Some, None, refl, sym, ap, subst, ◌∙◌, arith, append_assoc, append-nil, inl, inr}
use Rattle.std.specs.Prelude.{◌==◌, ◌||◌, codes}
use Rattle.std.specs.List.{AllByRecursion, join_by, prefix_len}
use Rattle.std.specs.Char.{is_ascii_alphabetic, is_ascii_digit}
use Rattle.std.proofs.lemmas.Bool.{eqb-true, both_ways}
use Rattle.cq_atom.specs.Text.{is_word_byte, is_text}
use Rattle.cq_atom.specs.declared.value.Content.TheVariants.{Number, Text}
use Rattle.cq_atom.specs.Value.{ValueContent}
use Rattle.cq_text.specs.Token.{TokenContent, flaw, tokens_of}
use Rattle.cq_text.specs.Lexing.{is_space, content, behind, quoted_token, negative_token, arrow_token, sign_token, front, lexemes, lexemes_of}
use Rattle.cq_text.specs.Grammar.{IsConstant, Separated}
use Rattle.cq_ask.specs.declared.choices.Place.{Place}
use Rattle.cq_ask.specs.declared.choices.Place.TheVariants.{Outside, Inside, Escaped}
use Rattle.cq_ask.specs.Choices.{ArePaired, StandsForValue, place_after}
use Rattle.cq_ask.specs.Steps.Splitting.{is_cut, pieces}

-- ---- walks over bytes that no comma cuts

-- Where a walk over the bytes ends; nowhere where a comma cuts them.
abbrev walk : Place → List ℕ → Option Place
walk p [] = Some p
walk p (b ∷ bs) = cond (is_cut p b) None (walk (place_after p b) bs)

walk-split : (p r : Place) (xs ys : List ℕ) → walk p (xs ++ ys) ≡ Some r → (q : Place) × (walk p xs ≡ Some q) × (walk q ys ≡ Some r)
walk-split p r [] ys e = (p, refl, e)
walk-split p r (x ∷ xs) ys e = go (λ h. walk-split (place_after p x) r xs ys h) (is_cut p x) e
  where
    go : (walk (place_after p x) (xs ++ ys) ≡ Some r → (q : Place) × (walk (place_after p x) xs ≡ Some q) × (walk q ys ≡ Some r)) → (t : Bool) → cond t None (walk (place_after p x) (xs ++ ys)) ≡ Some r → (q : Place) × (cond t None (walk (place_after p x) xs) ≡ Some q) × (walk q ys ≡ Some r)
    go more true h = absurd cc
    go more false h = more h

pieces-front : (p q : Place) (piece xs ys : List ℕ) → walk p xs ≡ Some q → pieces p piece (xs ++ ys) ≡ pieces q (piece ++ xs) ys
pieces-front p q piece [] ys e = let same : p ≡ q = cc in ap (λ (r : Place). pieces r piece ys) same ∙ ap (λ (begun : List ℕ). pieces q begun ys) (sym (append-nil piece))
pieces-front p q piece (x ∷ xs) ys e = go (λ h. pieces-front (place_after p x) q (piece ++ x ∷ []) xs ys h ∙ ap (λ (begun : List ℕ). pieces q begun ys) (append_assoc piece (x ∷ []) xs)) (is_cut p x) e
  where
    go : (walk (place_after p x) xs ≡ Some q → pieces (place_after p x) (piece ++ x ∷ []) (xs ++ ys) ≡ pieces q (piece ++ (x ∷ xs)) ys) → (t : Bool) → cond t None (walk (place_after p x) xs) ≡ Some q → cond t (piece ∷ pieces p [] (xs ++ ys)) (pieces (place_after p x) (piece ++ x ∷ []) (xs ++ ys)) ≡ pieces q (piece ++ (x ∷ xs)) ys
    go more true h = cc
    go more false h = more h

-- No comma cuts the text, and all its quotes are closed.
abbrev pub IsWhole : List ℕ → Type 0
IsWhole text = walk Outside text ≡ Some Outside

-- texts with commas between them are the pieces
pub pieces-joined : (text : List ℕ) (texts : List (List ℕ)) → IsWhole text → AllByRecursion IsWhole texts → pieces Outside [] (join_by (λ one. one) (codes ",") (text ∷ texts)) ≡ text ∷ texts
pieces-joined text [] whole all = pieces-front Outside Outside [] text [] whole
pieces-joined text (next ∷ texts) whole all =
    pieces-front Outside Outside [] text (44 ∷ join_by (λ one. one) (codes ",") (next ∷ texts)) whole ∙ ap (λ (more : List (List ℕ)). text ∷ more) (pieces-joined next texts all.0 all.1)

-- ---- a byte that is neither a comma nor a quote

tells : (P : ℕ → Bool) (c b : ℕ) → P c ≡ false → P b ≡ true → (b == c) ≡ false
tells P c b fails passes = by_case (b == c) refl
  where
    by_case : (t : Bool) → (b == c) ≡ t → t ≡ false
    by_case true e = let same : P b ≡ P c = ap P (eqb-true b c e) in absurd (both_ways (P c) fails (sym same ∙ passes))
    by_case false e = refl

one_step : (b : ℕ) (bs : List ℕ) → (b == 44) ≡ false → (b == 34) ≡ false → walk Outside (b ∷ bs) ≡ walk Outside bs
one_step b bs e f = rw (e, f) refl

take_one : (n b : ℕ) (bs : List ℕ) → take (1 + n) (b ∷ bs) ≡ b ∷ take n bs
take_one n b bs = let e : 1 + n ≡ suc n = omega arith in ap (λ (k : ℕ). take k (b ∷ bs)) e

take_two : (n b c : ℕ) (bs : List ℕ) → take (2 + n) (b ∷ c ∷ bs) ≡ b ∷ c ∷ take n bs
take_two n b c bs = let e : 2 + n ≡ suc (suc n) = omega arith in ap (λ (k : ℕ). take k (b ∷ c ∷ bs)) e

walk-run : (P : ℕ → Bool) → P 34 ≡ false → P 44 ≡ false → (bs : List ℕ) → walk Outside (take (prefix_len P bs) bs) ≡ Some Outside
walk-run P quote comma [] = refl
walk-run P quote comma (b ∷ bs) = go (walk-run P quote comma bs) (P b) refl
  where
    go : walk Outside (take (prefix_len P bs) bs) ≡ Some Outside → (t : Bool) → P b ≡ t → walk Outside (take (cond t (1 + prefix_len P bs) 0) (b ∷ bs)) ≡ Some Outside
    go more true e = ap (walk Outside) (take_one (prefix_len P bs) b bs) ∙ one_step b (take (prefix_len P bs) bs) (tells P 44 b comma e) (tells P 34 b quote e) ∙ more
    go more false e = refl

-- ---- a quoted text

walk-quoted : (bs : List ℕ) (c : List ℕ × ℕ) → content bs ≡ Some c → walk Inside (take c.1 bs) ≡ Some Outside
unfolding content
walk-quoted [] c e = absurd cc
walk-quoted (b ∷ []) c e = go (b == 34) refl e
  where
    go : (t : Bool) → (b == 34) ≡ t → cond t (Some ([], 1)) None ≡ Some c → walk Inside (take c.1 (b ∷ [])) ≡ Some Outside
    go true q h = let same : ◌≡◌ {A = List ℕ × ℕ} ([], 1) c = cc in subst (λ (x : List ℕ × ℕ). walk Inside (take x.1 (b ∷ [])) ≡ Some Outside) same (rw q refl)
    go false q h = absurd cc
walk-quoted (b ∷ c ∷ bs) x e = go (λ d f. walk-quoted bs d f) (λ d f. walk-quoted (c ∷ bs) d f) (b == 34) refl e
  where
    taken_two : ((d : List ℕ × ℕ) → content bs ≡ Some d → walk Inside (take d.1 bs) ≡ Some Outside) → (b == 34) ≡ false → (b == 92) ≡ true → (o : Option (List ℕ × ℕ)) → content bs ≡ o → behind c 2 o ≡ Some x → walk Inside (take x.1 (b ∷ c ∷ bs)) ≡ Some Outside
    taken_two more q s None f h = absurd cc
    taken_two more q s (Some d) f h =
        let same : ◌≡◌ {A = List ℕ × ℕ} (c ∷ d.0, 2 + d.1) x = cc in
        subst (λ (y : List ℕ × ℕ). walk Inside (take y.1 (b ∷ c ∷ bs)) ≡ Some Outside) same (ap (walk Inside) (take_two d.1 b c bs) ∙ rw (q, s) (more d f))

    taken_one : ((d : List ℕ × ℕ) → content (c ∷ bs) ≡ Some d → walk Inside (take d.1 (c ∷ bs)) ≡ Some Outside) → (b == 34) ≡ false → (b == 92) ≡ false → (o : Option (List ℕ × ℕ)) → content (c ∷ bs) ≡ o → behind b 1 o ≡ Some x → walk Inside (take x.1 (b ∷ c ∷ bs)) ≡ Some Outside
    taken_one more q s None f h = absurd cc
    taken_one more q s (Some d) f h =
        let same : ◌≡◌ {A = List ℕ × ℕ} (b ∷ d.0, 1 + d.1) x = cc in
        subst (λ (y : List ℕ × ℕ). walk Inside (take y.1 (b ∷ c ∷ bs)) ≡ Some Outside) same (ap (walk Inside) (take_one d.1 b (c ∷ bs)) ∙ rw (q, s) (more d f))

    escape : ((d : List ℕ × ℕ) → content bs ≡ Some d → walk Inside (take d.1 bs) ≡ Some Outside) → (b == 34) ≡ false → (b == 92) ≡ true → (t : Bool) → cond t (behind c 2 (content bs)) None ≡ Some x → walk Inside (take x.1 (b ∷ c ∷ bs)) ≡ Some Outside
    escape more q s true h = taken_two more q s (content bs) refl h
    escape more q s false h = absurd cc

    slash : ((d : List ℕ × ℕ) → content bs ≡ Some d → walk Inside (take d.1 bs) ≡ Some Outside) → ((d : List ℕ × ℕ) → content (c ∷ bs) ≡ Some d → walk Inside (take d.1 (c ∷ bs)) ≡ Some Outside) → (b == 34) ≡ false → (t : Bool) → (b == 92) ≡ t → cond t (cond ((c == 34) || (c == 92)) (behind c 2 (content bs)) None) (behind b 1 (content (c ∷ bs))) ≡ Some x → walk Inside (take x.1 (b ∷ c ∷ bs)) ≡ Some Outside
    slash two one q true s h = escape two q s ((c == 34) || (c == 92)) h
    slash two one q false s h = taken_one one q s (content (c ∷ bs)) refl h

    go : ((d : List ℕ × ℕ) → content bs ≡ Some d → walk Inside (take d.1 bs) ≡ Some Outside) → ((d : List ℕ × ℕ) → content (c ∷ bs) ≡ Some d → walk Inside (take d.1 (c ∷ bs)) ≡ Some Outside) → (t : Bool) → (b == 34) ≡ t → cond t (Some ([], 1)) (cond (b == 92) (cond ((c == 34) || (c == 92)) (behind c 2 (content bs)) None) (behind b 1 (content (c ∷ bs)))) ≡ Some x → walk Inside (take x.1 (b ∷ c ∷ bs)) ≡ Some Outside
    go two one true q h = let same : ◌≡◌ {A = List ℕ × ℕ} ([], 1) x = cc in subst (λ (y : List ℕ × ℕ). walk Inside (take y.1 (b ∷ c ∷ bs)) ≡ Some Outside) same (rw q refl)
    go two one false q h = slash two one q (b == 92) refl h

-- ---- a token

-- A good token that is no comma.
abbrev IsCalm : TokenContent → Type 0
IsCalm t = (flaw t ≡ None) × (t ≡ sign_token 44 → ⊥)

-- No comma stands first, and none cuts what the token takes after its first byte.
record Steps (b : ℕ) (bs : List ℕ) (f : TokenContent × ℕ) : Type 0 where
  pub steps : IsCalm f.0 → ((b == 44) ≡ false) × (walk (place_after Outside b) (take (f.1 - 1) bs) ≡ Some Outside)

pick : {b : ℕ} {bs : List ℕ} (t : Bool) (f g : TokenContent × ℕ) → (t ≡ true → Steps b bs f) → (t ≡ false → Steps b bs g) → Steps b bs (cond t f g)
pick true f g first other = first refl
pick false f g first other = other refl

run_steps : (P : ℕ → Bool) → P 34 ≡ false → P 44 ≡ false → (b : ℕ) (bs : List ℕ) → (b == 34) ≡ false → walk (place_after Outside b) (take (prefix_len P bs + 1 - 1) bs) ≡ Some Outside
run_steps P quote comma b bs q =
    let n : prefix_len P bs + 1 - 1 ≡ prefix_len P bs = omega arith in
    rw q (ap (λ (k : ℕ). walk Outside (take k bs)) n ∙ walk-run P quote comma bs)

arrow_steps : (b : ℕ) → (b == 60) ≡ true → (bs : List ℕ) → Steps b bs (arrow_token bs)
arrow_steps b e [] = record { steps = λ calm. absurd (let h = calm.0 in cc) }
arrow_steps b e (c ∷ rest) =
    pick (c == 45) _ _
    (λ s. record { steps = λ calm. (tells (λ x. x == 60) 44 b refl e, rw (tells (λ x. x == 60) 34 b refl e, tells (λ x. x == 45) 44 c refl s, tells (λ x. x == 45) 34 c refl s) refl) })
    (λ s. record { steps = λ calm. absurd (let h = calm.0 in cc) })

quoted_steps : (b : ℕ) (bs : List ℕ) → (b == 34) ≡ true → (o : Option (List ℕ × ℕ)) → content bs ≡ o → Steps b bs (quoted_token o)
quoted_steps b bs e None f = record { steps = λ calm. absurd (let h = calm.0 in cc) }
quoted_steps b bs e (Some c) f =
    let n : c.1 + 1 - 1 ≡ c.1 = omega arith in
    pick (is_text c.0) _ _
    (λ s. record { steps = λ calm. (tells (λ x. x == 34) 44 b refl e, rw e (ap (λ (k : ℕ). walk Inside (take k bs)) n ∙ walk-quoted bs c f)) })
    (λ s. record { steps = λ calm. absurd (let h = calm.0 in cc) })

negative_steps : (b : ℕ) (bs : List ℕ) → (b == 45) ≡ true → Steps b bs (negative_token bs)
negative_steps b bs e =
    pick (prefix_len is_ascii_digit bs == 0) _ _
    (λ s. record { steps = λ calm. absurd (let h = calm.0 in cc) })
    (λ s. record { steps = λ calm. (tells (λ x. x == 45) 44 b refl e, run_steps is_ascii_digit refl refl b bs (tells (λ x. x == 45) 34 b refl e)) })

sign_steps : (b : ℕ) (bs : List ℕ) → (b == 34) ≡ false → Steps b bs (sign_token b, 1)
sign_steps b bs q = record { steps = λ calm. (no_comma calm.1 (b == 44) refl, rw q refl) }
  where
    no_comma : (sign_token b ≡ sign_token 44 → ⊥) → (t : Bool) → (b == 44) ≡ t → t ≡ false
    no_comma calm true e = absurd (calm (ap sign_token (eqb-true b 44 e)))
    no_comma calm false e = refl

front_steps : (b : ℕ) (bs : List ℕ) → Steps b bs (front b bs)
unfolding front
front_steps b bs =
    pick (is_ascii_alphabetic b) _ _
    (λ e. record { steps = λ calm. (tells is_ascii_alphabetic 44 b refl e, run_steps is_word_byte refl refl b bs (tells is_ascii_alphabetic 34 b refl e)) })
    (λ e. pick (is_ascii_digit b) _ _
    (λ f. record { steps = λ calm. (tells is_ascii_digit 44 b refl f, run_steps is_ascii_digit refl refl b bs (tells is_ascii_digit 34 b refl f)) })
    (λ f. pick (b == 45) _ _
    (λ g. negative_steps b bs g)
    (λ g. pick (b == 60) _ _
    (λ h. arrow_steps b h bs)
    (λ h. pick (b == 34) _ _
    (λ i. quoted_steps b bs i (content bs) refl)
    (λ i. sign_steps b bs i)))))

-- ---- a text whose tokens are good and no commas

abbrev AreCalm : List TokenContent → Type 0
AreCalm ts = AllByRecursion IsCalm ts

walk-lexed : (skip at : ℕ) (bs : List ℕ) (p : Place) → walk p (take skip bs) ≡ Some Outside → AreCalm (tokens_of (lexemes skip at bs)) → walk p bs ≡ Some Outside
unfolding lexemes
walk-lexed zero at [] p e calm = e
walk-lexed (suc skip) at [] p e calm = e
walk-lexed (suc skip) at (b ∷ bs) p e calm = go (λ h. walk-lexed skip (at + 1) bs (place_after p b) h calm) (is_cut p b) e
  where
    go : (walk (place_after p b) (take skip bs) ≡ Some Outside → walk (place_after p b) bs ≡ Some Outside) → (t : Bool) → cond t None (walk (place_after p b) (take skip bs)) ≡ Some Outside → cond t None (walk (place_after p b) bs) ≡ Some Outside
    go more true h = absurd cc
    go more false h = more h
walk-lexed zero at (b ∷ bs) p e calm = let same : p ≡ Outside = cc in subst (λ (q : Place). walk q (b ∷ bs) ≡ Some Outside) (sym same) (by_space (λ c. walk-lexed 0 (at + 1) bs Outside refl c) (λ h c. walk-lexed ((front b bs).1 - 1) (at + 1) bs (place_after Outside b) h c) (is_space b) refl calm)
  where
    by_space : (AreCalm (tokens_of (lexemes 0 (at + 1) bs)) → walk Outside bs ≡ Some Outside)
        → (walk (place_after Outside b) (take ((front b bs).1 - 1) bs) ≡ Some Outside → AreCalm (tokens_of (lexemes ((front b bs).1 - 1) (at + 1) bs)) → walk (place_after Outside b) bs ≡ Some Outside)
        → (t : Bool) → is_space b ≡ t → AreCalm (tokens_of (cond t (lexemes 0 (at + 1) bs) (record { at = at; token = (front b bs).0 } ∷ lexemes ((front b bs).1 - 1) (at + 1) bs))) → walk Outside (b ∷ bs) ≡ Some Outside
    by_space space token true s c = one_step b bs (tells is_space 44 b refl s) (tells is_space 34 b refl s) ∙ space c
    by_space space token false s c = let f = (front_steps b bs).steps c.0 in rw f.0 (token f.1 c.1)

-- ---- a text that stands for a value

constant_calm : (inner : List TokenContent) (value : ValueContent) → IsConstant inner value → AreCalm (inner ++ sign_token 41 ∷ [])
constant_calm inner (Number n) e = subst (λ (ts : List TokenContent). AreCalm (ts ++ sign_token 41 ∷ [])) (sym e) ((refl, λ h. cc), ((refl, λ h. cc), tt))
constant_calm inner (Text w) (inl e) = subst (λ (ts : List TokenContent). AreCalm (ts ++ sign_token 41 ∷ [])) (sym e) ((refl, λ h. cc), ((refl, λ h. cc), tt))
constant_calm inner (Text w) (inr e) = subst (λ (ts : List TokenContent). AreCalm (ts ++ sign_token 41 ∷ [])) (sym e.0) ((refl, λ h. cc), ((refl, λ h. cc), tt))

constant_one : (inner : List TokenContent) (value : ValueContent) → IsConstant inner value → length inner ≡ 1
constant_one inner (Number n) e = ap length e
constant_one inner (Text w) (inl e) = ap length e
constant_one inner (Text w) (inr e) = ap length e.0

pub value_whole : (text : List ℕ) (value : ValueContent) → StandsForValue text value → IsWhole text
value_whole text value stands =
    let around : List ℕ = codes "V(" ++ text ++ codes ")" in
    let sentence = stands.1.1.sentence in
    let constant : IsConstant sentence.0 value = subst (λ (values : List ValueContent). Separated IsConstant sentence.0 values) stands.2 sentence.3 in
    let calm : AreCalm (tokens_of (lexemes_of around)) = subst AreCalm (sym sentence.1) ((refl, λ h. cc), ((refl, λ h. cc), constant_calm sentence.0 value constant)) in
    let whole : walk Outside around ≡ Some Outside = walk-lexed 0 0 around Outside refl calm in
    let parts = walk-split Outside Outside text (codes ")") whole in
    ends parts.0 parts.1 parts.2
  where
    ends : (q : Place) → walk Outside text ≡ Some q → walk q (codes ")") ≡ Some Outside → walk Outside text ≡ Some Outside
    ends Outside e f = e
    ends Inside e f = absurd cc
    ends Escaped e f = absurd cc

-- nothing stands for no value
pub no_value : (value : ValueContent) → StandsForValue [] value → ⊥
unfolding lexemes front
no_value value stands =
    let sentence = stands.1.1.sentence in
    let constant : IsConstant sentence.0 value = subst (λ (values : List ValueContent). Separated IsConstant sentence.0 values) stands.2 sentence.3 in
    none sentence.0 (sign_token 41) (constant_one sentence.0 value constant) (ap length sentence.1)
  where
    none : (inner : List TokenContent) (last : TokenContent) → length inner ≡ 1 → 3 ≡ suc (suc (length (inner ++ last ∷ []))) → ⊥
    none inner last one e = omega (arith, one, e, length-append inner (last ∷ []))

-- texts that stand for values are the pieces of what lists them
pub listed_whole : (texts : List (List ℕ)) (values : List ValueContent) → ArePaired StandsForValue texts values → AllByRecursion IsWhole texts
listed_whole [] values all = tt
listed_whole (text ∷ texts) [] all = absurd all
listed_whole (text ∷ texts) (value ∷ values) all = (value_whole text value all.0, listed_whole texts values all.1)

pub listed_pieces : (text : List ℕ) (texts : List (List ℕ)) (values : List ValueContent) → ArePaired StandsForValue (text ∷ texts) values → pieces Outside [] (join_by (λ one. one) (codes ",") (text ∷ texts)) ≡ text ∷ texts
listed_pieces text texts [] all = absurd all
listed_pieces text texts (value ∷ values) all = pieces-joined text texts (value_whole text value all.0) (listed_whole texts values all.1)
