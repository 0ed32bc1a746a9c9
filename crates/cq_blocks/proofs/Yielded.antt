-- What is left where one goes over a list in blocks: the elements before the blocks, those of the blocks, and those behind.
use Rattle.std.proofs.Common.{◌≡◌, ◌-◌, ◌<◌, ◌≤◌, Option, Some, None, List, [], ◌∷◌, ◌++◌, length, take, drop, get_or, sym, ap, subst, ◌∙◌, arith, append_assoc}
use Rattle.std.specs.Prelude.{Vec}
use Rattle.std.specs.Borrow.{Bor}
use Rattle.std.specs.Iterator.{YieldsFirstRef, MakesProgress, item_count}
use Rattle.std.proofs.lemmas.List.{nil_from_length, take_rest}
use Rattle.cq_blocks.specs.declared.iter.Iter.TheInside.{Inside}
use Rattle.cq_blocks.specs.Blocks.{elements, lists_of, AreFilled}

-- the whole blocks that are left
abbrev pub blocks_of : {X Z : Type 0} → Inside X Z → List (Vec X Z)
blocks_of it = it.blocks.now

-- ---- the first block

module _ {X Z : Type 0} (vs rest : List (Vec X Z)) (v : Vec X Z) (is : vs ≡ v ∷ rest) (filled : AreFilled (lists_of vs)) where
  both-filled : AreFilled (lists_of (v ∷ rest))
  both-filled = subst (λ l. AreFilled (lists_of l)) is filled

  pub rest-filled : AreFilled (lists_of rest)
  rest-filled = both-filled.1

  pub first-filled : 0 < v.len
  first-filled = subst (λ n. 0 < n) (sym v.ok.0) both-filled.0

  pub some-first : (items : List X) → items ≡ v.items → 1 ≤ length items
  some-first items shown = subst (λ l. 1 ≤ length l) (sym shown) both-filled.0

-- ---- an element

pub of-front : {X : Type 0} (now front rest tail : List X) (x : X) → front ++ tail ≡ now → front ≡ x ∷ rest → now ≡ x ∷ (rest ++ tail)
of-front now front rest tail x view is = sym view ∙ ap (λ l. l ++ tail) is

module _ {X Z : Type 0} (now front back : List X) (vs : List (Vec X Z)) (view : front ++ (elements (lists_of vs) ++ back) ≡ now) (none : length front ≡ 0) where
  past-front : now ≡ elements (lists_of vs) ++ back
  past-front = sym view ∙ ap (λ l. l ++ (elements (lists_of vs) ++ back)) (nil_from_length front none)

  pub of-block : (rest : List (Vec X Z)) (v : Vec X Z) (items : List X) (x : X) → vs ≡ v ∷ rest → items ≡ v.items → x ≡ get_or v.items 0 x → 1 ≤ length items
      → now ≡ x ∷ (take (length items - 1) (drop 1 items) ++ (elements (lists_of rest) ++ back))
  of-block rest v [] x is shown read some = absurd (omega (arith, some))
  of-block rest v (y ∷ ys) x is shown read some =
      let tail = elements (lists_of rest) ++ back in
      past-front
      ∙ ap (λ l. elements (lists_of l) ++ back) is
      ∙ append_assoc v.items (elements (lists_of rest)) back
      ∙ ap (λ l. l ++ tail) (sym shown)
      ∙ ap (λ z. z ∷ (ys ++ tail)) (sym (read ∙ ap (λ l. get_or l 0 x) (sym shown)))
      ∙ ap (λ l. x ∷ (l ++ tail)) (sym (take_rest (y ∷ ys) 1))

  -- no block is left
  module _ (over : length vs ≡ 0) where
    past-blocks : now ≡ back
    past-blocks = past-front ∙ ap (λ l. elements (lists_of l) ++ back) (nil_from_length vs over)

    pub of-back : (rest : List X) (x : X) → back ≡ x ∷ rest → now ≡ x ∷ (front ++ (elements (lists_of vs) ++ rest))
    of-back rest x is =
        past-blocks ∙ is ∙ ap (λ l. x ∷ (l ++ rest)) (sym (ap (λ l. elements (lists_of l)) (nil_from_length vs over)))
        ∙ ap (λ l. x ∷ (l ++ (elements (lists_of vs) ++ rest))) (sym (nil_from_length front none))

    pub of-none : (r : Option (Bor X)) → r ≡ None → length back ≡ 0 → YieldsFirstRef (λ (rest : List X). rest) now r now
    of-none r is empty =
        let all : now ≡ [] = past-blocks ∙ nil_from_length back empty in
        subst (λ o. YieldsFirstRef (λ (rest : List X). rest) now o now) (sym is) (all, all)

-- ---- fewer are left

pub fewer : {X B : Type 0} (now rest : List X) (x : X) (b : B) → now ≡ x ∷ rest → MakesProgress (λ s. Unit {0}) (item_count (λ (l : List X). l)) now (Some b) rest
fewer now rest x b is = record {
  on = λ finite. (tt, tt, omega (arith, ap (λ l. length l) is));
  keeps = tt;
  rests = λ finite. tt;
}

pub no-more : {X B : Type 0} (now : List X) (r : Option B) → r ≡ None → MakesProgress (λ s. Unit {0}) (item_count (λ (l : List X). l)) now r now
no-more {X} now r is = subst (λ o. MakesProgress (λ s. Unit {0}) (item_count (λ (l : List X). l)) now o now) (sym is) (record { on = λ finite. tt; keeps = tt; rests = λ finite. finite })
