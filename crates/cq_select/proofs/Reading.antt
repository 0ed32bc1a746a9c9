-- What the readers of a supply read.
use Rattle.std.proofs.Common.{◌≡◌, ℕ, zero, suc, ◌-◌, ◌<◌, ◌≤◌, Some, List, length, get_or, map, refl, sym, ap, ◌∙◌, subst, arith}
use Rattle.std.proofs.lemmas.List.{get_or-map, get_or_past, length-map}
use Rattle.cq_select.specs.declared.trail.Frame.{Frame}
use Rattle.cq_select.specs.Steps.Facts.{asker, chosen_of}

module _ {X Y : Type 0} (f : X → Y) where
  -- what is read of an element that is there
  pub read-map : (xs shown : List X) (i : ℕ) (x : X) (d : Y) → shown ≡ xs → i < length shown → x ≡ get_or shown i x → f x ≡ get_or (map f xs) i d
  read-map xs shown i x d is low at =
      let inside : i < length xs = subst (λ (l : List X). i < length l) is low in
      ap f (at ∙ ap (λ (l : List X). get_or l i x) is) ∙ sym (get_or-map f xs i x d inside)

  -- past the end
  pub past-map : (xs shown : List X) (i : ℕ) (d : Y) → shown ≡ xs → length shown ≤ i → d ≡ get_or (map f xs) i d
  past-map xs shown i d is past =
      let outside : length xs ≤ i = subst (λ (l : List X). length l ≤ i) is past in
      sym (get_or_past (map f xs) i d (rw (length-map xs f) outside))

pub asker-at : {A : Type 0} (frames : List (Frame A)) (list : ℕ) (x : Frame A) → (list ≡ 0 → ⊥) → list ≤ length frames → Some (get_or frames (list - 1) x).member ≡ asker (chosen_of frames) list
asker-at frames zero x ne low = absurd (ne refl)
asker-at frames (suc k) x ne low =
    let e : suc k - 1 ≡ k = omega arith in
    let inside : k < length frames = omega arith in
    rw e (ap Some (sym (get_or-map (λ f. f.member) frames k x 0 inside)))
