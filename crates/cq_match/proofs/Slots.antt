-- The slots of one more node.
use Rattle.std.proofs.Common.{◌≡◌, ℕ, ◌+◌, ◌-◌, ◌<◌, ◌≤◌, ◌≢◌, true, false, eqb, ltb, List, [], ◌∷◌, ◌++◌, length, get_or, take, replicate, refl, sym, ap, ◌∙◌, subst, arith, eq-eqb}
use borrow.Author.Tests.{ltb-true, ltb-false}
use Rattle.std.proofs.lemmas.Bool.{eqb-true}
use Rattle.std.proofs.lemmas.List.{get_or-take, length-take, length-append, length-replicate, get_or_append_left, get_or-append_right, get_or-replicate, get_or_push}
use Rattle.cq_match.specs.Steps.Places.{slots_of_node, slots_at, AreSlots}
use Rattle.cq_match.proofs.Tests.{by_bool}
use Rattle.cq_match.proofs.Ranks.{Nodes}

pub slots-none : AreSlots [] [] []
slots-none = record {
  starts_len = refl;
  owner_low = λ slot h. absurd (let none : slot < 0 = h in omega arith);
  owned_from = λ slot h. absurd (let none : slot < 0 = h in omega arith);
  owned_to = λ slot h. absurd (let none : slot < 0 = h in omega arith);
  slot_low = λ place post h k. absurd (let none : place < 0 = h in omega arith);
  slot_owner = λ place post h k. absurd (let none : place < 0 = h in omega arith);
}

posts-front : (ranked : Nodes) (n p : ℕ) → p < n → slots_at (take n ranked) p ≡ slots_at ranked p
posts-front ranked n p low = ap slots_of_node (get_or-take n ranked p (0, 0, false) low)

-- what stands before the i-th node stays, and its slots follow
start-before : (starts owners : List ℕ) (p : ℕ) → p < length starts → get_or (starts ++ length owners ∷ []) p 0 ≡ get_or starts p 0
start-before starts owners p low = get_or_append_left starts (length owners ∷ []) 0 p low

owner-before : (owners : List ℕ) (k i slot : ℕ) → slot < length owners → get_or (owners ++ replicate k i) slot 0 ≡ get_or owners slot 0
owner-before owners k i slot low = get_or_append_left owners (replicate k i) 0 slot low

owner-behind : (owners : List ℕ) (k i slot : ℕ) → length owners ≤ slot → slot < length owners + k → get_or (owners ++ replicate k i) slot 0 ≡ i
owner-behind owners k i slot from to =
    get_or-append_right owners (replicate k i) (length owners) slot 0 refl from ∙ get_or-replicate k (slot - length owners) i 0 (omega arith)

-- a slot of the first i + 1 nodes is one of the first i, or one of the last
pub slots-more : (ranked : Nodes) (i : ℕ) (starts owners : List ℕ) → i < length ranked → AreSlots (take i ranked) starts owners
    → AreSlots (take (i + 1) ranked) (starts ++ length owners ∷ []) (owners ++ replicate (slots_at ranked i) i)
slots-more ranked i starts owners low s =
    let k = slots_at ranked i in
    let nodes' = take (i + 1) ranked in
    let starts' = starts ++ length owners ∷ [] in
    let owners' = owners ++ replicate k i in
    let nodes_len : length (take i ranked) ≡ i = let m = length-take i ranked in omega arith in
    let nodes_len' : length nodes' ≡ i + 1 = let m = length-take (i + 1) ranked in omega arith in
    let starts_len : length starts ≡ i = s.starts_len ∙ nodes_len in
    let owners_len : length owners' ≡ length owners + k = let a = length-append owners (replicate k i) in let b = length-replicate k i in omega arith in
    let last : get_or starts' i 0 ≡ length owners = get_or_push starts (length owners) 0 i starts_len in
    let own_posts : slots_at nodes' i ≡ k = posts-front ranked (i + 1) i (omega arith) in
    let old_owner : (slot : ℕ) → slot < length owners → get_or owners slot 0 < i = λ slot h. let o = s.owner_low slot h in omega arith in
    let old_start : (p : ℕ) → p < i → get_or starts' p 0 ≡ get_or starts p 0 = λ p h. start-before starts owners p (omega arith) in
    let old_posts : (p : ℕ) → p < i → slots_at nodes' p ≡ slots_at (take i ranked) p = λ p h. posts-front ranked (i + 1) p (omega arith) ∙ sym (posts-front ranked i p h) in
    let slot_cases : (P : ℕ → Type 0) → ((slot : ℕ) → slot < length owners → P slot) → ((slot : ℕ) → length owners ≤ slot → slot < length owners + k → P slot) → (slot : ℕ) → slot < length owners' → P slot = λ P before behind slot h.
    by_bool (ltb slot (length owners)) (P slot) (λ t. before slot (ltb-true slot (length owners) t)) (λ f. behind slot (ltb-false slot (length owners) f) (omega arith)) in
    let place_cases : (P : ℕ → Type 0) → ((p : ℕ) → p < i → P p) → P i → (p : ℕ) → p < length nodes' → P p = λ P before at p h.
    by_bool (eqb p i) (P p) (λ t. subst P (sym (eqb-true p i t)) at)
    (λ f. let apart : p ≢ i = λ e. let never : false ≡ true = sym f ∙ eq-eqb p i e in cc in before p (omega arith)) in
    record {
      starts_len = let a = length-append starts (length owners ∷ []) in omega arith;
      owner_low = slot_cases (λ slot. get_or owners' slot 0 < length nodes')
          (λ slot h. let o = old_owner slot h in let e = owner-before owners k i slot h in omega arith)
          (λ slot a b. let e = owner-behind owners k i slot a b in omega arith);
      owned_from = slot_cases (λ slot. get_or starts' (get_or owners' slot 0) 0 ≤ slot)
          (λ slot h.
          let e = ap (λ p. get_or starts' p 0) (owner-before owners k i slot h) ∙ old_start (get_or owners slot 0) (old_owner slot h) in
          let o = s.owned_from slot h in omega arith)
          (λ slot a b. let e = ap (λ p. get_or starts' p 0) (owner-behind owners k i slot a b) ∙ last in omega arith);
      owned_to = slot_cases (λ slot. slot < get_or starts' (get_or owners' slot 0) 0 + slots_at nodes' (get_or owners' slot 0))
          (λ slot h.
          let same = owner-before owners k i slot h in
          let e = ap (λ p. get_or starts' p 0) same ∙ old_start (get_or owners slot 0) (old_owner slot h) in
          let f = ap (slots_at nodes') same ∙ old_posts (get_or owners slot 0) (old_owner slot h) in
          let o = s.owned_to slot h in omega arith)
          (λ slot a b.
          let same = owner-behind owners k i slot a b in
          let e = ap (λ p. get_or starts' p 0) same ∙ last in
          let f = ap (slots_at nodes') same ∙ own_posts in omega arith);
      slot_low = λ place post h. place_cases (λ p. post < slots_at nodes' p → get_or starts' p 0 + post < length owners')
          (λ p b has. let e = old_start p b in let f = old_posts p b in let o = s.slot_low p post (omega arith) (omega arith) in omega arith)
          (λ has. omega arith) place h;
      slot_owner = λ place post h. place_cases (λ p. post < slots_at nodes' p → get_or owners' (get_or starts' p 0 + post) 0 ≡ p)
          (λ p b has.
          let f = old_posts p b in
          let held = s.slot_low p post (omega arith) (omega arith) in
          ap (λ n. get_or owners' (n + post) 0) (old_start p b) ∙ owner-before owners k i (get_or starts p 0 + post) held ∙ s.slot_owner p post (omega arith) (omega arith))
          (λ has. ap (λ n. get_or owners' (n + post) 0) last ∙ owner-behind owners k i (length owners + post) (omega arith) (omega arith)) place h;
    }
