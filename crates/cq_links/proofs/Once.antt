-- Lists of edges in which none stands twice.
use Rattle.std.proofs.Common.{◌≡◌, ℕ, ◌<◌, inl, inr, List, [], ◌∷◌, ◌++◌, map, zero, suc, get_or, Contains, ◌≢◌, refl, sym, ap, subst, ◌∙◌, arith}
use Rattle.std.specs.List.{AllPairs}
use Rattle.std.proofs.Math.ListN.{length-map, get_or-map}
use Rattle.std.proofs.lemmas.List.Elements.{Contains-append_cases, Contains-get_or}
use Rattle.std.proofs.lemmas.List.Kept.{AllPairs-cons}
use Rattle.cq_atom.specs.declared.edge.Edge.{Edge}
use Rattle.cq_links.specs.Steps.Asking.{IsOnce}

module _ {X : Type 0} where
  pub at_head : (x : X) (xs : List X) → Contains (x ∷ xs) x
  at_head x xs = (0, omega arith, refl)

  pub at_tail : (y x : X) (xs : List X) → Contains xs x → Contains (y ∷ xs) x
  at_tail y x xs h = (suc h.0, (let within = h.1 in omega arith), h.2)

module _ {X Y : Type 0} (f : X → Y) where
  pub mapped : (xs : List X) (x : X) → Contains xs x → Contains (map f xs) (f x)
  mapped xs x h = (h.0, (let within = h.1 in omega (arith, length-map xs f)), get_or-map f xs h.0 x ∙ ap f h.2)

  pub from_mapped : (xs : List X) (y : Y) → Contains (map f xs) y → (x : X) × Contains xs x × (y ≡ f x)
  from_mapped [] y (k, within, at) = absurd (omega arith)
  from_mapped (x ∷ xs) y (zero, within, at) = (x, at_head x xs, sym at)
  from_mapped (x ∷ xs) y (suc k, within, at) = let rest = from_mapped xs y (k, omega arith, at) in (rest.0, at_tail x rest.0 xs rest.1, rest.2)

pub once_append : (xs ys : List Edge) → IsOnce xs → IsOnce ys → ((e : Edge) → Contains xs e → Contains ys e → ⊥) → IsOnce (xs ++ ys)
once_append [] ys a b apart = b
once_append (x ∷ xs) ys a b apart = (
  (λ h. elim (Contains-append_cases xs ys x h) [ inl i ↦ a.0 i | inr j ↦ apart x (at_head x xs) j ]),
  once_append xs ys a.1 b (λ e i j. apart e (at_tail x e xs i) j),
)

pub once_mapped : (f : ℕ → Edge) → ((k l : ℕ) → f k ≡ f l → k ≡ l) → (xs : List ℕ) → AllPairs (λ x y. x < y) xs → IsOnce (map f xs)
once_mapped f one [] rising = tt
once_mapped f one (x ∷ xs) rising = (
  (λ h.
      let found = from_mapped f xs (f x) h in
      let same : x ≡ found.0 = one x found.0 found.2 in
      let low : x < get_or xs found.1.0 found.0 = rising 0 (suc found.1.0) found.0 (omega arith) (let within = found.1.1 in omega arith) in
      let at : get_or xs found.1.0 found.0 ≡ found.0 = found.1.2 in
      omega arith),
  once_mapped f one xs (λ i j d before within. rising (suc i) (suc j) d (omega arith) (omega arith)),
)

-- no two places of such a list have the same edge
pub once_apart : (xs : List Edge) → IsOnce xs → AllPairs (λ a b. a ≢ b) xs
once_apart [] once = λ i j d before within. absurd (omega arith)
once_apart (x ∷ xs) once = AllPairs-cons (λ a b. a ≢ b) x xs (λ k d within same. once.0 (subst (Contains xs) (sym same) (Contains-get_or xs k d within))) (once_apart xs once.1)
