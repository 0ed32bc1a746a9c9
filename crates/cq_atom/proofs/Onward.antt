-- Lists that are gone through to their end: what is found in them, or made of them, one element after another.
use Rattle.std.proofs.Common.{◌≡◌, ◌∙◌, ℕ, ◌+◌, ◌<◌, ◌≤◌, Bool, true, false, cond, List, ◌∷◌, Option, Some, None, ap, drop, fold, get_or, length, sym, bytes_eq}
use Rattle.std.specs.List.{flat_map}
use Rattle.std.proofs.lemmas.Grind.{fold-append}
use Rattle.std.proofs.lemmas.List.{drop_all, drop_more}
use Rattle.cq_atom.specs.Value.{ValueContent}
use Rattle.cq_atom.specs.Atom.{AtomRecord}
use Rattle.cq_atom.specs.declared.fault.Part.{Part}
use Rattle.cq_atom.specs.declared.fault.Bad.{Bad}
use Rattle.cq_atom.specs.declared.fault.Bad.TheVariants.{Unbound}
use Rattle.cq_atom.specs.Query.{occurrences, first_unbound, unbound_term}
use Rattle.cq_atom.specs.Valuation.{Bindings, value_at}
use Rattle.cq_atom.specs.Steps.Variables.{with_variable}

pub ahead : {X : Type 0} (xs : List X) (i : ℕ) (x : X) → i < length xs → x ≡ get_or xs i x → drop i xs ≡ x ∷ drop (i + 1) xs
ahead {X} xs i x low is = drop_more xs i x low ∙ ap (λ (y : X). y ∷ drop (i + 1) xs) (sym is)

-- ---- the value of a variable

module _ (x : List ℕ) (v : Bindings) (i : ℕ) where
  abbrev here : List ℕ × ValueContent → Bool → Option ValueContent
  here b t = cond t (Some b.1) (value_at (drop (i + 1) v) x)

  step : (b : List ℕ × ValueContent) (t : Bool) → i < length v → b ≡ get_or v i b → bytes_eq x b.0 ≡ t → value_at (drop i v) x ≡ here b t
  step b t low is e = ap (λ (l : Bindings). value_at l x) (ahead v i b low is) ∙ ap (here b) e

  pub value-here : (all : Option ValueContent) (b : List ℕ × ValueContent) → i < length v → b ≡ get_or v i b → bytes_eq x b.0 ≡ true → all ≡ value_at (drop i v) x → Some b.1 ≡ all
  value-here all b low is e so_far = sym (so_far ∙ step b true low is e)

  pub value-later : (all : Option ValueContent) (b : List ℕ × ValueContent) → i < length v → b ≡ get_or v i b → bytes_eq x b.0 ≡ false → all ≡ value_at (drop i v) x → all ≡ value_at (drop (i + 1) v) x
  value-later all b low is e so_far = so_far ∙ step b false low is e

  pub value-past : (all : Option ValueContent) → length v ≤ i → all ≡ value_at (drop i v) x → None ≡ all
  value-past all past so_far = sym (so_far ∙ ap (λ (l : Bindings). value_at l x) (drop_all i v past))

-- ---- the variables of a body

module _ (body : List AtomRecord) (i : ℕ) (all : List (List ℕ)) where
  pub variables-on : (now before : List (List ℕ)) (a : AtomRecord) → i < length body → a ≡ get_or body i a → now ≡ fold with_variable before (occurrences a)
      → all ≡ fold with_variable before (flat_map occurrences (drop i body)) → all ≡ fold with_variable now (flat_map occurrences (drop (i + 1) body))
  variables-on now before a low is more so_far =
      let rest = flat_map occurrences (drop (i + 1) body) in
      so_far
      ∙ ap (λ (l : List AtomRecord). fold with_variable before (flat_map occurrences l)) (ahead body i a low is)
      ∙ fold-append with_variable before (occurrences a) rest
      ∙ ap (λ (l : List (List ℕ)). fold with_variable l rest) (sym more)

  pub variables-end : (now : List (List ℕ)) → length body ≤ i → all ≡ fold with_variable now (flat_map occurrences (drop i body)) → now ≡ all
  variables-end now past so_far = sym (so_far ∙ ap (λ (l : List AtomRecord). fold with_variable now (flat_map occurrences l)) (drop_all i body past))

-- ---- the first term that is not bound

module _ (part : Part) (body : List AtomRecord) (i : ℕ) (atoms : List AtomRecord) (all : Option Bad) where
  abbrev found : Option ℕ → Option Bad
  found o = elim o [ None ↦ first_unbound part body (i + 1) (drop (i + 1) atoms) | Some t ↦ Some (Unbound part i t) ]

  looked : (a : AtomRecord) (o : Option ℕ) → i < length atoms → a ≡ get_or atoms i a → o ≡ unbound_term body a → all ≡ first_unbound part body i (drop i atoms) → all ≡ found o
  looked a o low is e so_far = so_far ∙ ap (first_unbound part body i) (ahead atoms i a low is) ∙ ap found (sym e)

  pub unbound-here : (a : AtomRecord) (o : Option ℕ) (t : ℕ) → i < length atoms → a ≡ get_or atoms i a → o ≡ unbound_term body a → o ≡ Some t → all ≡ first_unbound part body i (drop i atoms)
      → Some (Unbound part i t) ≡ all
  unbound-here a o t low is e some so_far = sym (looked a o low is e so_far ∙ ap found some)

  pub unbound-later : (a : AtomRecord) (o : Option ℕ) → i < length atoms → a ≡ get_or atoms i a → o ≡ unbound_term body a → o ≡ None → all ≡ first_unbound part body i (drop i atoms)
      → all ≡ first_unbound part body (i + 1) (drop (i + 1) atoms)
  unbound-later a o low is e none so_far = looked a o low is e so_far ∙ ap found none

  pub unbound-end : length atoms ≤ i → all ≡ first_unbound part body i (drop i atoms) → None ≡ all
  unbound-end past so_far = sym (so_far ∙ ap (first_unbound part body i) (drop_all i atoms past))
