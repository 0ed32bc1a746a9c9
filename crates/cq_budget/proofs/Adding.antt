-- The steps keep the rule.
use Rattle.std.proofs.Common.{◌≡◌, ℕ, ◌≤◌, ◌==◌, ◌<◌, Bool, true, false, List, [], ◌∷◌, ◌++◌, length, refl, ap, sym, ◌∙◌, subst, arith, append_assoc, inl, None}
use Rattle.std.proofs.lemmas.List.{append-nil}
use Rattle.std.proofs.lemmas.Bool.Decides.{nat_tests}
use mathlib.Core.List.{IsPrefix}
use prog.Atomic.{either}
use Rattle.logbook.specs.Pages.{Cell, cell, keeps, no_nib, step, View, Moves, Goes}
use Rattle.cq_budget.specs.declared.change.Change.{Change}
use Rattle.cq_budget.specs.declared.change.Change.TheVariants.{Opened}
use Rattle.cq_budget.specs.Counting.{out_after, out_from, out_of, budget_of, IsWithin}
use Rattle.cq_budget.specs.Steps.Rules.{IsKept, Looks, Adds}

abbrev pub shown : List Change → List Change
shown log = []

abbrev pub moved : List Change → List Change → ℕ → Type 0
moved xs ys n = Unit {0}

-- what one change more leaves
pub out_from_append : (out : ℕ) (changes : List Change) (change : Change) → out_from out (changes ++ change ∷ []) ≡ out_after (out_from out changes) change
out_from_append out [] change = refl
out_from_append out (first ∷ rest) change = out_from_append (out_after out first) rest change

pub prefix_trans : {A : Type 0} (xs ys zs : List A) → IsPrefix xs ys → IsPrefix ys zs → IsPrefix xs zs
prefix_trans xs ys zs p q = (p.0 ++ q.0, sym (append_assoc xs p.0 q.0) ∙ (ap (λ w. w ++ q.0) p.1 ∙ q.1))

prefix_more : {A : Type 0} (xs ys : List A) (y : A) → IsPrefix xs ys → IsPrefix xs (ys ++ y ∷ [])
prefix_more xs ys y p = prefix_trans xs ys (ys ++ y ∷ []) p (y ∷ [], refl)

-- a history that began with a budget keeps it
pub budget_kept : (budget : ℕ) (history : List Change) → IsPrefix (Opened budget ∷ []) history → budget_of history ≡ budget
budget_kept budget [] begun = absurd (cc (begun.1))
budget_kept budget (first ∷ rest) begun = subst (λ h. budget_of h ≡ budget) begun.1 refl

module _ (v : List Change) (ask : Change) where
  looks_goes : (log : List Change) → IsWithin log → Goes IsKept shown moved 0 (v, (no_nib, None)) (λ n. n) (Looks (step 0 0 0 ask) (v, (no_nib, None))) ((out_of log, true) ∷ []) log
  looks_goes log within =
      let all : log ++ [] ≡ log = append-nil log in
      let within' : IsWithin (log ++ []) = subst IsWithin (sym all) within in (
        keeps,
        [],
        None,
        tt,
        record { words = ap (λ h. (out_of h, true) ∷ []) (sym all); within = within' },
        inl (refl, refl),
        (ap out_of all, within'),
      )

  -- whatever the book is, a look finds what its history leaves
  pub looks_moves : Moves IsKept shown moved 0 (v, (no_nib, None)) (λ n. n) (Looks (step 0 0 0 ask) (v, (no_nib, None)))
  looks_moves cs log kept pre away =
      let P : List Cell → Type 0 = λ c. (0 < length c) × ((cell c 0).1 ≡ true) × Goes IsKept shown moved 0 (v, (no_nib, None)) (λ n. n) (Looks (step 0 0 0 ask) (v, (no_nib, None))) c log in
      subst P (sym kept.words) (omega arith, refl, looks_goes log kept.within)

module _ (budget : ℕ) (v : List Change) (begun : IsPrefix (Opened budget ∷ []) v) (change : Change) (old new : ℕ) (leaves : new ≡ out_after old change) (within : new ≤ budget) where
  abbrev exchanged : ℕ → ℕ
  exchanged n = either (n == old) new n

  abbrev Added : ℕ → View Change ℕ → Type 0
  Added = Adds (step 0 old new change) (v, (no_nib, None))

  adds_goes : (log : List Change) → IsWithin log → IsPrefix v log → (b : Bool) → (out_of log == old) ≡ b
      → Goes IsKept shown moved 0 (v, (no_nib, None)) exchanged Added ((out_of log, true) ∷ []) log
  adds_goes log legal pre true is =
      let here : out_of log ≡ old = grind (arith, nat_tests) in
      let leaves' : out_of (log ++ change ∷ []) ≡ new = out_from_append 0 log change ∙ (ap (λ n. out_after n change) here ∙ sym leaves) in
      let begun' : IsPrefix (Opened budget ∷ []) (log ++ change ∷ []) = prefix_more (Opened budget ∷ []) log change (prefix_trans (Opened budget ∷ []) v log begun pre) in
      let legal' : IsWithin (log ++ change ∷ []) = rw (leaves', budget_kept budget (log ++ change ∷ []) begun') within in (
        keeps,
        change ∷ [],
        None,
        tt,
        record { words = rw is (ap (λ (n : ℕ). (n, true) ∷ []) (sym leaves')); within = legal' },
        inl (refl, refl),
        rw is ((log, pre, refl), legal'),
      )
  adds_goes log legal pre false is =
      let all : log ++ [] ≡ log = append-nil log in
      let legal' : IsWithin (log ++ []) = subst IsWithin (sym all) legal in (
        keeps,
        [],
        None,
        tt,
        record { words = rw is (ap (λ h. (out_of h, true) ∷ []) (sym all)); within = legal' },
        inl (refl, refl),
        rw is (ap out_of all, legal'),
      )

  -- whatever the book is, the exchange adds the change, or finds that the word had changed
  pub adds_moves : Moves IsKept shown moved 0 (v, (no_nib, None)) exchanged Added
  adds_moves cs log kept pre away =
      let P : List Cell → Type 0 = λ c. (0 < length c) × ((cell c 0).1 ≡ true) × Goes IsKept shown moved 0 (v, (no_nib, None)) exchanged Added c log in
      subst P (sym kept.words) (omega arith, refl, adds_goes log kept.within pre (out_of log == old) refl)
