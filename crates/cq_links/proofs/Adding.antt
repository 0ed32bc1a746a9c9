-- Lists of edges that grow.
use Rattle.std.proofs.Common.{◌≡◌, ◌≢◌, ◌↔◌, nat_eq, ◌⊎◌, inl, inr, ℕ, ◌+◌, ◌/◌, ◌%◌, ◌<◌, ◌≤◌, List, [], ◌++◌, map, length, Contains, Some, append_assoc, append-nil, sym, ap, subst, ◌∙◌, arith}
use Rattle.std.specs.List.{slice_get}
use Rattle.std.specs.List.Sorted.{IsStrictlyIncreasing}
use Rattle.std.proofs.lemmas.Option.{slice_get_within}
use Rattle.std.proofs.lemmas.List.Elements.{Contains-append_left, Contains-append_right, Contains-append_cases}
use Rattle.std.proofs.lemmas.List.Kept.{AllPairs-from_increasing}
use Rattle.cq_atom.specs.declared.limits.TheConstants.{MAX_ATOMS}
use Rattle.cq_atom.specs.Atom.{AtomRecord}
use Rattle.cq_atom.specs.declared.edge.Edge.{Edge}
use Rattle.cq_index.specs.Index.{AtomMap, IsPartnerAt}
use Rattle.cq_links.specs.declared.asking.Side.{Side}
use Rattle.cq_links.specs.declared.asking.Side.TheVariants.{Heads, Posts}
use Rattle.cq_links.specs.Steps.Asking.{edge_of, Adds, IsAnswer, Answers, IsAnswerTo, AnswersAll}
use Rattle.cq_links.proofs.Tests.{by_bool, same_number, other_number}
use Rattle.cq_links.proofs.Once.{mapped, from_mapped, once_append, once_mapped}

pub adds_nothing : (P : Edge → Type 0) (old : List Edge) → ((e : Edge) → P e → ⊥) → Adds P old old
adds_nothing P old none = record { added = []; behind = sym (append-nil old); exact = λ e. ((λ h. absurd (let within = h.1 in omega arith)), (λ p. absurd (none e p))); once = tt }

pub adds_both : (P Q R : Edge → Type 0) (old mid new : List Edge) → Adds P old mid → Adds Q mid new → ((e : Edge) → P e → Q e → ⊥) → ((e : Edge) → P e → R e) → ((e : Edge) → Q e → R e) → ((e : Edge) → R e → P e ⊎ Q e) → Adds R old new
adds_both P Q R old mid new p q apart left right cases = record {
  added = p.added ++ q.added;
  behind = q.behind ∙ ap (λ l. l ++ q.added) p.behind ∙ append_assoc old p.added q.added;
  exact = λ e. (
    (λ h. elim (Contains-append_cases p.added q.added e h) [ inl i ↦ left e ((p.exact e).0 i) | inr j ↦ right e ((q.exact e).0 j) ]),
    (λ r. elim (cases e r) [ inl i ↦ Contains-append_left p.added q.added e ((p.exact e).1 i) | inr j ↦ Contains-append_right p.added q.added e ((q.exact e).1 j) ]),
  );
  once = once_append p.added q.added p.once q.once (λ e i j. apart e ((p.exact e).0 i) ((q.exact e).0 j));
}

pub adds_as : (P Q : Edge → Type 0) (old new : List Edge) → Adds P old new → ((e : Edge) → P e → Q e) → ((e : Edge) → Q e → P e) → Adds Q old new
adds_as P Q old new p there back = record { added = p.added; behind = p.behind; exact = λ e. ((λ h. there e ((p.exact e).0 h)), (λ q. (p.exact e).1 (back e q))); once = p.once }

-- ---- the edges to one atom

pub adds_answers : (make : ℕ → Edge) (index : AtomMap) (given : AtomRecord) (partners : List ℕ) (old new : List Edge) → ((k l : ℕ) → make k ≡ make l → k ≡ l)
    → ((p : ℕ) → Contains partners p ↔ IsPartnerAt index given p) → IsStrictlyIncreasing partners → new ≡ old ++ map make partners → Answers make index given old new
adds_answers make index given partners old new one exact rising is = record {
  added = map make partners;
  behind = is;
  exact = λ e. (
    (λ h. let found = from_mapped make partners e h in (found.0, found.2, (exact found.0).0 found.1)),
    (λ a. subst (Contains (map make partners)) (sym a.1) (mapped make partners a.0 ((exact a.0).1 a.2))),
  );
  once = once_mapped make one partners (AllPairs-from_increasing partners rising);
}

-- ---- the edges to the atoms before a number

abbrev pub IsAnswerBefore : (ℕ → ℕ → Edge) → AtomMap → List AtomRecord → ℕ → Edge → Type 0
IsAnswerBefore make index atoms count edge = (number : ℕ) × (number < count) × (given : AtomRecord) × (slice_get atoms number ≡ Some given) × IsAnswer (make number) index given edge

split : (n i : ℕ) → n < i + 1 → (n < i) ⊎ (n ≡ i)
split n i h = by_bool (nat_eq n i) ((n < i) ⊎ (n ≡ i)) (λ t. inr (same_number n i t)) (λ f. inl (let other : n ≢ i = other_number n i f in omega arith))

module _ (make : ℕ → ℕ → Edge) (index : AtomMap) (atoms : List AtomRecord) where
  pub none_before : (e : Edge) → IsAnswerBefore make index atoms 0 e → ⊥
  none_before e h = let low = h.1 in omega arith

  pub more_answers : (i : ℕ) (given : AtomRecord) (old mid new : List Edge) → ((m n k l : ℕ) → make m k ≡ make n l → m ≡ n) → slice_get atoms i ≡ Some given
      → Adds (IsAnswerBefore make index atoms i) old mid → Answers (make i) index given mid new → Adds (IsAnswerBefore make index atoms (i + 1)) old new
  more_answers i given old mid new one at before here = adds_both (IsAnswerBefore make index atoms i) (IsAnswer (make i) index given) (IsAnswerBefore make index atoms (i + 1)) old mid new before here
      (λ e a b. let low : a.0 < i = a.1 in let same : a.0 ≡ i = one a.0 i a.4.0 b.0 (sym a.4.1 ∙ b.1) in omega arith)
      (λ e a. (a.0, (let low : a.0 < i = a.1 in omega arith), a.2, a.3, a.4))
      (λ e b. (i, omega arith, given, at, b))
      (λ e r. elim (split r.0 i r.1) [
        | inl low ↦ inl (r.0, low, r.2, r.3, r.4)
        | inr same ↦ inr (let first : Some r.2 ≡ Some given = sym r.3 ∙ ap (slice_get atoms) same ∙ at in
            let atom : r.2 ≡ given = cc in (r.4.0, r.4.1 ∙ ap (λ n. make n r.4.0) same, subst (λ a. IsPartnerAt index a r.4.0) atom r.4.2))
      ])

  pub all_answers : (i : ℕ) (old new : List Edge) → length atoms ≤ i → Adds (IsAnswerBefore make index atoms i) old new → AnswersAll make index atoms old new
  all_answers i old new all h = adds_as (IsAnswerBefore make index atoms i) (IsAnswerTo make index atoms) old new h
      (λ e a. (a.0, a.2, a.3, a.4))
      (λ e a. (a.0, (let low = slice_get_within atoms a.0 a.1 a.2 in omega arith), a.1, a.2, a.3))

-- ---- an edge tells what it was made of

pub one_key : (side : Side) (place number k l : ℕ) → edge_of side place number k ≡ edge_of side place number l → k ≡ l
one_key Heads place number k l e =
    let quotient : k / MAX_ATOMS ≡ l / MAX_ATOMS = ap (λ (x : Edge). x.waiter) e in
    let rest : k % MAX_ATOMS ≡ l % MAX_ATOMS = ap (λ (x : Edge). x.post) e in
    omega arith
one_key Posts place number k l e =
    let quotient : k / MAX_ATOMS ≡ l / MAX_ATOMS = ap (λ (x : Edge). x.provider) e in
    let rest : k % MAX_ATOMS ≡ l % MAX_ATOMS = ap (λ (x : Edge). x.head) e in
    omega arith

pub one_number : (side : Side) (place m n k l : ℕ) → edge_of side place m k ≡ edge_of side place n l → m ≡ n
one_number Heads place m n k l e = ap (λ (x : Edge). x.head) e
one_number Posts place m n k l e = ap (λ (x : Edge). x.post) e
