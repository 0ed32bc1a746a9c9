-- What one merge of two labels does.
use Rattle.std.proofs.Common.{◌≤◌, below_more, ◌≡◌, ℕ, ◌<◌, ◌+◌, ◌==◌, Bool, true, false, List, length, refl, sym, ap, ◌∙◌, subst, arith}
use Rattle.std.proofs.lemmas.Bool.{eqb-true, eq-eqb, ltb-true}
use Rattle.std.proofs.lemmas.Bool.Decides.{nat_tests}
use Rattle.std.proofs.Math.Dec.{ltb}
use Rattle.cq_atom.specs.Value.{ValueContent}
use Rattle.cq_atom.specs.Atom.{TermContent}
use Rattle.cq_atom.specs.Steps.Labels.{label_at, term_at, relabel, Merged, Respects, SameVariable, Tied, Ties, EndsAt, EndsBelow}

by_bool : (b : Bool) (P : Type 0) → (b ≡ true → P) → (b ≡ false → P) → P
by_bool true P f g = f refl
by_bool false P f g = g refl

relabel_hit : (from to l : ℕ) → l ≡ from → relabel from to l ≡ to
relabel_hit from to l e = rw (eq-eqb l from e) refl

relabel_miss : (from to l : ℕ) → (l == from) ≡ false → relabel from to l ≡ l
relabel_miss from to l e = rw e refl

module _ (ls now : List ℕ) (i j : ℕ) (p : i < length ls) (q : j < length ls) (m : Merged ls now (label_at ls j) (label_at ls i)) where
  abbrev from : ℕ
  from = label_at ls j

  abbrev to : ℕ
  to = label_at ls i

  pub merged_keeps : (a b : ℕ) → a < length ls → b < length ls → label_at ls a ≡ label_at ls b → label_at now a ≡ label_at now b
  merged_keeps a b p' q' e = m.each a p' ∙ ap (relabel from to) e ∙ sym (m.each b q')

  keeps_to : relabel from to to ≡ to
  keeps_to = by_bool (to == from) (relabel from to to ≡ to) (λ e. rw e refl) (λ e. rw e refl)

  pub merged_joins : label_at now i ≡ label_at now j
  merged_joins = m.each i p ∙ keeps_to ∙ sym (relabel_hit from to from refl) ∙ sym (m.each j q)

  -- a place's value is that of the place whose label it took
  stands : (z : ℕ → ValueContent) → Respects ls z → z i ≡ z j → (a : ℕ) → a < length ls → (b : ℕ) → b < length ls → relabel from to (label_at ls a) ≡ relabel from to (label_at ls b) → z a ≡ z b
  stands z r e a ha b hb same =
      by_bool (label_at ls a == from) (z a ≡ z b)
      (λ at. let a_j : label_at ls a ≡ label_at ls j = eqb-true (label_at ls a) from at in
      by_bool (label_at ls b == from) (z a ≡ z b)
      (λ bt. r a b ha hb (a_j ∙ sym (eqb-true (label_at ls b) from bt)))
      (λ bf. r a j ha q a_j ∙ sym e ∙ r i b p hb (sym (relabel_hit from to (label_at ls a) a_j) ∙ same ∙ relabel_miss from to (label_at ls b) bf)))
      (λ af. by_bool (label_at ls b == from) (z a ≡ z b)
      (λ bt. let b_j : label_at ls b ≡ label_at ls j = eqb-true (label_at ls b) from bt in
      r a i ha p (sym (relabel_miss from to (label_at ls a) af) ∙ same ∙ relabel_hit from to (label_at ls b) b_j) ∙ e ∙ r j b q hb (sym b_j))
      (λ bf. r a b ha hb (sym (relabel_miss from to (label_at ls a) af) ∙ same ∙ relabel_miss from to (label_at ls b) bf)))

  pub merged_least : (z : ℕ → ValueContent) → Respects ls z → z i ≡ z j → Respects now z
  merged_least z r e a b ha hb same =
      let ha' : a < length ls = subst (λ n. a < n) m.size ha in
      let hb' : b < length ls = subst (λ n. b < n) m.size hb in
      stands z r e a ha' b hb' (sym (m.each a ha') ∙ same ∙ m.each b hb')

module _ (old now : List ℕ) (xs : List TermContent) (fits : length xs ≤ length now) (i j : ℕ) (below : i < j) (inside : j < length xs) where
  module _ (t : Ties old now xs (EndsAt j i)) where
    -- a pair that is not tied needs nothing
    pub Ties-skip : (SameVariable (term_at xs i) (term_at xs j) → ⊥) → Ties old now xs (EndsAt j (i + 1))
    Ties-skip other = record {
      size = t.size;
      keeps = t.keeps;
      least = t.least;
      ties = λ a b p tied. below_more (λ a. Tied xs a b → label_at now a ≡ label_at now b) i
          (λ a h. t.ties a b (p.0, h))
          (λ k. absurd (other (subst (λ n. SameVariable (term_at xs i) (term_at xs n)) p.0 k.variable)))
          a p.1 tied;
    }

    pub Ties-merge : (next : List ℕ) → Merged now next (label_at now j) (label_at now i) → SameVariable (term_at xs i) (term_at xs j) → Ties old next xs (EndsAt j (i + 1))
    Ties-merge next m same =
        let i_in : i < length now = omega arith in
        let j_in : j < length now = omega arith in
        let tied : Tied xs i j = record { first_in = omega arith; second_in = inside; variable = same } in
        record {
          size = m.size ∙ t.size;
          keeps = λ a b p q e. let p' : a < length now = subst (λ n. a < n) (sym t.size) p in let q' : b < length now = subst (λ n. b < n) (sym t.size) q in
              merged_keeps now next i j i_in j_in m a b p' q' (t.keeps a b p q e);
          least = λ z r rt. merged_least now next i j i_in j_in m z (t.least z r rt) (rt i j tied);
          ties = λ a b p tied'. below_more (λ a. Tied xs a b → label_at next a ≡ label_at next b) i
              (λ a h k. merged_keeps now next i j i_in j_in m a b (let a_in : a < length xs = k.first_in in omega arith) (let b_in : b < length xs = k.second_in in omega arith) (t.ties a b (p.0, h) k))
              (λ k. merged_joins now next i j i_in j_in m ∙ ap (label_at next) (sym p.0))
              a p.1 tied';
        }

-- first these pairs, and then those
pub Ties-then : (old now next : List ℕ) (xs : List TermContent) (j : ℕ) → length xs ≤ length old → Ties old now xs (EndsBelow j) → Ties now next xs (EndsAt j j) → Ties old next xs (EndsBelow (j + 1))
Ties-then old now next xs j fits t u = record {
  size = u.size ∙ t.size;
  keeps = λ a b p q e. u.keeps a b (subst (λ n. a < n) (sym t.size) p) (subst (λ n. b < n) (sym t.size) q) (t.keeps a b p q e);
  least = λ z r rt. u.least z (t.least z r rt) rt;
  ties = λ a b p tied. below_more (λ b. a < b → Tied xs a b → label_at next a ≡ label_at next b) j
      (λ b h lt k.
      let a_in : a < length xs = k.first_in in
      let b_in : b < length xs = k.second_in in
      let s : length now ≡ length old = t.size in
      u.keeps a b (omega arith) (omega arith) (t.ties a b (lt, h) k))
      (λ lt k. u.ties a j (refl, lt) k)
      b p.1 p.0 tied;
}

pub Ties-none : (old : List ℕ) (xs : List TermContent) (P : ℕ → ℕ → Type 0) → ((a b : ℕ) → P a b → ⊥) → Ties old old xs P
Ties-none old xs P none = record { size = refl; keeps = λ a b p q e. e; least = λ z r rt. r; ties = λ a b p. absurd (none a b p) }

pub tied_back : (xs : List TermContent) (i j : ℕ) → Tied xs i j → Tied xs j i
tied_back xs i j t = record { first_in = t.second_in; second_in = t.first_in; variable = record { name = t.variable.name; first = t.variable.second; second = t.variable.first } }

-- ties of rising pairs are ties of all pairs
pub all_ties : (now : List ℕ) (xs : List TermContent) → ((a b : ℕ) → EndsBelow (length xs) a b → Tied xs a b → label_at now a ≡ label_at now b) → (i j : ℕ) → Tied xs i j → label_at now i ≡ label_at now j
all_ties now xs ties i j t =
    let i_in : i < length xs = t.first_in in
    let j_in : j < length xs = t.second_in in
    by_bool (ltb i j) (label_at now i ≡ label_at now j)
    (λ e. ties i j (ltb-true i j e, j_in) t)
    (λ e. by_bool (ltb j i) (label_at now i ≡ label_at now j)
    (λ k. sym (ties j i (ltb-true j i k, i_in) (tied_back xs i j t)))
    (λ k. let same : i ≡ j = grind (arith, nat_tests) in ap (label_at now) same))
