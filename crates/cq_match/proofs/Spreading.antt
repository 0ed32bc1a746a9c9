-- Each graph has a falling list that no node can be put to, and it has all nodes that are not matched.
use Rattle.std.proofs.Common.{◌≡◌, ℕ, zero, suc, ◌+◌, ◌<◌, ◌≤◌, ◌↔◌, ◌⊎◌, inl, inr, Bool, true, false, not, cond, ◌||◌, eqb, List, [], ◌∷◌, ◌++◌, length, count_by, refl, sym, ap, ◌∙◌, subst, arith, nat_eq, eq-eqb}
use Rattle.std.specs.List.{All, Contains}
use Rattle.std.specs.Set.{is_member}
use Rattle.std.proofs.lemmas.List.{map-append}
use Rattle.std.proofs.lemmas.List.Folds.{list_any-append}
use Rattle.std.proofs.lemmas.List.Sums.{sum_by-cons, count_by-le-length}
use Rattle.cq_atom.specs.declared.edge.Edge.{Edge}
use Rattle.cq_match.specs.declared.falls.Fall.{Fall}
use Rattle.cq_match.specs.declared.falls.Reason.{Reason}
use Rattle.cq_match.specs.declared.falls.Reason.TheVariants.{NotAble, Unmet}
use Rattle.cq_match.specs.Falling.{is_unmet, HasReason, fallen, IsFalling, CanFall, IsUnmatched}
use Rattle.cq_match.proofs.Bridge.{here-Contains, later-Contains, none-Contains}
use Rattle.cq_match.proofs.Ranks.{Nodes}
use Rattle.cq_match.proofs.Reasons.{first-has, falling-unmatched}
use Rattle.cq_match.proofs.Rounds.{falling-append, unmatched-gone}
use Rattle.cq_match.proofs.Tests.{by_bool}
use Rattle.cq_match.proofs.Union.{HasEnds}

abbrev Node : Type 0
Node = ℕ × ℕ × Bool

-- ---- what is found or is not there

some-below : (test : ℕ → Bool) (n : ℕ) → ((k : ℕ) × (k < n) × (test k ≡ true)) ⊎ ((k : ℕ) → k < n → test k ≡ false)
some-below test zero = inr (λ k low. absurd (let none : k < 0 = low in omega arith))
some-below test (suc n) =
    by_bool (test 0) (((k : ℕ) × (k < suc n) × (test k ≡ true)) ⊎ ((k : ℕ) → k < suc n → test k ≡ false))
    (λ t. inl (0, (let low : 0 < suc n = omega arith in low), t))
    (λ f. elim (some-below (λ k. test (suc k)) n) [
      | inl found ↦ inl (suc found.0, (let low = found.1 in let more : suc found.0 < suc n = omega arith in more), found.2)
      | inr none ↦ inr (below test n f none)
    ])
  where
    below : (test : ℕ → Bool) (n : ℕ) → test 0 ≡ false → ((k : ℕ) → k < n → test (suc k) ≡ false) → (k : ℕ) → k < suc n → test k ≡ false
    below test n f none zero low = f
    below test n f none (suc k) low = none k (let less : suc k < suc n = low in omega arith)

abbrev Reasoned : (ℕ → Bool) → Node → Type 0
Reasoned unmet node = (r : Reason) × HasReason unmet node r

reason-or-none : (unmet : ℕ → Bool) (node : Node) → Reasoned unmet node ⊎ (Reasoned unmet node → ⊥)
reason-or-none unmet node =
    by_bool node.2 (Reasoned unmet node ⊎ (Reasoned unmet node → ⊥))
    (λ able. elim (some-below unmet node.1) [
      | inl found ↦ inl (Unmet found.0, (found.1, found.2))
      | inr none ↦ inr (λ h. against able none h.0 h.1)
    ])
    (λ down. inl (NotAble, down))
  where
    against : node.2 ≡ true → ((k : ℕ) → k < node.1 → unmet k ≡ false) → (r : Reason) → HasReason unmet node r → ⊥
    against able none NotAble down = absurd (let never : false ≡ true = sym down ∙ able in cc)
    against able none (Unmet k) (low, e) = absurd (let never : false ≡ true = sym (none k low) ∙ e in cc)

some-or-none : (P : Node → Type 0) → ((x : Node) → P x ⊎ (P x → ⊥)) → (xs : Nodes) → ((x : Node) × Contains xs x × P x) ⊎ ((x : Node) → Contains xs x → P x → ⊥)
some-or-none P each [] = inr (λ x h p. none-Contains x h)
some-or-none P each (y ∷ xs) =
    elim (each y) [
      | inl p ↦ inl (y, here-Contains y xs, p)
      | inr away ↦ elim (some-or-none P each xs) [
        | inl found ↦ inl (found.0, later-Contains y found.0 xs found.1, found.2)
        | inr none ↦ inr (here-or-later P y xs away none)
      ]
    ]
  where
    here-or-later : (P : Node → Type 0) (y : Node) (xs : Nodes) → (P y → ⊥) → ((x : Node) → Contains xs x → P x → ⊥) → (x : Node) → Contains (y ∷ xs) x → P x → ⊥
    here-or-later P y xs away none x (zero, low, at) p = away (subst P (sym at) p)
    here-or-later P y xs away none x (suc k, low, at) p = none x (k, (let l : suc k < suc (length xs) = low in omega arith), at) p

-- ---- what fewer pass

module _ (wide narrow : Node → Bool) (within : (x : Node) → narrow x ≡ true → wide x ≡ true) where
  abbrev one_if : Bool → ℕ
  one_if b = cond b 1 0

  one-less : (x : Node) → one_if (narrow x) ≤ one_if (wide x)
  one-less x =
      by_bool (narrow x) (one_if (narrow x) ≤ one_if (wide x))
      (λ t. rw (t, within x t) (let l : 1 ≤ 1 = omega arith in l))
      (λ f. rw f (let l : 0 ≤ one_if (wide x) = omega arith in l))

  fewer : (xs : Nodes) → count_by narrow xs ≤ count_by wide xs
  fewer [] = let l : 0 ≤ 0 = omega arith in l
  fewer (x ∷ xs) =
      let a = sum_by-cons (λ y. cond (narrow y) 1 0) x xs in
      let b = sum_by-cons (λ y. cond (wide y) 1 0) x xs in
      let here = one-less x in
      let rest = fewer xs in
      omega arith

  count-drops : (xs : Nodes) (x : Node) → Contains xs x → wide x ≡ true → narrow x ≡ false → count_by narrow xs + 1 ≤ count_by wide xs
  count-drops [] x h t f = absurd (none-Contains x h)
  count-drops (y ∷ xs) x (zero, low, at) t f =
      let a = sum_by-cons (λ z. cond (narrow z) 1 0) y xs in
      let b = sum_by-cons (λ z. cond (wide z) 1 0) y xs in
      let out : one_if (narrow y) ≡ 0 = ap one_if (ap narrow at ∙ f) in
      let in_ : one_if (wide y) ≡ 1 = ap one_if (ap wide at ∙ t) in
      let rest = fewer xs in
      omega arith
  count-drops (y ∷ xs) x (suc k, low, at) t f =
      let a = sum_by-cons (λ z. cond (narrow z) 1 0) y xs in
      let b = sum_by-cons (λ z. cond (wide z) 1 0) y xs in
      let here = one-less y in
      let rest = count-drops xs x (k, (let l : suc k < suc (length xs) = low in omega arith), at) t f in
      omega arith

module _ (nodes : Nodes) (edges : List Edge) where
  -- the node has not fallen, and has a reason
  abbrev Falls : List ℕ → Node → Type 0
  Falls gone node = (is_member nat_eq gone node.0 ≡ false) × Reasoned (is_unmet edges gone node.0) node

  falls-or-not : (gone : List ℕ) (node : Node) → Falls gone node ⊎ (Falls gone node → ⊥)
  falls-or-not gone node =
      by_bool (is_member nat_eq gone node.0) (Falls gone node ⊎ (Falls gone node → ⊥))
      (λ t. inr (λ h. absurd (let never : false ≡ true = sym h.0 ∙ t in cc)))
      (λ f. elim (reason-or-none (is_unmet edges gone node.0) node) [ inl r ↦ inl (f, r) | inr none ↦ inr (λ h. none h.1) ])

  abbrev stays : List ℕ → Node → Bool
  stays gone node = not (is_member nat_eq gone node.0)

  -- one node more
  abbrev longer : List Fall → Node → Reason → List Fall
  longer falls node r = falls ++ record { node = node.0; reason = r } ∷ []

  -- a falling list that no node can be put to
  pub record Whole (falls : List Fall) : Type 0 where
    pub falling : IsFalling nodes edges falls
    pub none : (node : Node) → Contains nodes node → Falls (fallen falls) node → ⊥

  longer-falling : (falls : List Fall) (node : Node) (r : Reason) → IsFalling nodes edges falls → Contains nodes node → HasReason (is_unmet edges (fallen falls) node.0) node r → IsFalling nodes edges (longer falls node r)
  longer-falling falls node r h (k, low, at) has =
      falling-append nodes edges [] falls (record { node = node.0; reason = r } ∷ []) h ((k, node, low, at, (refl, has)), tt)

  longer-member : (falls : List Fall) (node : Node) (r : Reason) (n : ℕ) → is_member nat_eq (fallen (longer falls node r)) n ≡ (is_member nat_eq (fallen falls) n || (eqb n node.0 || false))
  longer-member falls node r n =
      ap (λ (xs : List ℕ). is_member nat_eq xs n) (map-append (λ (x : Fall). x.node) falls (record { node = node.0; reason = r } ∷ [])) ∙ list_any-append (eqb n) (fallen falls) (node.0 ∷ [])

  longer-fewer : (falls : List Fall) (node : Node) (r : Reason) → Contains nodes node → is_member nat_eq (fallen falls) node.0 ≡ false
      → count_by (stays (fallen (longer falls node r))) nodes + 1 ≤ count_by (stays (fallen falls)) nodes
  longer-fewer falls node r listed out =
      let more = fallen (longer falls node r) in
      count-drops (stays (fallen falls)) (stays more)
      (λ x e. by_bool (is_member nat_eq (fallen falls) x.0) (stays (fallen falls) x ≡ true)
      (λ t. absurd (let never : false ≡ true = sym (ap not (longer-member falls node r x.0 ∙ ap (λ (b : Bool). b || (eqb x.0 node.0 || false)) t)) ∙ e in cc))
      (λ f. ap not f))
      nodes node listed (ap not out)
      (ap not (longer-member falls node r node.0 ∙ ap (λ (b : Bool). b || (eqb node.0 node.0 || false)) out ∙ ap (λ (b : Bool). b || false) (eq-eqb node.0 node.0 refl)))

  grow : (fuel : ℕ) (falls : List Fall) → IsFalling nodes edges falls → count_by (stays (fallen falls)) nodes ≤ fuel → (all : List Fall) × Whole all
  grow zero falls h less =
      elim (some-or-none (Falls (fallen falls)) (falls-or-not (fallen falls)) nodes) [
        | inr none ↦ (falls, record { falling = h; none = none })
        | inl found ↦ absurd (let drops = longer-fewer falls found.0 found.2.1.0 found.1 found.2.0 in omega arith)
      ]
  grow (suc fuel) falls h less =
      elim (some-or-none (Falls (fallen falls)) (falls-or-not (fallen falls)) nodes) [
        | inr none ↦ (falls, record { falling = h; none = none })
        | inl found ↦ grow fuel (longer falls found.0 found.2.1.0) (longer-falling falls found.0 found.2.1.0 h found.1 found.2.1.1)
            (let drops = longer-fewer falls found.0 found.2.1.0 found.1 found.2.0 in omega arith)
      ]

  -- A node is not matched exactly where some falling list has it.
  pub unmatched-law : All (HasEnds nodes) edges → (n : ℕ) → IsUnmatched nodes edges n ↔ CanFall nodes edges n
  unmatched-law ends n =
      let whole = grow (length nodes) [] tt (count_by-le-length (stays []) nodes) in (
        λ h. record {
          falls = whole.0;
          falling = whole.1.falling;
          has = unmatched-gone nodes edges (fallen whole.0) ends
              (λ node r listed out first. whole.1.none node listed (out, (r, first-has (is_unmet edges (fallen whole.0) node.0) node r first))) n h;
        },
        λ h. falling-unmatched nodes edges h.falls h.falling n h.has,
      )
