-- What a caller of a matcher cites: that who is matched depends neither on the order nor on the numbers of the nodes; that nobody is matched by a node that is able no longer; and facts that hold of each of its nodes, kept while nodes come and go, and what such a fact says of a node that is there. And that in a sorted list the elements of one number are found by halving.
use Rattle.std.proofs.Common.{◌≡◌, ℕ, ◌<◌, Bool, true, false, if◌then◌else◌, eqb, nat_eq, List, [], ◌∷◌, length, zero, suc, refl, sym, ap, ◌∙◌, subst, arith}
use Rattle.std.specs.List.{All, Any, Contains}
use Rattle.std.specs.Set.{is_member}
use Rattle.std.proofs.lemmas.List.Elements.{All-nil, All-cons, All-head, All-tail, All-same, All-contains}
use Rattle.cq_atom.specs.declared.edge.Edge.{Edge}
use Rattle.cq_match.specs.Matched.{numbers, is_matched}
use Rattle.cq_match.specs.Matcher.{with_flag, without, with_number}
use Rattle.cq_match.proofs.Tests.{by_bool}
use Rattle.cq_match.proofs.Union.{member-contained}
use Rattle.cq_match.proofs.Bridge.{here-Contains, later-Contains, number-listed}
use Rattle.cq_match.proofs.Renaming.{matched-closed, closed-matched}
pub use Rattle.cq_match.proofs.Grouped.{between-by}
pub use Rattle.cq_match.proofs.Renaming.{renumbered, renamed, IsWithin, matched-reordered, matched-renamed, matched-known}

abbrev Nodes : Type 0
Nodes = List (ℕ × ℕ × Bool)

-- the number of a node that is there
pub has-number : (nodes : Nodes) (n : ℕ) → is_member nat_eq (numbers nodes) n ≡ true → Contains (numbers nodes) n
has-number nodes n there = member-contained (numbers nodes) n there

-- and where a node comes beside it
pub has-number-beside : (node : ℕ × ℕ × Bool) (nodes : Nodes) (n : ℕ) → is_member nat_eq (numbers nodes) n ≡ true → Contains (numbers (node ∷ nodes)) n
has-number-beside node nodes n there = later-Contains node.0 n (numbers nodes) (has-number nodes n there)

pub has-number-itself : (node : ℕ × ℕ × Bool) (nodes : Nodes) → Contains (numbers (node ∷ nodes)) node.0
has-number-itself node nodes = here-Contains node.0 (numbers nodes)

-- a node takes edges to a postcondition of it
abbrev pub Takes : ℕ → ℕ → ℕ × ℕ × Bool → Type 0
Takes n post node = (node.0 ≡ n) × (post < node.1)

pub takes-itself : (node : ℕ × ℕ × Bool) (nodes : Nodes) (post : ℕ) → post < node.1 → Any (Takes node.0 post) (node ∷ nodes)
takes-itself node nodes post low = (0, node, (let first : 0 < suc (length nodes) = omega arith in first), refl, (refl, low))

-- where each node has as many postconditions as a table says of its number, so has one that is there
pub takes-beside : (counts : ℕ → ℕ) (node : ℕ × ℕ × Bool) (nodes : Nodes) (n post : ℕ) → All (λ (x : ℕ × ℕ × Bool). x.1 ≡ counts x.0) nodes → is_member nat_eq (numbers nodes) n ≡ true → post < counts n
    → Any (Takes n post) (node ∷ nodes)
takes-beside counts node nodes n post all there low =
    let found = number-listed nodes n (has-number nodes n there) in
    let counted : found.0.1 ≡ counts found.0.0 = All-contains (λ (x : ℕ × ℕ × Bool). x.1 ≡ counts x.0) nodes found.0 all found.1 in
    let fits : post < found.0.1 = subst (λ (m : ℕ). post < m) (sym (counted ∙ ap counts found.2)) low in
    let inside : Contains (node ∷ nodes) found.0 = later-Contains node found.0 nodes found.1 in
    (inside.0, found.0, inside.1, inside.2, (found.2, fits))

module _ (P : ℕ × ℕ × Bool → Type 0) (n : ℕ) where
  -- what holds of the nodes of a number and of the others holds of all
  pub All-split : (nodes : Nodes) → All P (with_number n nodes) → All P (without n nodes) → All P nodes
  All-split [] one others = All-nil P
  All-split (x ∷ nodes) one others =
      by_bool (eqb x.0 n) (All P (x ∷ nodes))
      (λ t.
      let first : All P (x ∷ with_number n nodes) = rw t at one in
      let rest : All P (without n nodes) = rw t at others in
      All-cons P x nodes (All-head P x (with_number n nodes) first) (All-split nodes (All-tail P x (with_number n nodes) first) rest))
      (λ f.
      let rest : All P (with_number n nodes) = rw f at one in
      let first : All P (x ∷ without n nodes) = rw f at others in
      All-cons P x nodes (All-head P x (without n nodes) first) (All-split nodes rest (All-tail P x (without n nodes) first)))

  -- what holds of all holds of those that are left
  pub All-without : (nodes : Nodes) → All P nodes → All P (without n nodes)
  All-without [] all = All-nil P
  All-without (x ∷ nodes) all =
      let rest = All-without nodes (All-tail P x nodes all) in
      by_bool (eqb x.0 n) (All P (without n (x ∷ nodes)))
      (λ t. rw t rest)
      (λ f. rw f (All-cons P x (without n nodes) (All-head P x nodes all) rest))

  -- what is left has other numbers
  pub All-away : (Q : ℕ × ℕ × Bool → Type 0) → ((x : ℕ × ℕ × Bool) → eqb x.0 n ≡ false → Q x → P x) → (nodes : Nodes) → All Q (without n nodes) → All P (without n nodes)
  All-away Q step [] all = All-nil P
  All-away Q step (x ∷ nodes) all =
      by_bool (eqb x.0 n) (All P (without n (x ∷ nodes)))
      (λ t. let rest : All Q (without n nodes) = rw t at all in rw t (All-away Q step nodes rest))
      (λ f.
      let both : All Q (x ∷ without n nodes) = rw f at all in
      rw f (All-cons P x (without n nodes) (step x f (All-head Q x (without n nodes) both)) (All-away Q step nodes (All-tail Q x (without n nodes) both))))

  -- a node has come, as the clauses of `add` say: where the fact holds of it, and of others where another one did, it holds of all
  pub All-added : (Q : ℕ × ℕ × Bool → Type 0) → ((x : ℕ × ℕ × Bool) → eqb x.0 n ≡ false → Q x → P x) → (node : ℕ × ℕ × Bool) (before after : Nodes)
      → with_number n after ≡ node ∷ [] → without n after ≡ before → P node → All Q before → All P after
  All-added Q step node before after one others holds all =
      All-split after
      (All-same P (with_number n after) (node ∷ []) one (All-cons P node [] holds (All-nil P)))
      (All-away Q step after (All-same Q (without n after) before others all))

-- ---- a node is able no longer

abbrev flagged : ℕ → Bool → ℕ × ℕ × Bool → ℕ × ℕ × Bool
flagged n b node = (node.0, node.1, if eqb node.0 n then b else node.2)

flagged-numbers : (n : ℕ) (b : Bool) (nodes : Nodes) → numbers (with_flag n b nodes) ≡ numbers nodes
flagged-numbers n b [] = refl
flagged-numbers n b (x ∷ nodes) = ap (λ (ns : List ℕ). x.0 ∷ ns) (flagged-numbers n b nodes)

flagged-listed : (n : ℕ) (b : Bool) (nodes : Nodes) (node : ℕ × ℕ × Bool) → Contains nodes node → Contains (with_flag n b nodes) (flagged n b node)
flagged-listed n b [] node (k, low, at) = absurd (let none : k < 0 = low in omega arith)
flagged-listed n b (x ∷ nodes) node (zero, low, at) = subst (λ (y : ℕ × ℕ × Bool). Contains (flagged n b x ∷ with_flag n b nodes) (flagged n b y)) at (here-Contains (flagged n b x) (with_flag n b nodes))
flagged-listed n b (x ∷ nodes) node (suc k, low, at) =
    later-Contains (flagged n b x) (flagged n b node) (with_flag n b nodes) (flagged-listed n b nodes node (k, (let l : suc k < suc (length nodes) = low in omega arith), at))

was-able : (here able : Bool) → (if here then false else able) ≡ true → able ≡ true
was-able true able e = absurd (let never : false ≡ true = e in cc)
was-able false able e = e

-- Where a node is able no longer, nobody is matched who was not so before: a set that is closed then was closed before.
pub matched-lowered : (n : ℕ) (nodes : Nodes) (edges : List Edge) (k : ℕ) → is_matched (with_flag n false nodes) edges k ≡ true → is_matched nodes edges k ≡ true
matched-lowered n nodes edges k t =
    let c = matched-closed (with_flag n false nodes) edges k t in
    closed-matched nodes edges k (record {
      set = c.set;
      within = λ m s. subst (λ (ns : List ℕ). Contains ns m) (flagged-numbers n false nodes) (c.within m s);
      fits = λ node listed s.
          let fit = c.fits (flagged n false node) (flagged-listed n false nodes node listed) s in
          (was-able (eqb node.0 n) node.2 fit.0, fit.1);
      has = c.has;
    })
