-- Heads by relation and arity are those that can miss, in posting order.
use Rattle.std.proofs.Common.{◌≡◌, ℕ, zero, suc, ◌+◌, ◌<◌, inl, inr, Bool, true, false, List, [], ◌∷◌, ◌++◌, length, map, get_or, refl, sym, ap, subst, ◌∙◌, arith}
use Rattle.std.specs.Prelude.{◌&&◌, ◌==◌, cond, nat_eq, not, Option, Some}
use Rattle.std.specs.HashMap.{HashMap, get_by}
use Rattle.std.specs.List.{AllPairs, flat_map, enumerate_from}
use Rattle.std.specs.Str.{bytes_eq}
use Rattle.std.proofs.lemmas.Bool.{eqb-true}
use Rattle.std.proofs.lemmas.Grind.{flat_map-append}
use Rattle.std.proofs.lemmas.Slice.Eq.{bytes_eq-Decides}
use denote.Ref.{Bor}
use Rattle.std.proofs.lemmas.List.{append-nil}
use Rattle.cq_atom.specs.Atom.{AtomRecord}
use Rattle.cq_grounded.specs.Grounded.{GroundedMap}
use Rattle.cq_roster.specs.Roster.{SeatRecord}
use Rattle.cq_board.specs.Near.{misses, miss_if, misses_of}
use Rattle.cq_board.specs.Pool.{PendingQuery}
use Rattle.cq_board.specs.Steps.Supply.{unifies}
use Rattle.cq_board.specs.declared.heads.Group.{Group}
use Rattle.cq_board.specs.Steps.Heads.{AreTold, group_at, head_if, heads_at, heads_in, heads_of, is_of, IsTold, IsToldOf, kept_under}
use Rattle.cq_board.specs.Steps.Nearest.{HeadRecord, IsEarlier, miss_at}
use Rattle.cq_board.specs.Steps.Residents.{queries_of}
use Rattle.cq_board.specs.Steps.Stores.{StoresRecord, residents_at, pending_of}
use Rattle.cq_board.proofs.Ends.{In-get_or}
use Rattle.cq_board.proofs.Members.{by_bool, In, In-map, In-flat_map_gives}
use Rattle.cq_board.proofs.Pairwise.{Pairwise, Pairwise-flat_map, enumerate-rises}

-- ---- the heads of all pending queries, from the seats

heads-from : (relation : List ℕ) (arity : ℕ) (m : GroundedMap) (seats : List SeatRecord) (n : ℕ)
    → flat_map (heads_at relation arity m) (enumerate_from n (map (λ s. s.place) seats)) ≡ flat_map (λ p. flat_map (head_if relation arity p.0) (enumerate_from 0 p.1.query.heads)) (enumerate_from n (queries_of (residents_at seats m)))
heads-from relation arity m [] n = refl
heads-from relation arity m (s ∷ seats) n = ap (λ ys. heads_at relation arity m (n, s.place) ++ ys) (heads-from relation arity m seats (n + 1))

pub heads-shown : (relation : List ℕ) (arity : ℕ) (content : StoresRecord)
    → flat_map (heads_at relation arity content.grounded) (enumerate_from 0 (map (λ s. s.place) content.seats)) ≡ heads_of relation arity (pending_of content)
heads-shown relation arity content = heads-from relation arity content.grounded content.seats 0

-- ---- those that miss

flat-flat : {X Y Z : Type 0} (g : Y → List Z) (f : X → List Y) (h : X → List Z) (xs : List X) → ((x : X) → flat_map g (f x) ≡ h x) → flat_map g (flat_map f xs) ≡ flat_map h xs
flat-flat g f h [] same = refl
flat-flat g f h (x ∷ xs) same =
    flat_map-append g (f x) (flat_map f xs) ∙ ap (λ zs. zs ++ flat_map g (flat_map f xs)) (same x) ∙ ap (λ zs. h x ++ zs) (flat-flat g f h xs same)

miss-if-of : (wanted : AtomRecord) (number : ℕ) (head : ℕ × AtomRecord) → flat_map (miss_at wanted) (head_if wanted.relation (length wanted.terms) number head) ≡ miss_if wanted number head
miss-if-of wanted number head =
    let atom = head.1 in
    by_bool (is_of wanted.relation (length wanted.terms) atom) (flat_map (miss_at wanted) (head_if wanted.relation (length wanted.terms) number head) ≡ miss_if wanted number head)
    (λ t. rw t (append-nil (miss_if wanted number head)))
    (λ f. let none : misses wanted atom ≡ false = no-miss (bytes_eq atom.relation wanted.relation) (length atom.terms == length wanted.terms) (not (unifies atom wanted)) f in rw (f, none) refl)
  where
    no-miss : (a b d : Bool) → (a && b) ≡ false → (a && (b && d)) ≡ false
    no-miss true true d e = cc
    no-miss true false d e = refl
    no-miss false b d e = refl

-- The heads of a postcondition's relation and arity that miss it are all that do.
pub misses-grouped : (wanted : AtomRecord) (pending : List PendingQuery) → flat_map (miss_at wanted) (heads_of wanted.relation (length wanted.terms) pending) ≡ misses_of wanted pending
misses-grouped wanted pending =
    flat-flat (miss_at wanted) (λ p. flat_map (head_if wanted.relation (length wanted.terms) p.0) (enumerate_from 0 p.1.query.heads)) (λ p. flat_map (miss_if wanted p.0) (enumerate_from 0 p.1.query.heads)) (enumerate_from 0 pending)
    (λ p. flat-flat (miss_at wanted) (head_if wanted.relation (length wanted.terms) p.0) (miss_if wanted p.0) (enumerate_from 0 p.1.query.heads) (miss-if-of wanted p.0))

-- ---- posting order

In-head_if : (relation : List ℕ) (arity number : ℕ) (head : ℕ × AtomRecord) (h : HeadRecord) → In h (head_if relation arity number head) → (h.0 ≡ number) × (h.1 ≡ head.0)
In-head_if relation arity number head h m =
    by_bool (is_of relation arity head.1) ((h.0 ≡ number) × (h.1 ≡ head.0))
    (λ t. elim (rw t at m) as (λ _. (h.0 ≡ number) × (h.1 ≡ head.0)) [ inl e ↦ (ap (λ x. x.0) e, ap (λ x. x.1) e) | inr never ↦ absurd never ])
    (λ f. absurd (rw f at m))

one-or-none : (relation : List ℕ) (arity number : ℕ) (head : ℕ × AtomRecord) → Pairwise IsEarlier (head_if relation arity number head)
one-or-none relation arity number head =
    by_bool (is_of relation arity head.1) (Pairwise IsEarlier (head_if relation arity number head))
    (λ t. rw t (λ y m. absurd m, tt))
    (λ f. rw f tt)

rising-of : (relation : List ℕ) (arity : ℕ) (p : ℕ × PendingQuery) → Pairwise IsEarlier (flat_map (head_if relation arity p.0) (enumerate_from 0 p.1.query.heads))
rising-of relation arity p =
    Pairwise-flat_map (λ (x z : ℕ × AtomRecord). x.0 < z.0) IsEarlier (head_if relation arity p.0) (enumerate_from 0 p.1.query.heads) (enumerate-rises 0 p.1.query.heads)
    (one-or-none relation arity p.0)
    (λ x z low y w m n.
    let one = In-head_if relation arity p.0 x y m in
    let other = In-head_if relation arity p.0 z w n in
    let below : y.1 < w.1 = subst (λ (k : ℕ). k < w.1) (sym one.1) (subst (λ (k : ℕ). x.0 < k) (sym other.1) low) in
    inr (one.0 ∙ sym other.0, below))

-- The heads of a relation and an arity stand in posting order.
pub heads-rise : (relation : List ℕ) (arity : ℕ) (pending : List PendingQuery) → Pairwise IsEarlier (heads_of relation arity pending)
heads-rise relation arity pending =
    Pairwise-flat_map (λ (p q : ℕ × PendingQuery). p.0 < q.0) IsEarlier (λ p. flat_map (head_if relation arity p.0) (enumerate_from 0 p.1.query.heads)) (enumerate_from 0 pending) (enumerate-rises 0 pending)
    (rising-of relation arity)
    (λ p q low y w m n.
    let from = In-flat_map_gives (head_if relation arity p.0) (enumerate_from 0 p.1.query.heads) y m in
    let to = In-flat_map_gives (head_if relation arity q.0) (enumerate_from 0 q.1.query.heads) w n in
    let one = In-head_if relation arity p.0 from.0 y from.2 in
    let other = In-head_if relation arity q.0 to.0 w to.2 in
    inl (subst (λ (k : ℕ). k < w.0) (sym one.0) (subst (λ (k : ℕ). p.0 < k) (sym other.0) low)))

pub pairs-read : {X : Type 0} (read : X → HeadRecord) (xs : List X) → Pairwise IsEarlier (map read xs) → AllPairs (λ x y. IsEarlier (read x) (read y)) xs
pairs-read read [] h i j d less within = absurd (let none : j < 0 = within in omega arith)
pairs-read read (x ∷ xs) h i zero d less within = absurd (omega arith)
pairs-read read (x ∷ xs) h zero (suc j) d less within = h.0 (read (get_or xs j d)) (In-map read xs (get_or xs j d) (In-get_or xs j d (let l : suc j < suc (length xs) = within in omega arith)))
pairs-read read (x ∷ xs) h (suc i) (suc j) d less within = pairs-read read xs h.1 i j d (omega arith) (let l : suc j < suc (length xs) = within in omega arith)

-- ---- groups of heads

abbrev Key : Type 0
Key = Bor (List ℕ) × ℕ

abbrev same_key : Key → Key → Bool
same_key q k = bytes_eq q.0.now k.0.now && nat_eq q.1 k.1

both-true : (b d : Bool) → (b && d) ≡ true → (b ≡ true) × (d ≡ true)
both-true true d e = (refl, e)
both-true false d e = cc

module _ {A S : Type 0} (m n : HashMap Key (Group (Bor AtomRecord) A) S) (key : Key) (atom : AtomRecord) (group : Group (Bor AtomRecord) A)
    (relation-is : key.0.now ≡ atom.relation) (arity-is : key.1 ≡ length atom.terms)
    (updates : (q : Key) → get_by (same_key q) n ≡ cond (same_key key q) (Some group) (get_by (same_key q) m)) where
  updated : (relation : List ℕ) (arity : ℕ) → group_at n relation arity ≡ cond (is_of relation arity atom) (Some group) (group_at m relation arity)
  updated relation arity =
      let q : Key = (record { ref_ptr = (0, 0); now = relation }, arity) in
      updates q
      ∙ ap (λ (r : List ℕ). cond (bytes_eq r relation && nat_eq key.1 arity) (Some group) (group_at m relation arity)) relation-is
      ∙ ap (λ (a : ℕ). cond (bytes_eq atom.relation relation && nat_eq a arity) (Some group) (group_at m relation arity)) arity-is

  -- the group has one more head
  pub kept-put : (number place : ℕ) → heads_in (Some group) ≡ kept_under m atom.relation (length atom.terms) ++ (number, place, atom) ∷ []
      → (relation : List ℕ) (arity : ℕ) → kept_under n relation arity ≡ kept_under m relation arity ++ head_if relation arity number (place, atom)
  kept-put number place more relation arity =
      by_bool (is_of relation arity atom) (kept_under n relation arity ≡ kept_under m relation arity ++ head_if relation arity number (place, atom))
      (λ t.
      let parts = both-true (bytes_eq atom.relation relation) (length atom.terms == arity) t in
      let named : atom.relation ≡ relation = (bytes_eq-Decides atom.relation relation).0 parts.0 in
      let many : length atom.terms ≡ arity = eqb-true (length atom.terms) arity parts.1 in
      let found : group_at n relation arity ≡ Some group = updated relation arity ∙ rw t refl in
      let under : kept_under m atom.relation (length atom.terms) ≡ kept_under m relation arity =
      ap (λ (r : List ℕ). kept_under m r (length atom.terms)) named ∙ ap (λ (a : ℕ). kept_under m relation a) many in
      ap heads_in found ∙ more ∙ ap (λ (hs : List HeadRecord). hs ++ (number, place, atom) ∷ []) under ∙ ap (λ (hs : List HeadRecord). kept_under m relation arity ++ hs) (rw t refl))
      (λ f.
      let found : group_at n relation arity ≡ group_at m relation arity = updated relation arity ∙ rw f refl in
      ap heads_in found ∙ sym (append-nil (kept_under m relation arity)) ∙ ap (λ (hs : List HeadRecord). kept_under m relation arity ++ hs) (rw f refl))

  pub told-put : AreTold m → IsTold group → AreTold n
  told-put all one relation arity =
      by_bool (is_of relation arity atom) (IsToldOf (group_at n relation arity))
      (λ t. let found : group_at n relation arity ≡ Some group = updated relation arity ∙ rw t refl in subst IsToldOf (sym found) one)
      (λ f. let found : group_at n relation arity ≡ group_at m relation arity = updated relation arity ∙ rw f refl in subst IsToldOf (sym found) (all relation arity))

-- the group that a key finds
pub group-found : {A S : Type 0} (m : HashMap Key (Group (Bor AtomRecord) A) S) (key : Key) (atom : AtomRecord) (o : Option (Group (Bor AtomRecord) A))
    → key.0.now ≡ atom.relation → key.1 ≡ length atom.terms → o ≡ get_by (same_key key) m → group_at m atom.relation (length atom.terms) ≡ o
group-found m key atom o relation-is arity-is is =
    sym (is ∙ ap (λ (r : List ℕ). group_at m r key.1) relation-is ∙ ap (λ (a : ℕ). group_at m atom.relation a) arity-is)
