-- The heads of pending queries by relation and arity, as they are kept.
use Rattle.std.specs.Prelude.{◌≡◌, ℕ, Bool, true, ◌&&◌, ◌==◌, nat_eq, List, [], ◌∷◌, length, map, if◌then◌else◌, Option, Some, None}
use Rattle.std.specs.HashMap.{HashMap, get_by}
use Rattle.std.specs.List.{All, flat_map, enumerate_from}
use Rattle.std.specs.Str.{bytes_eq}
use denote.Ref.{Bor}
use Rattle.cq_atom.specs.Atom.{AtomRecord}
use Rattle.cq_grounded.specs.Grounded.{GroundedMap}
use Rattle.cq_board.specs.declared.heads.Group.{Group}
use Rattle.cq_board.specs.Pool.{PendingQuery, name_of}
use Rattle.cq_board.specs.Steps.Linear.{IsLinear}
use Rattle.cq_board.specs.Steps.Nearest.{HeadRecord, head_read}
use Rattle.cq_board.specs.Steps.Stores.{query_at}

-- The atom has the relation and the arity.
abbrev pub is_of : List ℕ → ℕ → AtomRecord → Bool
is_of relation arity atom = bytes_eq atom.relation relation && (length atom.terms == arity)

-- The head, where it has the relation and the arity.
abbrev pub head_if : List ℕ → ℕ → ℕ → ℕ × AtomRecord → List HeadRecord
head_if relation arity number (place, atom) = if is_of relation arity atom then (number, place, atom) ∷ [] else []

-- Those of the query at a place, which has that number.
abbrev pub heads_at : List ℕ → ℕ → GroundedMap → ℕ × ℕ → List HeadRecord
heads_at relation arity grounded (number, place) = flat_map (head_if relation arity number) (enumerate_from 0 (query_at grounded place).heads)

-- Those of all pending queries.
abbrev pub heads_of : List ℕ → ℕ → List PendingQuery → List HeadRecord
heads_of relation arity pending = flat_map (λ p. flat_map (head_if relation arity p.0) (enumerate_from 0 p.1.query.heads)) (enumerate_from 0 pending)

-- ---- groups

-- Where the group says so, no variable stands twice in a head.
abbrev pub IsTold : {A : Type 0} → Group (Bor AtomRecord) A → Type 0
IsTold group = group.linear ≡ true → All (λ head. IsLinear head.atom.now.terms) group.heads.items

abbrev pub heads_in : {A : Type 0} → Option (Group (Bor AtomRecord) A) → List HeadRecord
heads_in None = []
heads_in (Some group) = map head_read group.heads.items

abbrev pub IsToldOf : {A : Type 0} → Option (Group (Bor AtomRecord) A) → Type 0
IsToldOf None = Unit {0}
IsToldOf (Some group) = IsTold group

-- The group of a relation and an arity.
abbrev pub group_at : {A S : Type 0} → HashMap (Bor (List ℕ) × ℕ) (Group (Bor AtomRecord) A) S → List ℕ → ℕ → Option (Group (Bor AtomRecord) A)
group_at groups relation arity = get_by (λ k. bytes_eq relation k.0.now && nat_eq arity k.1) groups

-- The heads that are kept under a relation and an arity.
abbrev pub kept_under : {A S : Type 0} → HashMap (Bor (List ℕ) × ℕ) (Group (Bor AtomRecord) A) S → List ℕ → ℕ → List HeadRecord
kept_under groups relation arity = heads_in (group_at groups relation arity)

abbrev pub AreTold : {A S : Type 0} → HashMap (Bor (List ℕ) × ℕ) (Group (Bor AtomRecord) A) S → Type 0
AreTold groups = (relation : List ℕ) (arity : ℕ) → IsToldOf (group_at groups relation arity)

-- The names and the heads of pending queries.
pub record AreHeads {A S : Type 0} (pending : List PendingQuery) (names : List (List ℕ)) (groups : HashMap (Bor (List ℕ) × ℕ) (Group (Bor AtomRecord) A) S) : Type 0 where
  pub named : names ≡ map name_of pending
  pub kept : (relation : List ℕ) (arity : ℕ) → kept_under groups relation arity ≡ heads_of relation arity pending
  pub told : AreTold groups
