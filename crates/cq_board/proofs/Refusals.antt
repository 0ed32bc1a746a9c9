-- Why atoms do not fit the catalog, one atom after another.
use Rattle.std.proofs.Common.{◌≡◌, ℕ, ◌+◌, ◌<◌, ◌≤◌, Bool, true, false, if◌then◌else◌, List, length, drop, get_or, refl, sym, ap, ◌∙◌, Option, Some, None}
use Rattle.std.proofs.lemmas.Bool.{le-leb, lt-leb}
use Rattle.std.proofs.lemmas.List.{drop_all}
use Rattle.std.specs.Bool.{then_some}
use Rattle.std.specs.Option.{is_some}
use Rattle.cq_atom.specs.declared.fault.Part.{Part}
use Rattle.cq_atom.specs.Atom.{AtomRecord, TermContent}
use Rattle.cq_atom.specs.Query.{QueryRecord}
use Rattle.cq_atom.specs.declared.edit.EditKind.TheVariants.{Post}
use Rattle.cq_rel.specs.Tables.{Declaration, arity_in}
use Rattle.cq_board.specs.declared.edit.Why.{Why}
use Rattle.cq_board.specs.declared.edit.Why.TheVariants.{NotAnswer, NameTaken, PoolFull}
use Rattle.cq_board.specs.Pool.{PoolRecord, is_declared}
use Rattle.cq_board.specs.Edits.{first_of, answer_why, arity_why, body_why, is_taken, query_why, why}
use Rattle.cq_board.proofs.Places.{drop-at}

-- what the catalog's answer tells of a relation
pub declared_as : (catalog : List Declaration) (named relation : List ℕ) (o : Option ℕ) (r : Bool) → named ≡ relation → o ≡ arity_in catalog named → r ≡ is_some o → is_declared catalog relation ≡ r
declared_as catalog named relation o r e f h = ap (is_declared catalog) (sym e) ∙ (ap is_some (sym f) ∙ sym h)

module _ (catalog : List Declaration) (part : Part) (atoms : List AtomRecord) (i : ℕ) (so_far : answer_why catalog part 0 atoms ≡ answer_why catalog part i (drop i atoms)) where
  pub answer_next : (a : AtomRecord) → i < length atoms → a ≡ get_or atoms i a → is_declared catalog a.relation ≡ false → answer_why catalog part 0 atoms ≡ answer_why catalog part (i + 1) (drop (i + 1) atoms)
  answer_next a h is f = so_far ∙ ap (answer_why catalog part i) (drop-at atoms i a h is) ∙ rw f refl

  pub answer_found : (a : AtomRecord) → i < length atoms → a ≡ get_or atoms i a → is_declared catalog a.relation ≡ true → Some (NotAnswer part i) ≡ answer_why catalog part 0 atoms
  answer_found a h is t = sym (so_far ∙ ap (answer_why catalog part i) (drop-at atoms i a h is) ∙ rw t refl)

  pub answer_end : length atoms ≤ i → None ≡ answer_why catalog part 0 atoms
  answer_end h = sym (so_far ∙ ap (answer_why catalog part i) (drop_all i atoms h))

-- what is reported about one atom, by its parts
pub arity_as : (catalog : List Declaration) (named : List ℕ) (terms : List TermContent) (a : AtomRecord) (place : ℕ) (r : Option Why) → named ≡ a.relation → terms ≡ a.terms → r ≡ arity_why (arity_in catalog named) (length terms) place
    → arity_why (arity_in catalog a.relation) (length a.terms) place ≡ r
arity_as catalog named terms a place r e f h =
    ap (λ (x : List ℕ). arity_why (arity_in catalog x) (length a.terms) place) (sym e) ∙ ap (λ (ts : List TermContent). arity_why (arity_in catalog named) (length ts) place) (sym f) ∙ sym h

module _ (catalog : List Declaration) (atoms : List AtomRecord) (i : ℕ) (so_far : body_why catalog 0 atoms ≡ body_why catalog i (drop i atoms)) where
  pub body_next : (a : AtomRecord) → i < length atoms → a ≡ get_or atoms i a → arity_why (arity_in catalog a.relation) (length a.terms) i ≡ None → body_why catalog 0 atoms ≡ body_why catalog (i + 1) (drop (i + 1) atoms)
  body_next a h is e = so_far ∙ ap (body_why catalog i) (drop-at atoms i a h is) ∙ ap (λ o. first_of o (body_why catalog (i + 1) (drop (i + 1) atoms))) e

  pub body_found : (a : AtomRecord) (reason : Why) → i < length atoms → a ≡ get_or atoms i a → arity_why (arity_in catalog a.relation) (length a.terms) i ≡ Some reason → Some reason ≡ body_why catalog 0 atoms
  body_found a reason h is e = sym (so_far ∙ ap (body_why catalog i) (drop-at atoms i a h is) ∙ ap (λ o. first_of o (body_why catalog (i + 1) (drop (i + 1) atoms))) e)

  pub body_end : length atoms ≤ i → None ≡ body_why catalog 0 atoms
  body_end h = sym (so_far ∙ ap (body_why catalog i) (drop_all i atoms h))

pub told-if : (b : Bool) (reason : Why) → then_some b reason ≡ (if b then Some reason else None)
told-if true reason = refl
told-if false reason = refl

-- the tests of a query that comes, in their order
module _ (pool : PoolRecord) (name : List ℕ) (query : QueryRecord) where
  pub pool-full : pool.limits.pool ≤ length pool.pending → Some PoolFull ≡ why pool (Post name query)
  pool-full h = sym (ap (λ (full : Bool). if full then Some PoolFull else (if is_taken name pool.pending then Some NameTaken else query_why pool.tables.catalog query)) (le-leb pool.limits.pool (length pool.pending) h))

  pub with-room : length pool.pending < pool.limits.pool → (taken : Bool) → taken ≡ is_taken name pool.pending → (if taken then Some NameTaken else query_why pool.tables.catalog query) ≡ why pool (Post name query)
  with-room h taken is =
      sym (ap (λ (full : Bool). if full then Some PoolFull else (if is_taken name pool.pending then Some NameTaken else query_why pool.tables.catalog query)) (lt-leb pool.limits.pool (length pool.pending) h)
      ∙ ap (λ (b : Bool). if b then Some NameTaken else query_why pool.tables.catalog query) (sym is))
