-- Atoms that make a query: few enough, and each variable bound.
use Rattle.std.proofs.Common.{◌≡◌, ℕ, suc, ◌+◌, ◌<◌, ◌≤◌, Bool, true, false, List, [], ◌∷◌, length, None, refl, sym, ◌∙◌, arith, inl, inr}
use Rattle.std.specs.Prelude.{not, nat_lt, ◌||◌, ◌&&◌}
use Rattle.std.specs.List.{list_any, position_or_len, list_all}
use Rattle.std.proofs.lemmas.Bool.{cases_lt, lt-ltb, le-ltb, le-leb}
use Rattle.cq_atom.specs.declared.fault.Part.{Part}
use Rattle.cq_atom.specs.declared.fault.Part.TheVariants.{Posts, Heads}
use Rattle.cq_atom.specs.Atom.{AtomRecord, TermContent}
use Rattle.cq_atom.specs.Query.{is_bound, binds_all, unbound_term, first_unbound, query_fault}
use Rattle.cq_text.specs.Steps.Binding.{binds_both}
use Rattle.cq_atom.specs.Limits.{max_atoms}

-- some term of the atom is a variable that the body lacks
abbrev pub has_unbound : List AtomRecord → AtomRecord → Bool
has_unbound body a = list_any (λ t. not (is_bound body t)) a.terms

-- the same of some of the atoms
abbrev pub have_unbound : List AtomRecord → List AtomRecord → Bool
have_unbound body atoms = list_any (λ a. has_unbound body a) atoms

neither : (a b c : Bool) → b ≡ not c → (a && b) ≡ not (not a || c)
neither true b c e = e
neither false b c e = refl

both_not : (a b c d : Bool) → a ≡ not c → b ≡ not d → (a && b) ≡ not (c || d)
both_not a b true d e f = rw e refl
both_not a b false d e f = rw e f

terms_all : (body : List AtomRecord) (ts : List TermContent) → list_all (is_bound body) ts ≡ not (list_any (λ t. not (is_bound body t)) ts)
terms_all body [] = refl
terms_all body (t ∷ ts) = neither (is_bound body t) (list_all (is_bound body) ts) (list_any (λ t. not (is_bound body t)) ts) (terms_all body ts)

bound_all : (body atoms : List AtomRecord) → binds_all body atoms ≡ not (have_unbound body atoms)
bound_all body [] = refl
bound_all body (a ∷ atoms) = both_not (list_all (is_bound body) a.terms) (binds_all body atoms) (has_unbound body a) (have_unbound body atoms) (terms_all body a.terms) (bound_all body atoms)

-- a body binds both lists just where neither lacks anything
pub bound_both : (body posts heads : List AtomRecord) → binds_both body posts heads ≡ not (have_unbound body posts || have_unbound body heads)
bound_both body posts heads = both_not (binds_all body posts) (binds_all body heads) (have_unbound body posts) (have_unbound body heads) (bound_all body posts) (bound_all body heads)

less_suc : (m n : ℕ) → nat_lt (1 + m) (suc n) ≡ nat_lt m n
less_suc m n = elim (cases_lt m n) [
  | inl lt ↦ let more : 1 + m < suc n = omega arith in rw (lt-ltb (1 + m) (suc n) more, lt-ltb m n lt) refl
  | inr ge ↦ let more : suc n ≤ 1 + m = omega arith in rw (le-ltb (1 + m) (suc n) more, le-ltb m n ge) refl
]

position_case : {X : Type 0} (p : X → Bool) (x : X) (xs : List X) (t : Bool) → p x ≡ t → nat_lt (position_or_len p xs) (length xs) ≡ list_any p xs → nat_lt (position_or_len p (x ∷ xs)) (length (x ∷ xs)) ≡ list_any p (x ∷ xs)
position_case p x xs true e ih = let lt : 0 < suc (length xs) = omega arith in rw e (lt-ltb 0 (suc (length xs)) lt)
position_case p x xs false e ih = rw e (less_suc (position_or_len p xs) (length xs) ∙ ih)

position_any : {X : Type 0} (p : X → Bool) (xs : List X) → nat_lt (position_or_len p xs) (length xs) ≡ list_any p xs
position_any p [] = refl
position_any p (x ∷ xs) = position_case p x xs (p x) refl (position_any p xs)

term_none : (body : List AtomRecord) (a : AtomRecord) → has_unbound body a ≡ false → unbound_term body a ≡ None
term_none body a e = rw (position_any (λ t. not (is_bound body t)) a.terms ∙ e) refl

or_none : (a b : Bool) → (a || b) ≡ false → (a ≡ false) × (b ≡ false)
or_none true b e = absurd cc
or_none false b e = (refl, e)

first_none : (part : Part) (body : List AtomRecord) (i : ℕ) (atoms : List AtomRecord) → have_unbound body atoms ≡ false → first_unbound part body i atoms ≡ None
first_none part body i [] e = refl
first_none part body i (a ∷ rest) e = let n = or_none (has_unbound body a) (have_unbound body rest) e in rw (term_none body a n.0, first_unbound) (first_none part body (i + 1) rest n.1)

lacks_none : (a b : Bool) → not (a || b) ≡ true → (a ≡ false) × (b ≡ false)
lacks_none false false e = (refl, refl)
lacks_none true b e = absurd cc
lacks_none false true e = absurd cc

pub no_refusal : (posts heads body : List AtomRecord) → length posts ≤ max_atoms → 1 ≤ length heads → length heads ≤ max_atoms → length body ≤ max_atoms → binds_both body posts heads ≡ true → query_fault posts heads body ≡ None
no_refusal posts [] body p some h b e = let never : ⊥ = omega arith in absurd never
no_refusal posts (x ∷ heads) body p some h b e =
    let n = lacks_none (have_unbound body posts) (have_unbound body (x ∷ heads)) (sym (bound_both body posts (x ∷ heads)) ∙ e) in
    rw (le-leb (length posts) max_atoms p, le-leb (length (x ∷ heads)) max_atoms h, le-leb (length body) max_atoms b) (rw (first_none Posts body 0 posts n.0) (first_none Heads body 0 (x ∷ heads) n.1))
