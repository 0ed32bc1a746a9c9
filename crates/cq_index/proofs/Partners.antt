-- Who unifies, place by place.
use Rattle.std.proofs.Common.{◌≡◌, ◌↔◌, ℕ, ◌<◌, Bool, true, false, nat_eq, List, [], ◌∷◌, map, length, get_or, Contains, IsTrue, Option, Some, None, is_some, refl, sym, ap, subst, ◌∙◌}
use Rattle.std.specs.List.{list_any}
use Rattle.std.specs.Option.{option_map_or, option_copied}
use Rattle.std.proofs.Math.ListN.{length-map}
use Rattle.std.proofs.lemmas.List.Elements.{Contains-get_or}
use Rattle.std.specs.Borrow.{Bor}
use Rattle.std.specs.Ordering.{nat_cmp}
use Rattle.std.specs.FinMap.{FinMap, from_entries, get}
use Rattle.cq_atom.specs.declared.term.TermKind.TheVariants.{Constant, Variable}
use Rattle.cq_atom.specs.Value.{ValueContent}
use Rattle.cq_atom.specs.Atom.{TermContent, AtomRecord}
use Rattle.cq_atom.specs.Valuation.{Bindings, term_under, under}
use Rattle.cq_atom.specs.Unify.{Unify}
use Rattle.cq_index.specs.Index.{leading_constant, is_candidate, candidates_of, IsCandidate, IsCandidateAt, IsPartnerAt}
use Rattle.cq_index.specs.Steps.Kept.{atom_at}
use Rattle.cq_index.proofs.Views.{get-view}
use Rattle.cq_index.proofs.Candidates.{of_candidate}
use Rattle.cq_index.proofs.Listed.{candidates_members}

pub some_copied : {X : Type 0} (r : Option (Bor X)) (o : Option X) → option_copied r ≡ o → is_some o ≡ true → is_some r ≡ true
some_copied None o e h = let no : is_some o ≡ false = ap is_some (sym e) in cc
some_copied (Some x) o e h = refl

pub partner_at : (es : List (ℕ × AtomRecord)) (m : FinMap nat_cmp AtomRecord) (p : ℕ) → from_entries es ≡ m → (x : AtomRecord) (given : AtomRecord) (Says : Type 0)
    → atom_at es p ≡ Some x → Says ↔ Unify given x → Says ↔ IsPartnerAt m given p
partner_at es m p is x given Says at says =
    let here : get m p ≡ Some x = sym (sym (get-view es p) ∙ ap (λ n. get n p) is) ∙ at in (
      (λ h. (x, here, says.0 h)),
      (λ k. let same : x ≡ k.0 = (let e : Some x ≡ Some k.0 = sym here ∙ k.1 in cc) in says.1 (subst (λ a. Unify given a) (sym same) k.2)),
    )

-- ---- atoms that unify are candidates

heads : (l r : Bindings) (ts ss : List TermContent) → map (term_under l) ts ≡ map (term_under r) ss → (v w : ValueContent) → leading_constant ts ≡ Some v → leading_constant ss ≡ Some w → v ≡ w
heads l r [] ss e v w a b = cc
heads l r (t ∷ ts) [] e v w a b = cc
heads l r (Variable x ∷ ts) (s ∷ ss) e v w a b = cc
heads l r (Constant c ∷ ts) (Variable y ∷ ss) e v w a b = cc
heads l r (Constant c ∷ ts) (Constant d ∷ ss) e v w a b = let same : c ≡ d = cc in cc

pub candidate_from_unify : (given a : AtomRecord) → Unify given a → IsCandidate given a
candidate_from_unify given a u =
    let same : under u.right a ≡ under u.left given = u.from_right ∙ sym u.from_left in
    let terms : map (term_under u.right) a.terms ≡ map (term_under u.left) given.terms = ap (λ (x : AtomRecord). x.terms) same in
    record {
      relation = ap (λ (x : AtomRecord). x.relation) same;
      arity = sym (length-map a.terms (term_under u.right)) ∙ ap length terms ∙ length-map given.terms (term_under u.left);
      first = heads u.right u.left a.terms given.terms terms;
    }

pub partner_is_candidate : (m : FinMap nat_cmp AtomRecord) (given : AtomRecord) (p : ℕ) → IsPartnerAt m given p → list_any (nat_eq p) (candidates_of m given) ≡ true
partner_is_candidate m given p h = candidates_members m given p ∙ ap (λ o. option_map_or (is_candidate given) o false) h.1 ∙ of_candidate given h.0 (candidate_from_unify given h.0 h.2)

-- ---- a candidate stands somewhere

pub some_at : (m : FinMap nat_cmp AtomRecord) (given : AtomRecord) (xs : List ℕ) (i : ℕ) → i < length xs → ((p : ℕ) → Contains xs p ↔ IsCandidateAt m given p) → is_some (get m (get_or xs i 0)) ≡ true
some_at m given xs i h exact = ap is_some ((exact (get_or xs i 0)).0 (Contains-get_or xs i 0 h)).1

pub passed_over : {P : Type 0} (b : Bool) → IsTrue b ↔ P → b ≡ false → P → ⊥
passed_over true says f p = cc
passed_over false says f p = let t : false ≡ true = says.1 p in cc
