-- The test of candidates, against the keys of buckets and against what it stands for.
use Rattle.std.proofs.Common.{◌≡◌, Bool, true, false, ◌&&◌, ◌||◌, nat_eq, length, Option, Some, None, is_some, refl, sym, ap, ◌∙◌, bytes_eq}
use Rattle.std.specs.Option.{option_map_or}
use Rattle.std.proofs.lemmas.Bool.Decides.{Decides-eqb}
use Rattle.std.proofs.lemmas.Slice.Eq.{bytes_eq-Decides}
use Rattle.cq_atom.specs.Value.{ValueContent}
use Rattle.cq_atom.specs.Atom.{AtomRecord}
use Rattle.cq_index.specs.declared.key.First.TheVariants.{Any, Variable, Constant}
use Rattle.cq_index.specs.Index.{first_constant, same_value, may_agree, is_candidate, IsCandidate}
use Rattle.cq_index.specs.Steps.Keys.{first_of, same_first, key_of, open_of, group_of}
use Rattle.cq_index.specs.Steps.Kept.{belongs}
use Rattle.cq_index.specs.Steps.Same.{by_bool, and_left, and_right, same_value-is, same_value-refl}

-- ---- by the keys

constant_first : (r n : Bool) (o : Option ValueContent) (v : ValueContent)
    → ((r && (n && same_first (first_of o) (Constant v)) || r && (n && same_first Any (Constant v))) || (r && (n && same_first (first_of o) Variable) || r && (n && same_first Any Variable))) ≡ (r && (n && may_agree o (Some v)))
constant_first false n o v = refl
constant_first true false o v = refl
constant_first true true None v = refl
constant_first true true (Some w) v = by_bool (same_value w v) _ (λ t. rw t refl) (λ f. rw f refl)

variable_first : (r n : Bool) (o : Option ValueContent) → (r && (n && same_first (first_of o) Any) || r && (n && same_first Any Any)) ≡ (r && (n && may_agree o None))
variable_first false n o = refl
variable_first true false o = refl
variable_first true true None = refl
variable_first true true (Some w) = refl

never_both : (r n : Bool) (o : Option ValueContent) (v : ValueContent)
    → (r && (n && same_first (first_of o) (Constant v)) || r && (n && same_first Any (Constant v))) ≡ true → (r && (n && same_first (first_of o) Variable) || r && (n && same_first Any Variable)) ≡ true → ⊥
never_both false n o v a b = cc
never_both true false o v a b = cc
never_both true true None v a b = cc
never_both true true (Some w) v a b = cc

some_first : (r n : Bool) (o f : Option ValueContent) → is_some f ≡ true
    → ((r && (n && same_first (first_of o) (first_of f)) || r && (n && same_first Any (first_of f))) || (r && (n && same_first (first_of o) Variable) || r && (n && same_first Any Variable))) ≡ (r && (n && may_agree o f))
some_first r n o None h = absurd cc
some_first r n o (Some v) h = constant_first r n o v

some_apart : (r n : Bool) (o f : Option ValueContent) → is_some f ≡ true
    → (r && (n && same_first (first_of o) (first_of f)) || r && (n && same_first Any (first_of f))) ≡ true → (r && (n && same_first (first_of o) Variable) || r && (n && same_first Any Variable)) ≡ true → ⊥
some_apart r n o None h = absurd cc
some_apart r n o (Some v) h = never_both r n o v

none_first : (r n : Bool) (o f : Option ValueContent) → is_some f ≡ false → (r && (n && same_first (first_of o) Any) || r && (n && same_first Any Any)) ≡ (r && (n && may_agree o f))
none_first r n o None h = variable_first r n o
none_first r n o (Some v) h = absurd cc

pub constant_members : (o : Option AtomRecord) (given : AtomRecord) → is_some (first_constant given) ≡ true
    → (belongs o (key_of given) || belongs o (open_of given)) ≡ option_map_or (is_candidate given) o false
constant_members None given some = refl
constant_members (Some a) given some =
    some_first (bytes_eq a.relation given.relation) (nat_eq (length a.terms) (length given.terms)) (first_constant a) (first_constant given) some

pub constant_apart : (o : Option AtomRecord) (given : AtomRecord) → is_some (first_constant given) ≡ true → belongs o (key_of given) ≡ true → belongs o (open_of given) ≡ true → ⊥
constant_apart None given some a b = cc
constant_apart (Some x) given some a b =
    some_apart (bytes_eq x.relation given.relation) (nat_eq (length x.terms) (length given.terms)) (first_constant x) (first_constant given) some a b

pub variable_members : (o : Option AtomRecord) (given : AtomRecord) → is_some (first_constant given) ≡ false
    → belongs o (group_of given) ≡ option_map_or (is_candidate given) o false
variable_members None given none = refl
variable_members (Some x) given none = none_first (bytes_eq x.relation given.relation) (nat_eq (length x.terms) (length given.terms)) (first_constant x) (first_constant given) none

-- ---- by what the test stands for

agree_of : (o f : Option ValueContent) → may_agree o f ≡ true → (v w : ValueContent) → o ≡ Some v → f ≡ Some w → v ≡ w
agree_of None f h v w a b = cc
agree_of (Some x) None h v w a b = cc
agree_of (Some x) (Some y) h v w a b = let e : x ≡ y = same_value-is x y h in cc

of_agree : (o f : Option ValueContent) → ((v w : ValueContent) → o ≡ Some v → f ≡ Some w → v ≡ w) → may_agree o f ≡ true
of_agree None f h = refl
of_agree (Some x) None h = refl
of_agree (Some x) (Some y) h = ap (same_value x) (sym (h x y refl refl)) ∙ same_value-refl x

pub candidate_of : (given a : AtomRecord) → is_candidate given a ≡ true → IsCandidate given a
candidate_of given a h =
    let rest = and_right (bytes_eq a.relation given.relation) _ h in
    record {
      relation = (bytes_eq-Decides a.relation given.relation).0 (and_left _ _ h);
      arity = (Decides-eqb (length a.terms) (length given.terms)).0 (and_left _ _ rest);
      first = agree_of (first_constant a) (first_constant given) (and_right (nat_eq (length a.terms) (length given.terms)) _ rest);
    }

pub of_candidate : (given a : AtomRecord) → IsCandidate given a → is_candidate given a ≡ true
of_candidate given a h =
    rw ((bytes_eq-Decides a.relation given.relation).1 h.relation, (Decides-eqb (length a.terms) (length given.terms)).1 h.arity, of_agree (first_constant a) (first_constant given) h.first) refl
