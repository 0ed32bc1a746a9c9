-- Catalogs: what a declaration adds, and what a look-up says.
use Rattle.std.proofs.Common.{◌≡◌, ◌<◌, ◌≤◌, ◌&&◌, ℕ, Bool, true, false, not, nat_lt, nat_le, get_or, subst, List, [], ◌∷◌, ◌++◌, length, map, refl, Option, Some, None, Ok, if◌then◌else◌, arith, sym, ◌∙◌, ap, length-append}
use Rattle.std.specs.List.{IsDistinct, list_any}
use Rattle.std.specs.Str.{bytes_eq}
use Rattle.std.proofs.lemmas.Bool.{leb-true}
use Rattle.std.proofs.lemmas.Cmp.{nat_list_eq_equiv}
use Rattle.std.proofs.lemmas.List.Elements.{All-nil, All-push, All-get_or}
use Rattle.std.proofs.lemmas.Map.Keys.{IsDistinct-push}
use borrow.Author.Tests.{ltb-true}
use Rattle.cq_atom.specs.Limits.{max_arity}
use Rattle.cq_atom.specs.Text.{is_relation_name}
use Rattle.cq_atom.specs.Answer.{Answers}
use Rattle.cq_atom.specs.Atom.{arity_fault, is_arity}
use Rattle.cq_atom.specs.declared.fault.Bad.TheVariants as bad
use Rattle.cq_rel.specs.declared.fault.CatalogFault.TheVariants.{BadName, BadArity, Declared, CatalogFull}
use Rattle.cq_rel.specs.Limits.{max_relations}
use Rattle.cq_rel.specs.Tables.{Declaration, IsCatalog, declaration, relation_of, declares, declare_fault, arity_in}

distinct-nil : IsDistinct bytes_eq (map relation_of [])
unfolding IsDistinct
distinct-nil = tt

pub IsCatalog-nil : (catalog : List Declaration) → catalog ≡ [] → IsCatalog catalog
IsCatalog-nil [] e = record { good = All-nil (λ (d : Declaration). arity_fault d.relation d.arity ≡ None); distinct = distinct-nil; few = omega arith }
IsCatalog-nil (d ∷ ds) e = absurd cc

pub undeclared_step : (b : Bool) (n : ℕ) (o : Option ℕ) → (if b then Some n else o) ≡ None → (b ≡ false) × (o ≡ None)
undeclared_step true n o e = absurd cc
undeclared_step false n o e = (refl, e)

-- no declaration is of a relation that has no arity
pub none-declares : (catalog : List Declaration) (relation : List ℕ) → arity_in catalog relation ≡ None → list_any (bytes_eq relation) (map relation_of catalog) ≡ false
none-declares [] relation e = refl
none-declares (d ∷ ds) relation e = rw ((undeclared_step (declares relation d) d.arity (arity_in ds relation) e).0) (none-declares ds relation ((undeclared_step (declares relation d) d.arity (arity_in ds relation) e).1))

map-push : (xs : List Declaration) (d : Declaration) → map relation_of (xs ++ d ∷ []) ≡ map relation_of xs ++ relation_of d ∷ []
map-push [] d = refl
map-push (x ∷ xs) d = ap (λ ys. relation_of x ∷ ys) (map-push xs d)

pub IsCatalog-push : (catalog : List Declaration) (relation : List ℕ) (arity : ℕ) → IsCatalog catalog → arity_fault relation arity ≡ None → arity_in catalog relation ≡ None → length catalog < max_relations → IsCatalog (catalog ++ declaration relation arity ∷ [])
IsCatalog-push catalog relation arity is good new room = record {
  good = All-push (λ (d : Declaration). arity_fault d.relation d.arity ≡ None) catalog (declaration relation arity) is.good good;
  distinct = rw (map-push catalog (declaration relation arity)) (IsDistinct-push nat_list_eq_equiv (map relation_of catalog) relation is.distinct (none-declares catalog relation new));
  few = rw (length-append catalog (declaration relation arity ∷ [])) (omega arith);
}

allowed_step : (r a : Bool) (o : Option ℕ) (room : Bool) → (if not r then Some BadName else (if not a then Some BadArity else elim o [ Some n ↦ Some Declared | None ↦ (if room then None else Some CatalogFull) ])) ≡ None → (r ≡ true) × (a ≡ true) × (o ≡ None) × (room ≡ true)
allowed_step false a o room e = absurd cc
allowed_step true false o room e = absurd cc
allowed_step true true (Some n) room e = absurd cc
allowed_step true true None false e = absurd cc
allowed_step true true None true e = (refl, refl, refl, refl)

both_good : (r a : Bool) → r ≡ true → a ≡ true → (if r then (if a then None else Some bad.BadArity) else Some bad.BadName) ≡ None
both_good true true p q = refl
both_good true false p q = absurd cc
both_good false a p q = absurd cc

-- what has no fault can be declared
pub IsCatalog-declared : (catalog : List Declaration) (relation : List ℕ) (arity : ℕ) → IsCatalog catalog → declare_fault catalog relation arity ≡ None → IsCatalog (catalog ++ declaration relation arity ∷ [])
IsCatalog-declared catalog relation arity is e =
    let steps = allowed_step (is_relation_name relation) (is_arity arity) (arity_in catalog relation) (nat_lt (length catalog) max_relations) e in
    IsCatalog-push catalog relation arity is (both_good (is_relation_name relation) (is_arity arity) steps.0 steps.1) steps.2 (ltb-true (length catalog) max_relations steps.3)

-- a name that was made has the bytes that it was made of
pub name-made : (b : Bool) (relation name : List ℕ) → Answers bad.NoMemory (if b then None else Some bad.BadName) relation (Ok name) → name ≡ relation
name-made true relation name h = h
name-made false relation name h = absurd cc

pub IsCatalog-declared_as : (old seen new : List Declaration) (relation name : List ℕ) (arity : ℕ) → old ≡ seen → IsCatalog old → None ≡ declare_fault seen relation arity → name ≡ relation → new ≡ old ++ declaration name arity ∷ [] → IsCatalog new
IsCatalog-declared_as old seen new relation name arity view is free e made = rw (made, e) (IsCatalog-declared old relation arity is (ap (λ (xs : List Declaration). declare_fault xs relation arity) view ∙ sym free))

good-arity : (name one few : Bool) → (if name then (if one && few then None else Some bad.BadArity) else Some bad.BadName) ≡ None → few ≡ true
good-arity false one few e = absurd cc
good-arity true false few e = absurd cc
good-arity true true false e = absurd cc
good-arity true true true e = refl

-- a declared arity
pub few-values : (catalog : List Declaration) (place n : ℕ) (d : Declaration) → IsCatalog catalog → place < length catalog → d ≡ get_or catalog place d → n ≡ d.arity → n ≤ max_arity
few-values catalog place n d is low read same =
    let good = subst (λ (e : Declaration). arity_fault e.relation e.arity ≡ None) (sym read) (All-get_or (λ (e : Declaration). arity_fault e.relation e.arity ≡ None) catalog place d low is.good) in
    let few : d.arity ≤ max_arity = leb-true d.arity max_arity (good-arity (is_relation_name d.relation) (nat_le 1 d.arity) (nat_le d.arity max_arity) good) in
    omega (arith, few, same)
