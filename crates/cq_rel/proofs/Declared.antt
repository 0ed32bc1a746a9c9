-- What a catalog declares, looked up entry by entry or at a place.
use Rattle.std.proofs.Common.{◌≡◌, ℕ, suc, ◌+◌, ◌<◌, ◌≤◌, Bool, true, false, if◌then◌else◌, List, ◌∷◌, length, get_or, drop, drop-cons, Option, Some, None, Ok, Err, refl, sym, subst, ap, ◌∙◌, arith}
use Rattle.std.specs.List.{slice_get}
use Rattle.std.proofs.lemmas.List.{drop_all}
use Rattle.std.proofs.lemmas.Option.{slice_get_read}
use Rattle.cq_atom.specs.Answer.{Answers}
use Rattle.cq_rel.specs.declared.fault.CatalogFault.{CatalogFault}
use Rattle.cq_rel.specs.declared.fault.CatalogFault.TheVariants.{NoMemory}
use Rattle.cq_rel.specs.Tables.{Declaration, declaration, declares, arity_in}

-- the rest from a place on, and what is looked up in it
module _ (seen xs : List Declaration) (name : List ℕ) (i : ℕ) where
  step : (d : Declaration) → i < length xs → d ≡ get_or xs i d → arity_in (drop i xs) name ≡ (if declares name d then Some d.arity else arity_in (drop (i + 1) xs) name)
  step d low is =
      let next : suc i ≡ i + 1 = omega arith in
      ap (λ (ds : List Declaration). arity_in ds name) (drop-cons xs i d low ∙ ap (λ (e : Declaration). e ∷ drop (suc i) xs) (sym is) ∙ ap (λ (n : ℕ). d ∷ drop n xs) next)

  pub arity-here : (d : Declaration) (b : Bool) (n : ℕ) → i < length xs → d ≡ get_or xs i d → arity_in seen name ≡ arity_in (drop i xs) name → b ≡ declares name d → b ≡ true → n ≡ d.arity → Some n ≡ arity_in seen name
  arity-here d b n low is so_far said holds here =
      let rest = arity_in (drop (i + 1) xs) name in
      ap Some here ∙ sym (so_far ∙ step d low is ∙ ap (λ (t : Bool). if t then Some d.arity else rest) (sym said ∙ holds))

  pub arity-on : (d : Declaration) (b : Bool) → i < length xs → d ≡ get_or xs i d → arity_in seen name ≡ arity_in (drop i xs) name → b ≡ declares name d → b ≡ false → arity_in seen name ≡ arity_in (drop (i + 1) xs) name
  arity-on d b low is so_far said fails =
      let rest = arity_in (drop (i + 1) xs) name in
      so_far ∙ step d low is ∙ ap (λ (t : Bool). if t then Some d.arity else rest) (sym said ∙ fails)

  pub arity-past : length xs ≤ i → arity_in seen name ≡ arity_in (drop i xs) name → None ≡ arity_in seen name
  arity-past past so_far = sym (so_far ∙ ap (λ (ds : List Declaration). arity_in ds name) (drop_all i xs past))

-- the entry at a place, as it is seen
pub entry-seen : (entries seen xs : List Declaration) (place : ℕ) (d : Declaration) → entries ≡ seen → xs ≡ entries → place < length xs → d ≡ get_or xs place d → slice_get seen place ≡ Some d
entry-seen entries seen xs place d view same low is =
    ap (λ (ds : List Declaration). slice_get ds place) (sym (same ∙ view)) ∙ slice_get_read xs (length xs) place d refl low is

pub declared-as : (d : Declaration) (name : List ℕ) (n : ℕ) → name ≡ d.relation → n ≡ d.arity → Some d ≡ Some (declaration name n)
declared-as d name n same same' = sym (ap (λ (s : List ℕ). Some (declaration s n)) same ∙ ap (λ (k : ℕ). Some (declaration d.relation k)) same')

-- what a declaration answers
pub answer-fault : (o : Option CatalogFault) (fault : CatalogFault) → Some fault ≡ o → Answers NoMemory o (tt {0}) (Err fault)
answer-fault o fault is = subst (λ (p : Option CatalogFault). Answers NoMemory p (tt {0}) (Err fault)) is refl

pub answer-none : (o : Option CatalogFault) → None ≡ o → Answers NoMemory o (tt {0}) (Err NoMemory)
answer-none o is = subst (λ (p : Option CatalogFault). Answers NoMemory p (tt {0}) (Err NoMemory)) is refl

pub answer-declared : (o : Option CatalogFault) → None ≡ o → Answers NoMemory o (tt {0}) (Ok (tt {0}))
answer-declared o is = subst (λ (p : Option CatalogFault). Answers NoMemory p (tt {0}) (Ok (tt {0}))) is refl
