-- Edges that have gone are dropped: the others stay, and so does all that is kept.
use Rattle.std.proofs.Common.{◌≡◌, ℕ, ◌+◌, ◌<◌, ◌⊎◌, inl, inr, Bool, true, eqb, List, [], ◌∷◌, ◌++◌, length, get_or, set, zero, suc, filter, map, refl, sym, ap, ◌∙◌, subst}
use Rattle.std.specs.List.{All}
use Rattle.std.proofs.lemmas.Bool.{eqb-true}
use Rattle.std.proofs.lemmas.List.{length-set, get_or-set_same, get_or-set_other}
use Rattle.std.proofs.lemmas.List.Elements.{All-filter}
use Rattle.cq_atom.specs.declared.edge.Edge.{Edge}
use Rattle.cq_match.specs.declared.graph.Place.{Place}
use Rattle.cq_match.specs.declared.graph.Out.{Out}
use Rattle.cq_match.specs.Steps.Kept.{place_at, is_live, edge_of, edges_left, edges_from, IsKept}
use Rattle.cq_match.proofs.Tests.{by_bool}
use Rattle.cq_match.proofs.Rows.{differ}

filter-twice : (p : Out → Bool) (outs : List Out) → filter p (filter p outs) ≡ filter p outs
filter-twice p [] = refl
filter-twice p (o ∷ outs) =
    let rest = filter-twice p outs in
    by_bool (p o) (filter p (filter p (o ∷ outs)) ≡ filter p (o ∷ outs))
    (λ t.
    let kept : filter p (o ∷ outs) ≡ o ∷ filter p outs = rw t refl in
    let again : filter p (o ∷ filter p outs) ≡ o ∷ filter p (filter p outs) = rw t refl in
    ap (filter p) kept ∙ again ∙ ap (λ (os : List Out). o ∷ os) rest ∙ sym kept)
    (λ f. let gone : filter p (o ∷ outs) ≡ filter p outs = rw f refl in ap (filter p) gone ∙ rest ∙ sym gone)

-- the list of one node, with or without the edges that have gone
abbrev pub Tidied : List Place → List Out → List Out → Type 0
Tidied places outs' outs = (outs' ≡ outs) ⊎ (outs' ≡ filter (is_live places) outs)

live-tidied : (places : List Place) (outs' outs : List Out) → Tidied places outs' outs → filter (is_live places) outs' ≡ filter (is_live places) outs
live-tidied places outs' outs (inl same) = ap (filter (is_live places)) same
live-tidied places outs' outs (inr kept) = ap (filter (is_live places)) kept ∙ filter-twice (is_live places) outs

All-tidied : (P : Out → Type 0) (places : List Place) (outs' outs : List Out) → Tidied places outs' outs → All P outs → All P outs'
All-tidied P places outs' outs (inl same) h = subst (λ (os : List Out). All P os) (sym same) h
All-tidied P places outs' outs (inr kept) h = subst (λ (os : List Out). All P os) (sym kept) (All-filter (is_live places) P outs h)

none-tidied : (places : List Place) (outs' outs : List Out) → Tidied places outs' outs → outs ≡ [] → outs' ≡ []
none-tidied places outs' outs (inl same) none = same ∙ none
none-tidied places outs' outs (inr kept) none = kept ∙ ap (filter (is_live places)) none

edges-tidied : (places : List Place) (leaving : List (List Out)) (n p : ℕ) (outs' : List Out) → Tidied places outs' (get_or leaving p []) → edges_from places n (set leaving p outs') ≡ edges_from places n leaving
edges-tidied places [] n p outs' tidied = refl
edges-tidied places (outs ∷ rest) n zero outs' tidied = ap (λ (os : List Out). map (edge_of n) os ++ edges_from places (n + 1) rest) (live-tidied places outs' outs tidied)
edges-tidied places (outs ∷ rest) n (suc p) outs' tidied = ap (λ (es : List Edge). edges_left places n outs ++ es) (edges-tidied places rest (n + 1) p outs' tidied)

pub tidied-edges : (places : List Place) (leaving : List (List Out)) (p : ℕ) (outs' : List Out) → Tidied places outs' (get_or leaving p []) → edges_from places 0 (set leaving p outs') ≡ edges_from places 0 leaving
tidied-edges places leaving p outs' tidied = edges-tidied places leaving 0 p outs' tidied

pub tidied-kept : {places : List Place} {leaving : List (List Out)} {totals : List (List ℕ)} {matched raised : List Bool} {counts : List (List ℕ)} {waiting reached : List ℕ} {room number next : ℕ}
    → IsKept places leaving totals matched raised counts waiting reached room number next → (p : ℕ) (outs' : List Out) → p < length leaving → Tidied places outs' (get_or leaving p [])
    → IsKept places (set leaving p outs') totals matched raised counts waiting reached room number next
tidied-kept {places} {leaving} {next = next} k p outs' low tidied =
    let same = tidied-edges places leaving p outs' tidied in
    let outs_of : (Q : List Out → Type 0) → ((n : ℕ) → Q (get_or leaving n [])) → (Q (get_or leaving p []) → Q outs') → (n : ℕ) → Q (get_or (set leaving p outs') n []) = λ Q h own n.
    by_bool (eqb n p) (Q (get_or (set leaving p outs') n []))
    (λ t. subst (λ m. Q (get_or (set leaving p outs') m [])) (sym (eqb-true n p t)) (subst Q (sym (get_or-set_same leaving p outs' [] low)) (own (h p))))
    (λ f. subst Q (sym (get_or-set_other leaving p n outs' [] (differ n p f))) (h n)) in
    let all_of : (Q : Out → Type 0) → ((n : ℕ) → All Q (get_or leaving n [])) → (n : ℕ) → All Q (get_or (set leaving p outs') n []) = λ Q h.
    outs_of (λ (os : List Out). All Q os) h (All-tidied Q places outs' (get_or leaving p []) tidied) in
    record {
      leaving_len = length-set leaving p outs' ∙ k.leaving_len;
      totals_len = k.totals_len;
      fit = all_of (λ out. is_live places out ≡ true → out.post < (place_at places out.waiter).posts) k.fit;
      totals_row = k.totals_row;
      totaled = rw same k.totaled;
      settled = rw same k.settled;
      none_waits = k.none_waits;
      none_reached = k.none_reached;
      roomy = k.roomy;
      numbered = rw same k.numbered;
      older = k.older;
      outs_older = all_of (λ out. out.stamp < next) k.outs_older;
      able_taken = k.able_taken;
      free_posts = k.free_posts;
      free_leaving = λ n t. by_bool (eqb n p) (get_or (set leaving p outs') n [] ≡ [])
          (λ is. let at = eqb-true n p is in
          ap (λ m. get_or (set leaving p outs') m []) at ∙ get_or-set_same leaving p outs' [] low
          ∙ none-tidied places outs' (get_or leaving p []) tidied (k.free_leaving p (ap (λ m. (place_at places m).taken) (sym at) ∙ t)))
          (λ f. get_or-set_other leaving p n outs' [] (differ n p f) ∙ k.free_leaving n t);
    }
