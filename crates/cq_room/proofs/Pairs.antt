-- What keeps a pair in step.
use Rattle.std.proofs.Common.{◌≡◌, List, [], ◌∷◌, Option, None, refl, ap, sym, ◌∙◌, subst, Result, Ok, Err, MatchResult, Bool, true, false, MatchBool}
use mathlib.Core.List.{IsPrefix}
use Rattle.cq_desk.specs.History.{grown}
use Rattle.cq_room.specs.declared.mark.Mark.{Mark}
use Rattle.cq_room.specs.Marks.{fresh_in, publications}
use Rattle.cq_room.specs.Seen.{ShownRecord}
use Rattle.cq_room.specs.Pair.{opening_or}
use Rattle.cq_room.specs.Steps.Pair.{IsPaired, last_of, ends_at}
use Rattle.cq_room.proofs.Fronts.{prefix_self, prefix_trans}
use Rattle.cq_room.proofs.Marked.{grown_none}

pub opening_same : {C : Type 0} (os : List C) (c d : C) → os ≡ opening_or c os ∷ [] → opening_or d os ≡ opening_or c os
opening_same [] c d p = absurd (cc p)
opening_same (o ∷ os) c d p = refl

module _ {E C : Type 0} (os : List C) (c d : C) (shown new : List (Mark E)) (steps less : List (List (Mark E))) (waiting : Option (List (Mark E))) (front : List (Mark E)) where
  pub paired_published : os ≡ opening_or c os ∷ [] → new ≡ last_of shown steps → ends_at shown steps waiting ≡ front → waiting ≡ None → fresh_in front ≡ [] → less ≡ [] → IsPaired os d new less waiting front
  paired_published opened now ends none fresh gone =
      let all : new ≡ front = now ∙ (sym (ap (ends_at shown steps) none) ∙ ends) in
      record {
        opened = opened ∙ ap (λ o. o ∷ []) (sym (opening_same os c d opened));
        begins = subst (λ xs. IsPrefix xs front) (sym all) (prefix_self front);
        whole = ap fresh_in all ∙ fresh;
        ends = ap (ends_at new less) none ∙ (ap (last_of new) gone ∙ all);
      }

pub paired_on : {E C : Type 0} (os : List C) (c d : C) (shown new : List (Mark E)) (steps less : List (List (Mark E))) (waiting kept : Option (List (Mark E))) (front next : List (Mark E)) → IsPaired os c shown steps waiting front
    → d ≡ c → new ≡ shown → IsPrefix front next → ends_at shown less kept ≡ next → IsPaired os d new less kept next
paired_on os c d shown new steps less waiting kept front next p is same more ends = record {
  opened = p.opened ∙ ap (λ z. opening_or z os ∷ []) (sym is);
  begins = subst (λ xs. IsPrefix xs next) (sym same) (prefix_trans shown front next p.begins more);
  whole = ap fresh_in same ∙ p.whole;
  ends = ap (λ m. ends_at m less kept) same ∙ ends;
}

pub grown_all : {E : Type 0} (front next : List (Mark E)) → grown (publications next) (fresh_in next) ≡ grown (publications front) (fresh_in front) → fresh_in next ≡ [] → publications next ≡ grown (publications front) (fresh_in front)
grown_all front next is none = sym (grown_none (publications next) (fresh_in next) none) ∙ is

-- what a publish leaves, of steps that end at the front
pub paired_after : {E C A : Type 0} (os : List C) (s n : ShownRecord E C) (steps mid less : List (List (Mark E))) (waiting kept : Option (List (Mark E))) (front next : List (Mark E)) → IsPaired os s.content s.marks steps waiting front
    → IsPrefix front next → ends_at s.marks mid kept ≡ next → kept ≡ None → fresh_in next ≡ []
    → (r : Result Unit A) → MatchResult r (λ _. (n.marks ≡ last_of s.marks mid) × (less ≡ [])) (λ _. (n ≡ s) × (less ≡ mid)) → IsPaired os n.content n.marks less kept next
paired_after os s n steps mid less waiting kept front next p more ends none fresh (Ok u) now = paired_published os s.content n.content s.marks n.marks mid less kept next p.opened now.0 ends none fresh now.1
paired_after os s n steps mid less waiting kept front next p more ends none fresh (Err e) now =
    paired_on os s.content n.content s.marks n.marks steps less waiting kept front next p (ap (λ z. z.content) now.0) (ap (λ z. z.marks) now.0) more (ap (λ z. ends_at s.marks z kept) now.1 ∙ ends)

pub known_by : {A : Type 0} (b : Bool) (xs ls ts js : List A) → MatchBool b (IsPrefix xs ls) (Unit {0}) → ls ≡ ts → IsPrefix ts js → MatchBool b (IsPrefix xs js) (Unit {0})
known_by true xs ls ts js p is more = prefix_trans xs ts js (subst (λ z. IsPrefix xs z) is p) more
known_by false xs ls ts js p is more = tt
