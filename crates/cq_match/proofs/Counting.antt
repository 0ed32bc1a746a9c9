-- Counts of the offers into each slot.
use Rattle.std.proofs.Common.{◌≡◌, ℕ, ◌+◌, ◌<◌, ◌≤◌, ◌≢◌, true, false, eqb, List, length, get_or, set, take, count_by, sym, ap, ◌∙◌, arith, eq-eqb}
use Rattle.std.proofs.lemmas.List.{get_or-set_same, get_or-set_other, get_or_read, length-take}
use Rattle.std.proofs.lemmas.Bool.{eqb-true}
use Rattle.std.proofs.lemmas.List.Sums.{count_by-le-length, count_by_more_yes, count_by_more_no}
use Rattle.cq_match.specs.declared.settle.Offer.{Offer}
use Rattle.cq_match.specs.Steps.Settle.{is_into}
use Rattle.cq_match.proofs.Tests.{by_bool}

pub counted-fits : (counts : List ℕ) (offers : List Offer) (i k x : ℕ) → k < length counts → x ≡ get_or counts k x → get_or counts k 0 ≡ count_by (is_into k) (take i offers) → x ≤ i
counted-fits counts offers i k x low read counted =
    let value = get_or_read counts k x low read 0 in
    let most = count_by-le-length (is_into k) (take i offers) in
    let front = length-take i offers in
    omega arith

pub counted-more : (counts : List ℕ) (offers : List Offer) (i k x : ℕ) (d : Offer) → i < length offers → k ≡ (get_or offers i d).slot → k < length counts → x ≡ get_or counts k x
    → (slot : ℕ) → get_or counts slot 0 ≡ count_by (is_into slot) (take i offers) → get_or (set counts k (x + 1)) slot 0 ≡ count_by (is_into slot) (take (i + 1) offers)
counted-more counts offers i k x d low at inside read slot counted =
    by_bool (eqb (get_or offers i d).slot slot) (get_or (set counts k (x + 1)) slot 0 ≡ count_by (is_into slot) (take (i + 1) offers))
    (λ t.
    let same : k ≡ slot = at ∙ eqb-true (get_or offers i d).slot slot t in
    let value = get_or_read counts k x inside read 0 in
    let after = get_or-set_same counts k (x + 1) 0 inside in
    let moved : get_or (set counts k (x + 1)) slot 0 ≡ x + 1 = ap (λ n. get_or (set counts k (x + 1)) n 0) (sym same) ∙ after in
    let here : x ≡ get_or counts slot 0 = value ∙ ap (λ n. get_or counts n 0) same in
    let more = count_by_more_yes (is_into slot) offers i d low t in
    omega arith)
    (λ f.
    let apart : slot ≢ k = λ e. let never : false ≡ true = sym f ∙ eq-eqb (get_or offers i d).slot slot (sym at ∙ sym e) in cc in
    let other = get_or-set_other counts k slot (x + 1) 0 apart in
    let more = count_by_more_no (is_into slot) offers i d low f in
    omega arith)
