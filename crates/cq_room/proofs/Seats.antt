-- Sessions that have seen nothing.
use Rattle.std.proofs.Common.{◌≡◌, ℕ, ◌+◌, List, [], ◌∷◌, ◌++◌, ap, sym, ◌∙◌, arith}
use Rattle.std.proofs.lemmas.List.FromFn.{map-range_with_len_more}
use Rattle.cq_desk.specs.History.{History}
use Rattle.cq_desk.specs.declared.journal.Entry.{Entry}
use Rattle.cq_room.specs.Sessions.{SessionRecord, newcomers}

-- one session more
pub seated_on : {E : Type 0} (n : ℕ) (shown : History (Entry E)) (known : List (Entry E)) (was new : List (SessionRecord E)) (s : SessionRecord E) → was ≡ newcomers n → new ≡ was ++ s ∷ [] → s ≡ record { number = n; history = shown; known = known } → shown ≡ [] → known ≡ [] → new ≡ newcomers (n + 1)
seated_on {E} n shown known was new s old is session none nothing =
    let F : ℕ → SessionRecord E = λ k. record { number = k; history = []; known = [] } in
    let G : History (Entry E) → List (Entry E) → SessionRecord E = λ h k. record { number = n; history = h; known = k } in
    is ∙ (ap (λ z. z ++ s ∷ []) old ∙ (ap (λ z. newcomers n ++ z ∷ []) (session ∙ (ap (λ h. G h known) none ∙ ap (G []) nothing)) ∙ sym (map-range_with_len_more F 0 n n (omega arith))))
