-- One more query that is looked for: the steps that it takes, and whether it is taken.
use Rattle.std.proofs.Common.{◌≡◌, Vec, inl, inr, ℕ, ◌+◌, ◌-◌, ◌≤◌, List, [], ◌∷◌, ◌++◌, length, take, sym, ap, subst, ◌∙◌, arith}
use Rattle.std.specs.List.{All}
use Rattle.std.proofs.lemmas.List.{map-append, length-append, take-append-le, take_all}
use Rattle.std.proofs.lemmas.List.Elements.{All-push, All-same}
use Rattle.cq_board.specs.Pool.{PoolRecord}
use Rattle.cq_board.specs.Choice.{ChoiceRecord}
use Rattle.cq_board.specs.declared.choice.Choice.{Choice}
use Rattle.cq_choose.specs.Choosing.{IfFound, IsChoiceFor}
use Rattle.cq_choose.specs.declared.choosing.Answer.{Answer}
use Rattle.cq_choose.specs.declared.choosing.Answer.TheVariants.{Found, Impossible, Undecided}
use Rattle.cq_reached.specs.declared.quick.Taken.{Taken}
use Rattle.cq_reached.specs.Steps.Taking.{names_of, IsNext}

-- ---- steps

pub steps-within : (old more budget : ℕ) → old ≤ budget → more ≤ budget - old → old + more ≤ budget
steps-within old more budget low few = omega arith

pub steps-all : (old more budget : ℕ) → old ≤ budget → more ≡ budget - old → old + more ≡ budget
steps-all old more budget low all = omega arith

-- ---- lists

-- one more of which it holds
pub one-more : {X : Type 0} (P : X → Type 0) (old new now : List X) (x : X) → now ≡ new → new ≡ old ++ x ∷ [] → All P old → P x → All P now
one-more P old new now x same is each here = All-same P now (old ++ x ∷ []) (same ∙ is) (All-push P old x each here)

-- one that was put on is taken off
pub popped : {X : Type 0} (pushed old new : List X) (x : X) (n : ℕ) → n ≡ length pushed → pushed ≡ old ++ x ∷ [] → new ≡ take (n - 1) pushed → new ≡ old
popped {X} pushed old new x n count is rest =
    let long = ap length is ∙ length-append old (x ∷ []) in
    let less : n - 1 ≡ length old = omega (arith, count, long) in
    rest
    ∙ ap (λ (k : ℕ). take k pushed) less
    ∙ ap (take (length old)) is
    ∙ take-append-le (length old) old (x ∷ []) (omega arith)
    ∙ take_all (length old) old (omega arith)

-- ---- who is taken

-- the choices that were found, for the same names
pub found-for : {A : Type 0} (pool : PoolRecord) (names all : List (List ℕ)) (answer found : Answer A) → answer ≡ found → names ≡ all → IfFound answer (IsChoiceFor pool names) → IfFound found (IsChoiceFor pool all)
found-for {A} pool names all answer found is same has = subst (λ (l : List (List ℕ)). IfFound found (IsChoiceFor pool l)) same (subst (λ (a : Answer A). IfFound a (IsChoiceFor pool names)) is has)

-- what holds of the choices of an answer, by what it is
pub answered : {A : Type 0} (P : List ChoiceRecord → Type 0) (answer was : Answer A) → answer ≡ was → IfFound was P → IfFound answer P
answered {A} P answer was is has = subst (λ (a : Answer A). IfFound a P) (sym is) has

pub next-copied : (pool : PoolRecord) (taken after : List (List ℕ)) (name copy : List ℕ) → after ≡ taken ++ copy ∷ [] → copy ≡ name → IsNext pool taken name after
next-copied pool taken after name copy is same = inl (is ∙ ap (λ (n : List ℕ). taken ++ n ∷ []) same)

pub next-taken : {A : Type 0} (pool : PoolRecord) (old new : List (Taken A)) (one : Taken A) → new ≡ old ++ one ∷ [] → IsNext pool (names_of old) one.name.now (names_of new)
next-taken {A} pool old new one is = inl (ap names_of is ∙ map-append (λ (t : Taken A). t.name.now) old (one ∷ []))

pub next-left : (pool : PoolRecord) (names pushed taken after : List (List ℕ)) (name copy : List ℕ) → names ≡ pushed → pushed ≡ taken ++ copy ∷ [] → copy ≡ name
    → ((choices : List ChoiceRecord) → IsChoiceFor pool names choices → ⊥) → after ≡ taken → IsNext pool taken name after
next-left pool names pushed taken after name copy read is same none back =
    let all : names ≡ taken ++ name ∷ [] = read ∙ is ∙ ap (λ (n : List ℕ). taken ++ n ∷ []) same in
    inr ((λ can. none can.0 (subst (λ (l : List (List ℕ)). IsChoiceFor pool l can.0) (sym all) can.1)), back)

-- the same choices for the same ones that are taken
pub choice-as : {A : Type 0} (pool : PoolRecord) (ones taken : List (Taken A)) (choices all : List ChoiceRecord) → ones ≡ taken → choices ≡ all → IsChoiceFor pool (names_of ones) choices → IsChoiceFor pool (names_of taken) all
choice-as {A} pool ones taken choices all same is has =
    subst (λ (l : List (Taken A)). IsChoiceFor pool (names_of l) all) same (subst (λ (l : List ChoiceRecord). IsChoiceFor pool (names_of ones) l) is has)

-- ---- answers that differ

pub found-possible : {A : Type 0} (choices : Vec (Choice A) A) → Found choices ≡ Impossible → ⊥
found-possible choices is = cc

pub found-decided : {A : Type 0} (choices : Vec (Choice A) A) → Found choices ≡ Undecided → ⊥
found-decided choices is = cc

pub undecided-possible : (A : Type 0) → ◌≡◌ {A = Answer A} Undecided Impossible → ⊥
undecided-possible A is = cc
