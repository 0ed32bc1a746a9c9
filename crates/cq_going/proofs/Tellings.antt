-- What is told of a search.
use Rattle.std.proofs.Common.{◌≡◌, ℕ, zero, suc, ◌<◌, true, false, List, [], ◌∷◌, ◌++◌, length, arith}
use Rattle.std.specs.Prelude.{◌==◌, codes, Result, Ok, Err, OnOk}
use Rattle.std.specs.List.{join_by}
use Rattle.std.proofs.lemmas.Bool.Decides.{Decides-eqb}
use Rattle.cq_board.specs.Pool.{PoolRecord}
use Rattle.cq_board.specs.Choice.{ChoiceRecord}
use Rattle.cq_render.specs.Report.{line}
use Rattle.cq_going.specs.Going.{IsFor, HasNone}
use Rattle.cq_going.specs.Grouping.{IsVerdict, IsGroupTold}

pub on_ok : {X E : Type 0} (r : Result X E) {P Q : Type 0} → (P → Q) → OnOk r P → OnOk r Q
on_ok (Ok x) f p = f p
on_ok (Err e) f p = tt

pub positive : (n : ℕ) → (n == 0) ≡ false → 0 < n
positive zero e = cc
positive (suc n) e = omega arith

-- where no choices were found, there are none
pub none_of : (pool : PoolRecord) (names : List (List ℕ)) (choices : List ChoiceRecord) → (length choices == 0) ≡ true → IsFor pool names choices → HasNone pool names
none_of pool [] [] e is = is
none_of pool [] (c ∷ choices) e is = let none = (Decides-eqb (length (c ∷ choices)) 0).0 e in absurd (omega (arith, none))
none_of pool (name ∷ names) [] e is = λ choices other. let at = is.named 0 name (omega arith) in let low = at.1 in absurd (omega (arith, low))
none_of pool (name ∷ names) (c ∷ choices) e is = let none = (Decides-eqb (length (c ∷ choices)) 0).0 e in absurd (omega (arith, none))

-- a line for a group that has queries
pub group_told : (pool : PoolRecord) (names : List (List ℕ)) (words text : List ℕ) → (length names == 0) ≡ false → IsVerdict pool names words
    → text ≡ line (join_by (λ n. n) (codes " ") names ++ codes ": " ++ words) → IsGroupTold pool names text
group_told pool [] words text some told is = absurd cc
group_told pool (name ∷ names) words text some told is = (words, told, is)
