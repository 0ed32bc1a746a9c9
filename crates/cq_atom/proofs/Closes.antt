-- The labels that both lists tie, and what the agreement of their constants says.
use Rattle.std.proofs.Common.{◌≡◌, ℕ, ◌<◌, ◌≤◌, Bool, true, List, length, sym, ap, ◌∙◌, arith}
use Rattle.cq_atom.specs.Value.{ValueContent}
use Rattle.cq_atom.specs.Atom.{TermContent}
use Rattle.cq_atom.specs.Steps.Labels.{AreOwn, Respects, Ties, EndsBelow, Agree, AreValid}
use Rattle.cq_atom.specs.Steps.Meets.{CanMeet}
use Rattle.cq_atom.proofs.Merges.{all_ties}
use Rattle.cq_atom.proofs.Meets.{IsClosed, agree_meets, meets_agree_right}

own_respected : (ls : List ℕ) → AreOwn ls → (z : ℕ → ValueContent) → Respects ls z
own_respected ls own z i j h k e = ap z (sym (own i h) ∙ e ∙ own j k)

module _ (xs ys : List TermContent) (start one two : List ℕ) where
  pub closes : length xs ≡ length ys → length xs ≤ length start → AreOwn start → Ties start one xs (EndsBelow (length xs)) → Ties one two ys (EndsBelow (length ys)) → IsClosed two xs ys
  closes long few own t u =
      let s : length one ≡ length start = t.size in
      let s' : length two ≡ length one = u.size in
      record {
        long = long;
        fits = omega arith;
        ties_left = λ i j k. let i_in : i < length xs = k.first_in in let j_in : j < length xs = k.second_in in
            u.keeps i j (omega arith) (omega arith) (all_ties one xs t.ties i j k);
        ties_right = λ i j k. all_ties two ys u.ties i j k;
        least = λ z left right. u.least z (t.least z (own_respected start own z) left) right;
      }

module _ (xs ys : List TermContent) (ls : List ℕ) (closed : IsClosed ls xs ys) where
  pub third_tells : (r : Bool) → AreValid xs → (r ≡ true → AreValid ys) → Agree ls xs xs → Agree ls xs ys → (r ≡ true → Agree ls ys ys) × (Agree ls ys ys → r ≡ true) → (r ≡ true → CanMeet xs ys) × (CanMeet xs ys → r ≡ true)
  third_tells r vx vy left across told =
      (λ e. agree_meets ls xs ys closed left across (told.0 e) vx (vy e), λ m. told.1 (meets_agree_right ls xs ys closed m))
