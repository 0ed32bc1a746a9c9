-- Command words and their bytes.
use Rattle.std.proofs.Common.{◌≡◌, ℕ, Bool, true, false, cond, List, Option, Some, refl, ap, ◌∙◌}
use Rattle.std.specs.Prelude.{codes}
use Rattle.std.specs.Str.{bytes_eq}
use Rattle.std.proofs.lemmas.Bool.Decides.{Decides-eqb}
use Rattle.std.proofs.lemmas.Slice.Eq.{slice_eq-Decides}
use Rattle.cq_text.specs.declared.command.CommandWord.{CommandWord}
use Rattle.cq_text.specs.declared.command.CommandWord.TheVariants.{Relation, Board, Limits, Post, Withdraw, Insert, Delete, Publish, Show}
use Rattle.cq_text.specs.Steps.Commands.{command_word, bytes_of}

pub bytes_eq-true : (w n : List ℕ) → bytes_eq w n ≡ true → w ≡ n
bytes_eq-true w n e = (slice_eq-Decides Decides-eqb w n (bytes_eq w n) refl).0 e

-- one word more to compare with
compared : (w n : List ℕ) (here k : CommandWord) (others : Option CommandWord) → n ≡ bytes_of here → (others ≡ Some k → w ≡ bytes_of k) → cond (bytes_eq w n) (Some here) others ≡ Some k → w ≡ bytes_of k
compared w n here k others is rest e = by_case (bytes_eq w n) refl e
  where
    by_case : (b : Bool) → bytes_eq w n ≡ b → cond b (Some here) others ≡ Some k → w ≡ bytes_of k
    by_case true h d = let same : here ≡ k = cc in bytes_eq-true w n h ∙ is ∙ ap bytes_of same
    by_case false h d = rest d

pub command_word-is : (w : List ℕ) (k : CommandWord) → command_word w ≡ Some k → w ≡ bytes_of k
command_word-is w k =
    compared w (codes "relation") Relation k _ refl (compared w (codes "board") Board k _ refl (compared w (codes "limits") Limits k _ refl (compared w (codes "post") Post k _ refl (compared w (codes "withdraw") Withdraw k _ refl
    (compared w (codes "insert") Insert k _ refl (compared w (codes "delete") Delete k _ refl (compared w (codes "publish") Publish k _ refl (compared w (codes "show") Show k _ refl (λ e. absurd cc)))))))))

pub command_word-same : (k : CommandWord) → command_word (bytes_of k) ≡ Some k
command_word-same Relation = refl
command_word-same Board = refl
command_word-same Limits = refl
command_word-same Post = refl
command_word-same Withdraw = refl
command_word-same Insert = refl
command_word-same Delete = refl
command_word-same Publish = refl
command_word-same Show = refl
