-- Bytes are plain where no step over them fails.
use Rattle.std.proofs.Common.{◌≡◌, ℕ, Bool, true, false, fold, List, [], ◌∷◌, refl}
use Rattle.std.specs.Prelude.{◌&&◌}
use Rattle.std.specs.List.{list_all}
use Rattle.cq_atom.specs.Text.{is_plain_byte}
use Rattle.cq_atom.specs.Steps.Plain.{still_plain}

fold-plain : (are_plain : Bool) (bs : List ℕ) → fold still_plain are_plain bs ≡ (are_plain && list_all is_plain_byte bs)
fold-plain true [] = refl
fold-plain false [] = refl
fold-plain true (b ∷ bs) = fold-plain (is_plain_byte b) bs
fold-plain false (b ∷ bs) = fold-plain false bs

pub all_plain : (bs : List ℕ) → fold still_plain true bs ≡ list_all is_plain_byte bs
all_plain bs = fold-plain true bs
