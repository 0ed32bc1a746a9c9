-- What is true where nothing is chosen.
use Rattle.std.proofs.Common.{◌≡◌, ℕ, ◌<◌, Bool, true, false, Option, None, List, [], length, get_or, replicate, ⊎_elim, sym, ap, ◌∙◌, arith}
use Rattle.std.proofs.lemmas.Bool.{cases_lt}
use Rattle.std.proofs.lemmas.List.{get_or-replicate, get_or_past, length-replicate}
use Rattle.std.proofs.lemmas.List.Elements.{All-nil}
use Rattle.std.proofs.lemmas.Option.{none-some}
use Rattle.cq_select.specs.declared.supply.Supply.{Supply}
use Rattle.cq_select.specs.Selection.{member_count, IsSupplied}
use Rattle.cq_select.specs.Steps.Facts.{IsMet, AreSeats, AreDead, AreLost}

no-mark : (n m : ℕ) → get_or (replicate n false) m false ≡ false
no-mark n m =
    ⊎_elim (λ low. get_or-replicate n m false false low)
    (λ past. get_or_past (replicate n false) m false (rw (length-replicate n false) past)) (cases_lt m n)

module _ {A : Type 0} (supply : Supply A) where
  pub seats-none : (seats : ℕ → Option ℕ) → ((owner : ℕ) → seats owner ≡ None) → AreSeats supply [] seats
  seats-none seats none = record {
    known = All-nil (λ m. m < member_count supply);
    each = λ m (k, low, at). absurd (let never : k < 0 = low in omega arith);
    only = λ owner m e. absurd (none-some m (sym (none owner) ∙ e));
  }

  pub dead-none : (wanted : List ℕ) (dead : List Bool) (n : ℕ) → dead ≡ replicate n false → n ≡ member_count supply → AreDead supply wanted dead
  dead-none wanted dead n all is = record {
    len = ap length all ∙ length-replicate n false ∙ is;
    never = λ m e. absurd (let never : false ≡ true = sym (no-mark n m) ∙ sym (ap (λ (l : List Bool). get_or l m false) all) ∙ e in cc);
  }

  pub lost-none : (wanted : List ℕ) (lost : List Bool) (n : ℕ) → lost ≡ replicate n false → AreLost supply wanted lost
  lost-none wanted lost n all = record { never = λ a m e at. absurd (let never : false ≡ true = sym (no-mark n a) ∙ sym (ap (λ (l : List Bool). get_or l a false) all) ∙ e in cc) }

  pub met-none : (wanted : List ℕ) → IsMet supply wanted [] 0 0
  met-none wanted = record {
    lists = λ k low. absurd (let never : k < 0 = low in omega arith);
    front = All-nil (IsSupplied supply []);
  }
