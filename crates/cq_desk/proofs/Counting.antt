-- Counts of what sessions have seen, and the front of a journal that is published.
use mathlib.Core.List.{IsPrefix}
use Rattle.std.proofs.Common.{◌≡◌, ℕ, zero, suc, ◌<◌, ◌≤◌, List, [], ◌∷◌, ◌++◌, length, take, get_or, set, replicate, Result, Ok, Err, OnOk, OnErr, sym, ap, ◌∙◌, subst, append_assoc, arith, length-append}
use Rattle.std.proofs.Math.Seq.{take-append_seam}
use Rattle.cq_desk.specs.History.{History, edits_of}
use Rattle.cq_desk.specs.Plain.{AreWithin}
use Rattle.cq_desk.proofs.Cutting.{within-more}

pub within-set : (most : ℕ) (counts : List ℕ) (i n : ℕ) → AreWithin most counts → n ≤ most → AreWithin most (set counts i n)
within-set most [] i n w l = tt
within-set most (m ∷ counts) zero n w l = (l, w.1)
within-set most (m ∷ counts) (suc i) n w l = (w.0, within-set most counts i n w.1 l)

pub within-replicate : (most n : ℕ) → AreWithin most (replicate n 0)
within-replicate most zero = tt
within-replicate most (suc n) = (omega arith, within-replicate most n)

pub within-get : (most : ℕ) (counts : List ℕ) (i d : ℕ) → i < length counts → AreWithin most counts → get_or counts i d ≤ most
within-get most [] i d l w = absurd (omega (arith, l))
within-get most (m ∷ counts) zero d l w = w.0
within-get most (m ∷ counts) (suc i) d l w = within-get most counts i d (omega (arith, l)) w.1

-- what is published stands in front
pub front_left : {J : Type 0} (t p js : List J) → IsPrefix (t ++ p) js → t ≡ take (length t) js
front_left t p js told = sym (take-append_seam t (p ++ told.0)) ∙ ap (take (length t)) (sym (append_assoc t p told.0) ∙ told.1)

pub front_short : {J : Type 0} (t p js : List J) → IsPrefix (t ++ p) js → length t ≤ length js
front_short t p js told = omega (arith, length-append t p, length-append (t ++ p) told.0, ap length told.1)

-- what was seen stays within what is published, whether a publish is refused or not
pub published_within : {E N R : Type 0} (result : Result N R) (now was : History E) (es : List E) (counts : List ℕ) → OnOk result (edits_of now ≡ es) → OnErr result (now ≡ was) → length (edits_of was) ≤ length es → AreWithin (length (edits_of was)) counts → AreWithin (length (edits_of now)) counts
published_within (Ok n) now was es counts all same l w = within-more (length (edits_of was)) (length (edits_of now)) counts w (omega (arith, ap length all, l))
published_within (Err e) now was es counts all same l w = subst (λ h. AreWithin (length (edits_of h)) counts) (sym same) w
