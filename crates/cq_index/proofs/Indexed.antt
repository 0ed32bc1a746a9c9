-- The tie between what is kept and the buckets, when a place is filled or emptied.
use Rattle.std.proofs.Common.{◌≡◌, ℕ, Bool, true, false, cond, ◌&&◌, ◌||◌, not, nat_eq, List, [], Some, None, Result, Ok, Err, OnOk, refl, sym, ap, ◌∙◌}
use Rattle.std.proofs.lemmas.Bool.Decides.{Decides-eqb}
use Rattle.cq_atom.specs.Atom.{AtomRecord}
use Rattle.cq_index.specs.declared.buckets.Bucket.{Bucket}
use Rattle.cq_index.specs.Steps.Keys.{KeyContent, same_key, key_of, group_of}
use Rattle.cq_index.specs.Steps.Buckets.{holds, Keeps, IsNowhere, PutsBoth, TakesBoth}
use Rattle.cq_index.specs.Steps.Kept.{atom_at, Sets, belongs, AreIndexed}
use Rattle.cq_index.specs.Steps.Same.{by_bool}

put_here : (b : Bool) → (b && true || false) ≡ b
put_here true = refl
put_here false = refl

put_there : (b h : Bool) → (b && false || h) ≡ h
put_there true h = refl
put_there false h = refl

taken_here : (b : Bool) → (not (b && true) && b) ≡ false
taken_here true = refl
taken_here false = refl

taken_there : (b h : Bool) → (not (b && false) && h) ≡ h
taken_there true h = refl
taken_there false h = refl

module _ {A : Type 0} where
  pub nowhere_of : (old : List (ℕ × AtomRecord)) (buckets : List (KeyContent × Bucket A)) (place : ℕ) → AreIndexed old buckets → atom_at old place ≡ None → IsNowhere buckets place
  nowhere_of old buckets place indexed absent k = indexed k place ∙ ap (λ o. belongs o k) absent

  pub indexed_kept : (old new : List (ℕ × AtomRecord)) (b0 b2 : List (KeyContent × Bucket A)) (place : ℕ) (a : AtomRecord) → AreIndexed old b0 → atom_at old place ≡ None
      → Sets old place (Some a) new → PutsBoth b0 (key_of a) (group_of a) place b2 → AreIndexed new b2
  indexed_kept old new b0 b2 place a indexed absent sets puts k p = by_bool (nat_eq place p) _
      (λ t.
      let none : holds b0 k p ≡ false = ap (λ q. holds b0 k q) (sym ((Decides-eqb place p).0 t)) ∙ nowhere_of old b0 place indexed absent k in
      let after : belongs (atom_at new p) k ≡ (same_key (key_of a) k || same_key (group_of a) k) = ap (λ o. belongs o k) (sets p) ∙ rw t refl in
      puts k p ∙ rw (t, none) (put_here (same_key (key_of a) k || same_key (group_of a) k)) ∙ sym after)
      (λ f.
      let after : belongs (atom_at new p) k ≡ belongs (atom_at old p) k = ap (λ o. belongs o k) (sets p) ∙ rw f refl in
      puts k p ∙ rw f (put_there (same_key (key_of a) k || same_key (group_of a) k) (holds b0 k p)) ∙ indexed k p ∙ sym after)

  pub indexed_forgotten : (old new : List (ℕ × AtomRecord)) (b0 b2 : List (KeyContent × Bucket A)) (place : ℕ) (a : AtomRecord) → AreIndexed old b0 → atom_at old place ≡ Some a
      → Sets old place None new → TakesBoth b0 (key_of a) (group_of a) place b2 → AreIndexed new b2
  indexed_forgotten old new b0 b2 place a indexed present sets takes k p = by_bool (nat_eq place p) _
      (λ t.
      let here : holds b0 k p ≡ (same_key (key_of a) k || same_key (group_of a) k) = ap (λ q. holds b0 k q) (sym ((Decides-eqb place p).0 t)) ∙ indexed k place ∙ ap (λ o. belongs o k) present in
      let after : belongs (atom_at new p) k ≡ false = ap (λ o. belongs o k) (sets p) ∙ rw t refl in
      takes k p ∙ rw (t, here) (taken_here (same_key (key_of a) k || same_key (group_of a) k)) ∙ sym after)
      (λ f.
      let after : belongs (atom_at new p) k ≡ belongs (atom_at old p) k = ap (λ o. belongs o k) (sets p) ∙ rw f refl in
      takes k p ∙ rw f (taken_there (same_key (key_of a) k || same_key (group_of a) k) (holds b0 k p)) ∙ indexed k p ∙ sym after)

  pub indexed_alike : (old new : List (ℕ × AtomRecord)) (b0 b2 : List (KeyContent × Bucket A)) → AreIndexed old b0 → new ≡ old → Keeps b0 b2 → AreIndexed new b2
  indexed_alike old new b0 b2 indexed same keeps k p = keeps k p ∙ indexed k p ∙ ap (λ es. belongs (atom_at es p) k) (sym same)

  pub indexed_empty : (kept : List (ℕ × AtomRecord)) (buckets : List (KeyContent × Bucket A)) → kept ≡ [] → buckets ≡ [] → AreIndexed kept buckets
  indexed_empty kept buckets none empty k p = ap (λ (bs : List (KeyContent × Bucket A)). holds bs k p) empty ∙ sym (ap (λ (es : List (ℕ × AtomRecord)). belongs (atom_at es p) k) none)

pub sets_after : (old between new : List (ℕ × AtomRecord)) (place : ℕ) (a b : AtomRecord) → between ≡ old → Sets between place (Some b) new → b ≡ a → Sets old place (Some a) new
sets_after old between new place a b same sets is p = sets p ∙ (λ i. cond (nat_eq place p) (Some (is i)) (atom_at (same i) p))

pub from_ok : {T E P : Type 0} (r : Result T E) (x : T) → r ≡ Ok x → OnOk r P → P
from_ok (Ok y) x e h = h
from_ok (Err y) x e h = absurd cc
