-- Bytes that are held before they are read.
use Rattle.std.proofs.Common.{◌≡◌, ◌≤◌, ◌+◌, ◌++◌, ℕ, List, length, take, drop, Option, Some, None, sym, ap, ◌∙◌, append_assoc}
use Rattle.std.specs.Io.KnownBytes.{prepend_known, Keeps, Consumes}
use Rattle.std.proofs.lemmas.List.{length-take-le, take-append-le, take-append-drop}
use Rattle.std.proofs.Math.Seq.{take-append-add}
use borrow.Rule.Slice.PartMut.{put_mid, post_of}

-- so many more of those that were put behind the first ones
pub held-more : (a count k : ℕ) (xs ys : List ℕ) → a ≤ length xs → count ≤ length ys → take (a + count) (put_mid a k xs ys) ≡ take a xs ++ take count ys
held-more a count k xs ys low few =
    ap (λ n. take (n + count) (put_mid a k xs ys)) (sym (length-take-le a xs low)) ∙ take-append-add (take a xs) (ys ++ post_of a k xs) count
    ∙ ap (λ l. take a xs ++ l) (take-append-le count ys (post_of a k xs) few)

-- bytes that are held when they were read stay to be read
pub keeps-held : (known after : Option (List ℕ)) (held bytes : List ℕ) → Consumes known after bytes → Keeps (prepend_known held known) (prepend_known (held ++ bytes) after)
keeps-held None after held bytes h = tt
keeps-held (Some xs) None held bytes h = absurd h
keeps-held (Some xs) (Some ys) held bytes h = append_assoc held bytes ys ∙ ap (λ l. held ++ l) (sym h)

pub keeps-on : (a b c : Option (List ℕ)) → Keeps a b → Keeps b c → Keeps a c
keeps-on None b c h k = tt
keeps-on (Some xs) None c h k = absurd h
keeps-on (Some xs) (Some ys) None h k = absurd k
keeps-on (Some xs) (Some ys) (Some zs) h k = k ∙ h

-- bytes that are held are given
pub gives-held : (known : Option (List ℕ)) (held bytes : List ℕ) (count : ℕ) → bytes ≡ take count held → Consumes (prepend_known held known) (prepend_known (drop count held) known) bytes
gives-held None held bytes count h = tt
gives-held (Some xs) held bytes count h =
    ap (λ l. l ++ xs) (sym (take-append-drop count held)) ∙ append_assoc (take count held) (drop count held) xs ∙ ap (λ l. l ++ (drop count held ++ xs)) (sym h)
