-- Marks that go on.
use Rattle.std.proofs.lemmas.List.{append-nil, map-append}
use Rattle.std.proofs.Common.{◌≡◌, ℕ, ◌+◌, ◌<◌, ◌≤◌, Bool, true, false, MatchBool, Option, Some, None, List, [], ◌∷◌, ◌++◌, length, get_or, fold, refl, ap, sym, ◌∙◌, subst, arith, append_assoc, length-append}
use mathlib.Core.List.{IsPrefix}
use Rattle.cq_room.specs.declared.mark.Mark.{Mark}
use Rattle.cq_room.specs.declared.mark.Mark.TheVariants.{Entered, Cut}
use Rattle.cq_room.specs.Steps.Marks.{Ends}
use Rattle.std.proofs.lemmas.Grind.{fold-append}
use Rattle.cq_desk.specs.History.{edits_of, grown}
use Rattle.cq_desk.specs.Replies.{AreAccepted, journal_edits}
use Rattle.cq_desk.specs.declared.journal.Entry.{Entry}
use Rattle.cq_desk.proofs.CallerLemmas.{accepted_more}
use Rattle.cq_room.proofs.Fronts.{prefix_more}
use Rattle.cq_room.specs.Marks.{Leaves, WereAccepted, entries_in, behind, cut_at, publications, fresh_in}

pub entries-append : {E : Type 0} (xs ys : List (Mark E)) → entries_in (xs ++ ys) ≡ entries_in xs ++ entries_in ys
entries-append [] ys = refl
entries-append (Entered e ∷ xs) ys = ap (λ z. e ∷ z) (entries-append xs ys)
entries-append (Cut ∷ xs) ys = entries-append xs ys

-- the edits with one entry more
pub edits_more : {E : Type 0} (xs ys : List (Mark E)) (e : Entry E) → ys ≡ xs ++ Entered e ∷ [] → journal_edits (entries_in ys) ≡ journal_edits (entries_in xs) ++ e.edit ∷ []
edits_more xs ys e is = ap journal_edits (ap entries_in is ∙ entries-append xs (Entered e ∷ [])) ∙ map-append (λ j. j.edit) (entries_in xs) (e ∷ [])

pub behind-append : {E : Type 0} (es : List (Entry E)) (xs ys : List (Mark E)) → behind es (xs ++ ys) ≡ behind (behind es xs) ys
behind-append es [] ys = refl
behind-append es (Entered e ∷ xs) ys = behind-append (es ++ e ∷ []) xs ys
behind-append es (Cut ∷ xs) ys = behind-append [] xs ys

pub cut_at-append : {E : Type 0} (es : List (Entry E)) (xs ys : List (Mark E)) → cut_at es (xs ++ ys) ≡ cut_at es xs ++ cut_at (behind es xs) ys
cut_at-append es [] ys = refl
cut_at-append es (Entered e ∷ xs) ys = cut_at-append (es ++ e ∷ []) xs ys
cut_at-append es (Cut ∷ xs) ys = ap (λ z. es ∷ z) (cut_at-append [] xs ys)

-- a longer history has more publications
pub prefix_publications : {E : Type 0} (xs ys : List (Mark E)) → IsPrefix xs ys → IsPrefix (publications xs) (publications ys)
prefix_publications xs ys p = (cut_at (behind [] xs) p.0, sym (cut_at-append [] xs p.0) ∙ ap publications p.1)

pub count_more : {E : Type 0} (xs ys : List (Mark E)) (e : Entry E) (n : ℕ) → ys ≡ xs ++ Entered e ∷ [] → n ≡ length (entries_in xs) → n + 1 ≡ length (entries_in ys)
count_more xs ys e n is was = let a = ap entries_in is ∙ entries-append xs (Entered e ∷ []) in let b = ap length a ∙ length-append (entries_in xs) (e ∷ []) in omega (arith, b, was)

pub fresh_more : {E : Type 0} (xs ys : List (Mark E)) (e : Entry E) (n : ℕ) → ys ≡ xs ++ Entered e ∷ [] → n ≡ length (fresh_in xs) → n + 1 ≡ length (fresh_in ys)
fresh_more xs ys e n is was = let a = ap fresh_in is ∙ behind-append [] xs (Entered e ∷ []) in let b = ap length a ∙ length-append (fresh_in xs) (e ∷ []) in omega (arith, b, was)

pub count_cut : {E : Type 0} (xs ys : List (Mark E)) → ys ≡ xs ++ Cut ∷ [] → entries_in ys ≡ entries_in xs
count_cut xs ys is = ap entries_in is ∙ (entries-append xs (Cut ∷ []) ∙ append-nil (entries_in xs))

pub fresh_cut : {E : Type 0} (xs ys : List (Mark E)) → ys ≡ xs ++ Cut ∷ [] → fresh_in ys ≡ []
fresh_cut xs ys is = ap fresh_in is ∙ behind-append [] xs (Cut ∷ [])

pub edits_within : {E : Type 0} (xs : List (Mark E)) → length (entries_in xs) ≤ length xs
edits_within [] = omega arith
edits_within (Entered e ∷ xs) = omega (arith, edits_within xs)
edits_within (Cut ∷ xs) = omega (arith, edits_within xs)

pub behind_within : {E : Type 0} (es : List (Entry E)) (xs : List (Mark E)) → length (behind es xs) ≤ length es + length xs
behind_within es [] = omega arith
behind_within es (Entered e ∷ xs) = omega (arith, behind_within (es ++ e ∷ []) xs, length-append es (e ∷ []))
behind_within es (Cut ∷ xs) = omega (arith, behind_within [] xs)

-- entries that stand before the marks, with those of the marks, are those of the publications with those after the last cut
pub edits_split : {E : Type 0} (es : List (Entry E)) (ms : List (Mark E)) → edits_of (cut_at es ms) ++ behind es ms ≡ es ++ entries_in ms
edits_split es [] = sym (append-nil es)
edits_split es (Entered e ∷ ms) = edits_split (es ++ e ∷ []) ms ∙ append_assoc es (e ∷ []) (entries_in ms)
edits_split es (Cut ∷ ms) = append_assoc es (edits_of (cut_at [] ms)) (behind [] ms) ∙ ap (λ z. es ++ z) (edits_split [] ms)

-- a mark is all that a history with one mark more adds
pub one_more : {A : Type 0} (xs ys rest : List A) (m : A) → IsPrefix xs ys → length ys ≡ length xs + 1 → ys ≡ rest ++ m ∷ [] → ys ≡ xs ++ m ∷ []
one_more [] [] rest m p n is = absurd (omega (arith, n))
one_more [] (y ∷ []) [] m p n is = is
one_more [] (y ∷ []) (r ∷ []) m p n is = absurd (omega (arith, ap length is))
one_more [] (y ∷ []) (r ∷ s ∷ rest) m p n is = absurd (omega (arith, ap length is, length-append rest (m ∷ [])))
one_more [] (y ∷ z ∷ ys) rest m p n is = absurd (omega (arith, n))
one_more (x ∷ xs) [] rest m p n is = absurd (omega (arith, n))
one_more (x ∷ xs) (y ∷ ys) [] m p n is = absurd (omega (arith, n, ap length is))
one_more (x ∷ xs) (y ∷ ys) (r ∷ rest) m p n is = let more = one_more xs ys rest m (p.0, cc (p.1)) (omega (arith, n)) (cc is) in cc (p.1, more)

-- what an entry more leaves
pub leaves_more : {E C : Type 0} (after : C → E → C) (os : List C) (xs ys : List (Mark E)) (e : Entry E) (c d : C) → ys ≡ xs ++ Entered e ∷ [] → d ≡ after c e.edit → Leaves after os (entries_in xs) c → Leaves after os (entries_in ys) d
leaves_more after os xs ys e c d is now was o named =
    now ∙ (ap (λ z. after z e.edit) (was o named) ∙ (sym (fold-append after o (journal_edits (entries_in xs)) (e.edit ∷ [])) ∙ ap (fold after o) (sym (edits_more xs ys e is))))

pub leaves_cut : {E C : Type 0} (after : C → E → C) (os : List C) (xs ys : List (Mark E)) (c : C) → ys ≡ xs ++ Cut ∷ [] → Leaves after os (entries_in xs) c → Leaves after os (entries_in ys) c
leaves_cut after os xs ys c is was o named = was o named ∙ ap (λ es. fold after o (journal_edits es)) (sym (count_cut xs ys is))

pub edits_whole : {E : Type 0} (ms : List (Mark E)) → fresh_in ms ≡ [] → edits_of (publications ms) ≡ entries_in ms
edits_whole ms none = sym (append-nil (edits_of (publications ms))) ∙ (ap (λ z. edits_of (publications ms) ++ z) (sym none) ∙ edits_split [] ms)

pub leaves_whole : {E C : Type 0} (after : C → E → C) (os : List C) (ms : List (Mark E)) (c : C) → fresh_in ms ≡ [] → Leaves after os (entries_in ms) c → Leaves after os (edits_of (publications ms)) c
leaves_whole after os ms c none was = subst (λ es. Leaves after os es c) (sym (edits_whole ms none)) was

pub follows_edit : {E C : Type 0} (after : C → E → C) (os : List C) (xs ys : List (Mark E)) (e : Entry E) (c d : C) → IsPrefix xs ys × (length ys ≡ length xs + 1) → Ends ys (Some e) → d ≡ after c e.edit → Leaves after os (entries_in xs) c → Leaves after os (entries_in ys) d
follows_edit after os xs ys e c d next end now was = leaves_more after os xs ys e c d (one_more xs ys end.0 (Entered e) next.0 next.1 end.1) now was

pub follows_cut : {E C : Type 0} (after : C → E → C) (os : List C) (xs ys : List (Mark E)) (c : C) → IsPrefix xs ys × (length ys ≡ length xs + 1) → Ends ys None → Leaves after os (entries_in xs) c → Leaves after os (entries_in ys) c
follows_cut after os xs ys c next end was = leaves_cut after os xs ys c (one_more xs ys end.0 Cut next.0 next.1 end.1) was

pub pubs_entered : {E : Type 0} (xs ys : List (Mark E)) (e : Entry E) → ys ≡ xs ++ Entered e ∷ [] → publications ys ≡ publications xs
pubs_entered xs ys e is = ap publications is ∙ (cut_at-append [] xs (Entered e ∷ []) ∙ append-nil (publications xs))

pub fresh_entered : {E : Type 0} (xs ys : List (Mark E)) (e : Entry E) → ys ≡ xs ++ Entered e ∷ [] → fresh_in ys ≡ fresh_in xs ++ e ∷ []
fresh_entered xs ys e is = ap fresh_in is ∙ behind-append [] xs (Entered e ∷ [])

grown_full : {E : Type 0} (h : List (List E)) (p : List E) → 0 < length p → h ++ p ∷ [] ≡ grown h p
grown_full h [] some = absurd (omega (arith, some))
grown_full h (e ∷ p) some = refl

pub pubs_cut : {E : Type 0} (xs ys : List (Mark E)) → ys ≡ xs ++ Cut ∷ [] → 0 < length (fresh_in xs) → publications ys ≡ grown (publications xs) (fresh_in xs)
pubs_cut xs ys is some = ap publications is ∙ (cut_at-append [] xs (Cut ∷ []) ∙ grown_full (publications xs) (fresh_in xs) some)

-- with nothing after the last cut, what would be grown is what stands
pub grown_none : {E : Type 0} (h : List (List E)) (p : List E) → p ≡ [] → grown h p ≡ h
grown_none h p none = ap (grown h) none

pub cut_same : {E : Type 0} (xs ys : List (Mark E)) → ys ≡ xs ++ Cut ∷ [] → 0 < length (fresh_in xs) → grown (publications ys) (fresh_in ys) ≡ grown (publications xs) (fresh_in xs)
cut_same xs ys is some = grown_none (publications ys) (fresh_in ys) (fresh_cut xs ys is) ∙ pubs_cut xs ys is some

pub prefix_edits : {E : Type 0} (xs ys : List (Mark E)) → IsPrefix xs ys → IsPrefix (entries_in xs) (entries_in ys)
prefix_edits xs ys p = (entries_in p.0, sym (entries-append xs p.0) ∙ ap entries_in p.1)

pub behind_edits : {E : Type 0} (b : Bool) (xs ys : List (Mark E)) (h : List (List (Entry E))) → publications xs ≡ h → fresh_in xs ≡ [] → MatchBool b (IsPrefix xs ys) (IsPrefix ys xs) → MatchBool b (IsPrefix (edits_of h) (entries_in ys)) (Unit {0})
behind_edits true xs ys h is none p = subst (λ es. IsPrefix es (entries_in ys)) (sym (edits_whole xs none) ∙ ap edits_of is) (prefix_edits xs ys p)
behind_edits false xs ys h is none p = tt

-- what is known of the entries begins those of a longer trail
pub known_edits : {E : Type 0} (b : Bool) (xs ys : List (Mark E)) (known : List (Entry E)) → entries_in xs ≡ known → MatchBool b (IsPrefix xs ys) (IsPrefix ys xs) → MatchBool b (IsPrefix known (entries_in ys)) (Unit {0})
known_edits true xs ys known is p = subst (λ es. IsPrefix es (entries_in ys)) is (prefix_edits xs ys p)
known_edits false xs ys known is p = tt

-- a trail of the entries of a journal goes on by the entry that stands after it
pub entered_more : {E : Type 0} (xs ys : List (Mark E)) (journal : List (Entry E)) (e : Entry E) (n : ℕ) → IsPrefix (entries_in xs) journal → length (entries_in xs) ≡ n → n < length journal → e ≡ get_or journal n e → ys ≡ xs ++ Entered e ∷ [] → IsPrefix (entries_in ys) journal
entered_more xs ys journal e n p count less at is =
    subst (λ es. IsPrefix es journal) (sym (ap entries_in is ∙ entries-append xs (Entered e ∷ [])))
    (prefix_more (entries_in xs) journal e p (omega (arith, count, less)) (at ∙ ap (λ k. get_or journal k e) (sym count)))

module _ {E C W : Type 0} (after : C → E → C) (why : C → E → Option W) (os : List C) where
  pub accepted_whole : (ms : List (Mark E)) → fresh_in ms ≡ [] → WereAccepted after why os (entries_in ms) → WereAccepted after why os (edits_of (publications ms))
  accepted_whole ms none was = subst (WereAccepted after why os) (sym (edits_whole ms none)) was

  pub accepted_none : (ms : List (Mark E)) → ms ≡ [] → WereAccepted after why os (entries_in ms)
  accepted_none ms none = subst (λ xs. WereAccepted after why os (entries_in xs)) (sym none) (λ o named. tt)

  pub accepted_edit : (xs ys : List (Mark E)) (e : Entry E) (c : C) → IsPrefix xs ys × (length ys ≡ length xs + 1) → Ends ys (Some e) → why c e.edit ≡ None → Leaves after os (entries_in xs) c → WereAccepted after why os (entries_in xs) → WereAccepted after why os (entries_in ys)
  accepted_edit xs ys e c next end none leaves was o named =
      let is : ys ≡ xs ++ Entered e ∷ [] = one_more xs ys end.0 (Entered e) next.0 next.1 end.1 in
      subst (AreAccepted after why o) (sym (edits_more xs ys e is)) (accepted_more after why o (journal_edits (entries_in xs)) e.edit (was o named) (subst (λ z. why z e.edit ≡ None) (leaves o named) none))

  pub accepted_cut : (xs ys : List (Mark E)) → IsPrefix xs ys × (length ys ≡ length xs + 1) → Ends ys None → WereAccepted after why os (entries_in xs) → WereAccepted after why os (entries_in ys)
  accepted_cut xs ys next end was = subst (WereAccepted after why os) (sym (count_cut xs ys (one_more xs ys end.0 Cut next.0 next.1 end.1))) was

-- marks that end in no entry hold a publication, if there are any
some_cut : {E : Type 0} (es : List (Entry E)) (ms : List (Mark E)) → 0 < length ms → behind es ms ≡ [] → 0 < length (cut_at es ms)
some_cut es [] some none = absurd (omega (arith, some))
some_cut es (Cut ∷ ms) some none = omega arith
some_cut es (Entered e ∷ []) some none = absurd (omega (arith, ap length none, length-append es (e ∷ [])))
some_cut es (Entered e ∷ m ∷ ms) some none = some_cut (es ++ e ∷ []) (m ∷ ms) (omega arith) none

-- of two histories that end in no entry the longer has more publications
pub more_publications : {E : Type 0} (xs ys : List (Mark E)) → IsPrefix xs ys → length xs < length ys → fresh_in xs ≡ [] → fresh_in ys ≡ [] → length (publications xs) < length (publications ys)
more_publications xs ys p less none whole =
    let some : 0 < length p.0 = omega (arith, less, ap length p.1, length-append xs p.0) in
    let gone : behind (behind [] xs) p.0 ≡ [] = sym (behind-append [] xs p.0) ∙ (ap fresh_in p.1 ∙ whole) in
    let more = some_cut (behind [] xs) p.0 some gone in
    let all : length (publications ys) ≡ length (publications xs) + length (cut_at (behind [] xs) p.0) = ap length (sym (ap publications p.1) ∙ cut_at-append [] xs p.0) ∙ length-append (publications xs) (cut_at (behind [] xs) p.0) in
    omega (arith, more, all)

-- of two histories that end in no entry one begins the other
pub one_begins : {E : Type 0} (b : Bool) (xs ys : List (Mark E)) → fresh_in xs ≡ [] → fresh_in ys ≡ [] → MatchBool b (IsPrefix xs ys) (IsPrefix ys xs) → MatchBool b (Unit {0}) (length ys < length xs)
    → MatchBool b (IsPrefix (publications xs) (publications ys)) (IsPrefix (publications ys) (publications xs) × (length (publications ys) < length (publications xs)))
one_begins true xs ys none whole p less = prefix_publications xs ys p
one_begins false xs ys none whole p less = (prefix_publications ys xs p, more_publications ys xs p less whole none)
