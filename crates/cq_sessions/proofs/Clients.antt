-- What a session knows after a submit, and what is submitted.
use Rattle.std.proofs.Common.{◌≡◌, ℕ, ◌+◌, ◌<◌, List, [], ◌∷◌, ◌++◌, Option, Some, None, length, refl, sym, ap, subst, ◌∙◌, inl, inr, append_assoc, append-nil, length-append, arith}
use Rattle.std.proofs.lemmas.List.{length-map, map-append, take_all}
use mathlib.Core.List.{IsPrefix}
use Rattle.cq_board.specs.declared.edit.Why.{Why}
use Rattle.cq_board.specs.Pool.{PoolRecord}
use Rattle.cq_atom.specs.Edit.{Edit}
use Rattle.cq_board.specs.Edits.{why, pool_after}
use Rattle.cq_desk.specs.History.{History, edits_of}
use Rattle.std.specs.Prelude.{IfSome, MatchOption}
use Rattle.cq_desk.specs.declared.reply.End.{End}
use Rattle.cq_desk.specs.declared.reply.End.TheVariants.{Published, Stopped, Unpublished}
use Rattle.cq_desk.specs.Replies.{MatchEnd, accepted, entries_by, journal_edits, replies_at}
use Rattle.cq_desk.specs.declared.journal.Entry.{Entry}
use Rattle.cq_desk.specs.declared.reply.Reply.{Reply}
use Rattle.cq_room.specs.Sessions.{SessionRecord}
use Rattle.cq_room.specs.Receipts.{Heard, entered_before}
use Rattle.cq_sessions.specs.Sessions.{Submitted}
use Rattle.cq_sessions.specs.Steps.Clients.{AreRepliesWithin, IsOpened, TakesEdits, IsSubmission, opened_pool}

edits_append : {E : Type 0} (h t : List (List E)) → edits_of (h ++ t) ≡ edits_of h ++ edits_of t
edits_append [] t = refl
edits_append {E} (p ∷ h) t = ap (λ (z : List E). p ++ z) (edits_append h t) ∙ sym (append_assoc p (edits_of h) (edits_of t))

none_left : {E : Type 0} (es : List E) → length es ≡ 0 → es ≡ []
none_left [] h = refl
none_left (e ∷ es) h = absurd (omega (arith, h))

-- what was known is all that stood before, and nothing was accepted
nothing_new : {E : Type 0} (old now front t before taken : List E) → now ≡ old → now ≡ front ++ t → IsPrefix old before → front ≡ before ++ taken → now ≡ before ++ taken
nothing_new {E} old now front t before taken same more (w, seen) last =
    let a : length front ≡ length before + length taken = ap length last ∙ length-append before taken in
    let b : length before ≡ length old + length w = ap length (sym seen) ∙ length-append old w in
    let c : length now ≡ length front + length t = ap length more ∙ length-append front t in
    let d : length now ≡ length old = ap length same in
    let w0 = none_left w (omega (arith, a, b, c, d)) in
    let t0 = none_left taken (omega (arith, a, b, c, d)) in
    same ∙ sym (append-nil old) ∙ ap (λ (z : List E). old ++ z) (sym w0) ∙ seen ∙ sym (append-nil before) ∙ ap (λ (z : List E). before ++ z) (sym t0)

known_now : (old new : SessionRecord Edit) (front : History (Entry Edit)) (before taken : List (Entry Edit)) → Heard old new front → IsPrefix (edits_of old.history) before → edits_of front ≡ before ++ taken → edits_of new.history ≡ before ++ taken
known_now old new front before taken heard seen last = elim heard.one [
  | inl same ↦ nothing_new (edits_of old.history) (edits_of new.history) (edits_of front) (edits_of heard.told.0) before taken (ap edits_of same) (ap edits_of (sym heard.told.1) ∙ edits_append front heard.told.0) seen last
  | inr is ↦ ap edits_of is ∙ last
]

-- the edits of longer entries are longer
pub prefix_journal : {E : Type 0} (xs ys : List (Entry E)) → IsPrefix xs ys → IsPrefix (journal_edits xs) (journal_edits ys)
prefix_journal xs ys (rest, is) = (journal_edits rest, sym (map-append (λ j. j.edit) xs rest) ∙ ap journal_edits is)

edits_by : {E : Type 0} (author : ℕ) (es : List E) → journal_edits (entries_by author es) ≡ es
edits_by author [] = refl
edits_by {E} author (e ∷ es) = ap (λ (z : List E). e ∷ z) (edits_by author es)

-- the edits of entries with these of one author after them
edits_with : {E : Type 0} (author : ℕ) (xs ys : List (Entry E)) (es : List E) → ys ≡ xs ++ entries_by author es → journal_edits ys ≡ journal_edits xs ++ es
edits_with {E} author xs ys es is = ap journal_edits is ∙ (map-append (λ j. j.edit) xs (entries_by author es) ∙ ap (λ (z : List E). journal_edits xs ++ z) (edits_by author es))

submitted_of : (pools : List PoolRecord) (limit : ℕ) (old new : SessionRecord Edit) (front : History (Entry Edit)) (asked : List Edit) (rs : List (Reply Why)) → IsOpened pools → length rs ≡ length asked
    → IsPrefix (edits_of old.history) (entered_before front asked rs) → AreRepliesWithin pool_after why pools limit (entered_before front asked rs) asked rs → edits_of front ≡ entered_before front asked rs ++ entries_by old.number (accepted asked rs) → Heard old new front
    → Submitted (opened_pool pools) limit (journal_edits (edits_of old.history)) (journal_edits (edits_of new.history)) asked rs
submitted_of pools limit old new front asked rs (pool, is) tried seen replies last heard =
    let before = entered_before front asked rs in
    let first : pools ≡ opened_pool pools ∷ [] = is ∙ ap (λ (p : PoolRecord). p ∷ []) (sym (ap opened_pool is)) in
    record {
      before = journal_edits before;
      seen = prefix_journal (edits_of old.history) before seen;
      told = replies (opened_pool pools) first ∙ ap (replies_at pool_after why (opened_pool pools) limit (journal_edits before)) (take_all (length rs) asked (omega (arith, tried)));
      now = edits_with old.number before (edits_of new.history) (accepted asked rs) (known_now old new front before (entries_by old.number (accepted asked rs)) heard seen last);
    }

-- the answer to a submit all of which is published
pub submission_of : (pools : List PoolRecord) (limit : ℕ) (old new : SessionRecord Edit) (asked : List Edit) (end : End) (front : Option (History (Entry Edit))) (rs : List (Reply Why)) (published : ℕ) → IsOpened pools
    → MatchEnd end (λ count. MatchOption front ⊥ (λ f. count ≡ length (edits_of f))) (front ≡ None) (front ≡ None)
    → MatchEnd end (λ _. length rs ≡ length asked) (length rs < length asked) (length rs ≡ length asked)
    → IfSome front (λ f. IsPrefix (edits_of old.history) (entered_before f asked rs)) → IfSome front (λ f. AreRepliesWithin pool_after why pools limit (entered_before f asked rs) asked rs)
    → IfSome front (λ f. edits_of f ≡ entered_before f asked rs ++ entries_by old.number (accepted asked rs)) → MatchOption front (new ≡ record old { known = new.known }) (λ f. Heard old new f) → MatchEnd end (λ count. published ≡ count) ⊥ ⊥
    → IsSubmission (opened_pool pools) limit (journal_edits (edits_of old.history)) (journal_edits (edits_of new.history)) asked rs published
submission_of pools limit old new asked (Published count) (Some f) rs published opened counted tried seen replies last heard is = record {
  told = submitted_of pools limit old new f asked rs opened tried seen replies last heard;
  tried = tried;
  count = is ∙ counted ∙ ap length (last ∙ sym (known_now old new f (entered_before f asked rs) (entries_by old.number (accepted asked rs)) heard seen last)) ∙ sym (length-map (edits_of new.history) (λ j. j.edit));
}
submission_of pools limit old new asked (Published count) None rs published opened counted tried seen replies last heard is = absurd counted
submission_of pools limit old new asked Stopped front rs published opened counted tried seen replies last heard is = absurd is
submission_of pools limit old new asked Unpublished front rs published opened counted tried seen replies last heard is = absurd is

-- the replies of a state that takes edits as a board does are a board's
pub replies_of_board : (after : PoolRecord → Edit → PoolRecord) (reason : PoolRecord → Edit → Option Why) (pools : List PoolRecord) (limit : ℕ) (asked : List Edit) (front : Option (History (Entry Edit))) (rs : List (Reply Why)) → TakesEdits after reason
    → IfSome front (λ f. AreRepliesWithin after reason pools limit (entered_before f asked rs) asked rs) → IfSome front (λ f. AreRepliesWithin pool_after why pools limit (entered_before f asked rs) asked rs)
replies_of_board after reason pools limit asked front rs takes replies =
    subst (λ (z : PoolRecord → Edit → PoolRecord). IfSome front (λ f. AreRepliesWithin z why pools limit (entered_before f asked rs) asked rs)) takes.0
    (subst (λ (z : PoolRecord → Edit → Option Why). IfSome front (λ f. AreRepliesWithin after z pools limit (entered_before f asked rs) asked rs)) takes.1 replies)

-- what is known by a longer history
pub prefix_edits : (now before : History (Entry Edit)) → IsPrefix before now → IsPrefix (journal_edits (edits_of before)) (journal_edits (edits_of now))
prefix_edits now before (rest, is) = prefix_journal (edits_of before) (edits_of now) (edits_of rest, sym (edits_append before rest) ∙ ap edits_of is)
