-- A state that takes the edits of a journal in, one after another.
use Rattle.std.proofs.Common.{◌≡◌, ℕ, ◌+◌, ◌<◌, List, [], ◌∷◌, ◌++◌, length, take, get_or, fold, ap, sym, ◌∙◌, arith}
use Rattle.std.proofs.lemmas.List.{map-append, take_more}
use Rattle.std.proofs.lemmas.Grind.{fold-append}
use Rattle.cq_desk.specs.Plain.{IsPublished}
use Rattle.cq_desk.specs.Replies.{journal_edits}
use Rattle.cq_desk.specs.declared.journal.Entry.{Entry}

module _ {C E : Type 0} (after : C → E → C) where
  pub takes_on : (opening now next : C) (js : List (Entry E)) (e : Entry E) (n : ℕ) → n < length js → e ≡ get_or js n e → next ≡ after now e.edit → now ≡ fold after opening (journal_edits (take n js)) → next ≡ fold after opening (journal_edits (take (n + 1) js))
  takes_on opening now next js e n short at is was =
      let more : take (n + 1) js ≡ take n js ++ e ∷ [] = take_more js n e short ∙ ap (λ z. take n js ++ z ∷ []) (sym at) in
      let edits : journal_edits (take (n + 1) js) ≡ journal_edits (take n js) ++ e.edit ∷ [] = ap journal_edits more ∙ map-append (λ j. j.edit) (take n js) (e ∷ []) in
      is ∙ (ap (λ c. after c e.edit) was ∙ (sym (fold-append after opening (journal_edits (take n js)) (e.edit ∷ [])) ∙ ap (fold after opening) (sym edits)))

  pub published_on : (opening shown now next : C) (js : List (Entry E)) (lengths : List ℕ) (published taken : ℕ) (e : Entry E) → taken < length js → e ≡ get_or js taken e → next ≡ after now e.edit → IsPublished after opening shown now js lengths published taken → IsPublished after opening shown next js lengths published (taken + 1)
  published_on opening shown now next js lengths published taken e short at is was = record {
    shows = was.shows;
    follows = takes_on opening now next js e taken short at is was.follows;
    cuts = was.cuts;
    last = was.last;
    published_within = was.published_within;
    taken_within = omega (arith, short);
    lengths_within = was.lengths_within;
  }
