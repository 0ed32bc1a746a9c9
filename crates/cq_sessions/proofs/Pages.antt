-- What is put on a script piece by piece.
use Rattle.std.proofs.Common.{◌≡◌, ℕ, ◌+◌, List, [], ◌∷◌, ◌++◌, Option, Some, None, map, drop, refl, sym, ap, ◌∙◌, append-nil, add-one}
use Rattle.std.specs.Prelude.{codes, decimal}
use Rattle.std.specs.List.{slice_get}
use Rattle.cq_desk.specs.declared.journal.Entry.{Entry}
use Rattle.cq_atom.specs.Edit.{Edit}
use Rattle.cq_sessions.specs.Script.{Sheet, entry_lines, entries_from, replies_from, sheets_from}
use Rattle.cq_board.proofs.CallerLemmas.{ahead_at}

ahead : {X : Type 0} (xs : List X) (i : ℕ) (x : X) → slice_get xs i ≡ Some x → drop i xs ≡ x ∷ drop (i + 1) xs
ahead xs i x got = rw add-one (ahead_at xs i x got)

pub entries_step : (journal : List (Entry Edit)) (i : ℕ) (entry : Entry Edit) → slice_get journal i ≡ Some entry → entries_from (i + 1) (drop i journal) ≡ entry_lines (i + 1) entry ++ entries_from (i + 1 + 1) (drop (i + 1) journal)
entries_step journal i entry got = ap (entries_from (i + 1)) (ahead journal i entry got)

replies_one : (words : List ℕ) (n : ℕ) (reply : Option (List ℕ)) (sheet : Sheet) → replies_from words n (reply ∷ sheet) ≡ replies_from words n (reply ∷ []) ++ replies_from words (n + 1) sheet
replies_one words n None sheet = refl
replies_one words n (Some reply) sheet =
    ap (λ (z : List ℕ). z ++ replies_from words (n + 1) sheet) (sym (append-nil (codes "# " ++ words ++ codes " line " ++ decimal n ++ codes " " ++ reply)))

pub replies_step : (words : List ℕ) (sheet : Sheet) (i : ℕ) (reply : Option (List ℕ)) → slice_get sheet i ≡ Some reply → replies_from words (i + 1) (drop i sheet) ≡ replies_from words (i + 1) (reply ∷ []) ++ replies_from words (i + 1 + 1) (drop (i + 1) sheet)
replies_step words sheet i reply got = ap (replies_from words (i + 1)) (ahead sheet i reply got) ∙ replies_one words (i + 1) reply (drop (i + 1) sheet)

pub sheets_step : {S : Type 0} (f : S → Sheet) (sheets : List S) (i : ℕ) (sheet : S) → slice_get sheets i ≡ Some sheet → sheets_from i (map f (drop i sheets)) ≡ sheets_from i (f sheet ∷ []) ++ sheets_from (i + 1) (map f (drop (i + 1) sheets))
sheets_step f sheets i sheet got = ap (λ z. sheets_from i (map f z)) (ahead sheets i sheet got) ∙ ap (λ (z : List ℕ). z ++ sheets_from (i + 1) (map f (drop (i + 1) sheets))) (sym (append-nil (replies_from (codes "session " ++ decimal i) 1 (f sheet))))
