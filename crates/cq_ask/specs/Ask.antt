-- Which lines ask, and what. (this project's profile)
use Rattle.std.specs.Prelude.{ℕ, Bool, true, false, not, List, [], ◌∷◌, length, filter, take, drop, codes, ◌==◌, ◌-◌, ◌&&◌, nat_le, nat_lt, pos, Option, Some, None, option_map, if◌then◌else◌}
use Rattle.std.specs.List.{prefix_len, slice_split, list_all}
use Rattle.std.specs.Str.{bytes_eq}
use Rattle.cq_atom.specs.Text.{is_name}
use Rattle.cq_atom.specs.Value.{ValueContent}
use Rattle.cq_atom.specs.declared.value.Content.TheVariants.{Number}
use Rattle.cq_text.specs.Limits.{max_bytes}
use Rattle.cq_text.specs.Lexing.{is_space}
use Rattle.cq_text.specs.Field.{value_of_field}
use Rattle.cq_ask.specs.declared.ask.AskKind.{AskKind}
use Rattle.cq_ask.specs.declared.ask.AskKind.TheVariants.{Count, Status, Query, Explain, Near, Choice, Choose, Groups, Changes, Graph, Json, Dump, Find, Checkpoint, Help, Quit, Unfit}

-- What is asked, and the names that it is asked of, or the text that has the choices or the body.
pub record AskRecord : Type 0 where
  pub kind : AskKind
  pub names : List (List ℕ)
  pub text : List ℕ

-- A byte of a word.
abbrev pub is_part : ℕ → Bool
is_part b = not (is_space b)

-- The words of a text: what stands between spaces.
abbrev pub words_of : List ℕ → List (List ℕ)
words_of text = filter (λ word. not (length word == 0)) (slice_split is_space text)

-- The first word of a line, and what stands after it.
abbrev pub cut_word : List ℕ → List ℕ × List ℕ
cut_word line =
    let rest = drop (prefix_len is_space line) line in
    (take (prefix_len is_part rest) rest, drop (prefix_len is_part rest) rest)

-- The words that ask.
abbrev pub kind_of : List ℕ → Option AskKind
kind_of word =
    if bytes_eq word (codes "count") then Some Count else (if bytes_eq word (codes "status") then Some Status else (if bytes_eq word (codes "query") then Some Query
    else (if bytes_eq word (codes "explain") then Some Explain else (if bytes_eq word (codes "near") then Some (Near 0) else (if bytes_eq word (codes "choice") then Some Choice else (if bytes_eq word (codes "choose") then Some Choose else (if bytes_eq word (codes "groups") then Some Groups else (if bytes_eq word (codes "changes") then Some Changes else (if bytes_eq word (codes "graph") then Some Graph else (if bytes_eq word (codes "json") then Some Json
    else (if bytes_eq word (codes "dump") then Some Dump else (if bytes_eq word (codes "find") then Some (Find 0)
    else (if bytes_eq word (codes "checkpoint") then Some Checkpoint else (if bytes_eq word (codes "help") then Some Help else (if bytes_eq word (codes "quit") then Some Quit else None)))))))))))))))

-- Of how many names it may be asked.
abbrev pub takes : AskKind → ℕ → Bool
takes Status count = nat_le 1 count
takes Query count = count == 1
takes Explain count = true
takes (Near post) count = count == 1
takes Choice count = true
takes (Find at) count = true
takes Choose count = true
takes Unfit count = true
takes _ count = count == 0

-- The kinds that are asked of nothing: no names and no choices come after the word.
abbrev pub takes_no_names : AskKind → Bool
takes_no_names Count = true
takes_no_names Groups = true
takes_no_names Changes = true
takes_no_names Graph = true
takes_no_names Json = true
takes_no_names Dump = true
takes_no_names Checkpoint = true
takes_no_names Help = true
takes_no_names Quit = true
takes_no_names _ = false

-- The words do not fit.
abbrev pub unfit : AskRecord
unfit = record { kind = Unfit; names = []; text = [] }

-- What is asked by a word of that kind before others, which are to be names.
abbrev pub asked_of_names : AskKind → List (List ℕ) → AskRecord
asked_of_names kind words = if takes kind (length words) && list_all is_name words then record { kind = kind; names = words; text = [] } else unfit

-- The number below 256 that a value is.
abbrev pub small_number : Option ValueContent → Option ℕ
small_number (Some (Number (pos n))) = if nat_lt n 256 then Some n else None
small_number _ = None

-- The postcondition that a word names, by its number.
abbrev pub post_of : List ℕ → Option ℕ
post_of word = small_number (value_of_field word)

-- What is asked by `near` of a name and the number of a postcondition, where the word was one.
abbrev pub near_asked : Option ℕ → List ℕ → AskRecord
near_asked None name = unfit
near_asked (Some post) name = asked_of_names (Near post) (name ∷ [])

-- What is asked by `near` before others: of a name and a postcondition.
abbrev pub asked_of_post : List (List ℕ) → AskRecord
asked_of_post (name ∷ post ∷ []) = near_asked (post_of post) name
asked_of_post _ = unfit

-- What is asked by `find` before a text that begins at this place of the line: of the body in the text, unless the text is blank.
abbrev pub asked_of_body : ℕ → List ℕ → AskRecord
asked_of_body place text = if length (words_of text) == 0 then unfit else record { kind = Find place; names = []; text = text }

-- What is asked by a word of that kind before a text that begins at this place of the line: of the words of the text, or of the choices or the body in it.
abbrev pub asked_of : AskKind → ℕ → List ℕ → AskRecord
asked_of (Near post) place text = asked_of_post (words_of text)
asked_of Choice place text = record { kind = Choice; names = []; text = text }
asked_of (Find at) place text = asked_of_body place text
asked_of kind place text = asked_of_names kind (words_of text)

-- What a line asks, if its first word asks and it is no longer than a line may be.
abbrev pub asked : List ℕ → Option AskRecord
asked line =
    if nat_le (length line) max_bytes then option_map (λ kind. asked_of kind (length line - length (cut_word line).1) (cut_word line).1) (kind_of (cut_word line).0) else None

-- Whether it is asked that no further line is heard.
abbrev pub is_quit : AskKind → Bool
is_quit Quit = true
is_quit _ = false

-- Whether a checkpoint is asked for.
abbrev pub is_checkpoint : AskKind → Bool
is_checkpoint Checkpoint = true
is_checkpoint _ = false

-- Whether groundings of a body are asked for.
abbrev pub is_find : AskKind → Bool
is_find (Find place) = true
is_find _ = false
