-- What contracts see of a session and of a look. (this project's profile)
use Rattle.std.specs.Prelude.{ℕ, List, [], map}
use Rattle.std.specs.List.{range_with_len}
use Rattle.cq_desk.specs.History.{History}
use Rattle.cq_desk.specs.declared.journal.Entry.{Entry}

-- The session's number, the publications of entries that it has seen or heard of, or, of a look, those that it shows, and the entries up to its last submit, published or not.
pub record SessionRecord (E : Type 0) : Type 0 where
  pub number : ℕ
  pub history : History (Entry E)
  pub known : List (Entry E)

-- So many sessions, numbered from 0, that have seen nothing.
abbrev pub newcomers : {E : Type 0} → ℕ → List (SessionRecord E)
newcomers sessions = map (λ k. record { number = k; history = []; known = [] }) (range_with_len 0 sessions)
