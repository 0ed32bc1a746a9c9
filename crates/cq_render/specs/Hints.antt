-- What is like that which a query lacks. (this project's profile)
use Rattle.std.specs.Prelude.{ℕ, ◌==◌, List, [], ◌∷◌, ◌++◌, codes, decimal, if◌then◌else◌}
use Rattle.std.specs.List.{flat_map, enumerate_from, slice_get, join_by}
use Rattle.std.specs.Option.{option_map_or}
use Rattle.cq_atom.specs.Value.{ValueContent}
use Rattle.cq_atom.specs.Atom.{AtomRecord}
use Rattle.cq_text.specs.Print.{printed_atom, printed_value}
use Rattle.cq_near.specs.declared.unfit.Unfit.{Unfit}
use Rattle.cq_near.specs.Alike.{likeness}
use Rattle.cq_near.specs.Unfit.{first_unfit}
use Rattle.cq_near.specs.declared.clash.Clash.{Clash}
use Rattle.cq_near.specs.Clash.{first_clash}
use Rattle.cq_rel.specs.Tables.{TablesRecord}
use Rattle.cq_board.specs.Pool.{PendingQuery, PoolRecord}
use Rattle.cq_board.specs.Near.{post_named}

-- A head that is like what is wanted: how far it is, the number of its query in posting order, and its place among the heads.
abbrev pub like_if : AtomRecord → ℕ → ℕ × AtomRecord → List (ℕ × ℕ × ℕ)
like_if wanted number (head, offered) = option_map_or (λ changes. (changes, number, head) ∷ []) (likeness wanted offered) []

-- All heads of other pending queries that are like it.
abbrev pub likes_of : AtomRecord → ℕ → List PendingQuery → List (ℕ × ℕ × ℕ)
likes_of wanted waiter pending =
    flat_map (λ p. if p.0 == waiter then [] else flat_map (like_if wanted p.0) (enumerate_from 0 p.1.query.heads)) (enumerate_from 0 pending)

-- All that are like the postcondition of the query of that name and number: none, where there is no such postcondition.
abbrev pub likes_named : List ℕ → ℕ → ℕ → List PendingQuery → List (ℕ × ℕ × ℕ)
likes_named name waiter post pending = option_map_or (λ wanted. likes_of wanted waiter pending) (post_named name post pending) []

-- One row, or rows.
abbrev pub rows_word : ℕ → List ℕ
rows_word count = if count == 1 then codes "row" else codes "rows"

-- For which values the nearest row does not fit.
abbrev pub near_values : List ValueContent → List ℕ
near_values [] = []
near_values (value ∷ values) = codes "; near " ++ join_by printed_value (codes ", ") (value ∷ values)

-- An atom that no row fits.
abbrev pub unfit_words : Unfit AtomRecord (List ValueContent) → List ℕ
unfit_words found =
    codes ": " ++ (printed_atom found.atom ++ (codes ": 0 of " ++ (decimal found.rows ++ (codes " " ++ (rows_word found.rows ++ near_values found.near)))))

-- An atom that has no grounding together with those before it.
abbrev pub clash_words : Clash AtomRecord → List ℕ
clash_words found = codes ": " ++ (printed_atom found.atom ++ (codes ": 0 of " ++ (decimal found.rows ++ (codes " " ++ (rows_word found.rows ++ codes " with the atoms before it")))))

-- What a body lacks: the first atom that no row fits by itself; where each fits one, the first that has no grounding together with those before it.
abbrev pub body_lack : TablesRecord → List AtomRecord → List ℕ
body_lack tables body = option_map_or unfit_words (first_unfit tables body) (option_map_or clash_words (first_clash tables body) [])

-- What the body of the query of that number lacks.
abbrev pub lack_words : PoolRecord → ℕ → List ℕ
lack_words pool number = option_map_or (λ posted. body_lack pool.tables posted.query.body) (slice_get pool.pending number) []
