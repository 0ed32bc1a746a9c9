-- Why pending queries wait: a text made of whole lines. (this project's profile)
use Rattle.std.specs.Prelude.{◌≡◌, ◌↔◌, ℕ, Bool, true, false, ◌==◌, List, [], ◌∷◌, ◌++◌, length, map, filter, codes, decimal, if◌then◌else◌, Option, Some, None}
use Rattle.std.specs.List.{Contains, slice_get, flat_map, join_by}
use Rattle.std.specs.List.Sorted.{IsStrictlyIncreasing}
use Rattle.std.specs.Option.{option_and_then}
use Rattle.cq_atom.specs.Text.{is_name}
use Rattle.cq_atom.specs.Atom.{AtomRecord}
use Rattle.cq_text.specs.Print.{printed_atom}
use Rattle.cq_match.specs.Falling.{AreAllRounds}
use Rattle.cq_match.specs.Graph.{edges_to}
use Rattle.cq_match.specs.declared.falls.Fall.{Fall}
use Rattle.cq_match.specs.declared.falls.Reason.{Reason}
use Rattle.cq_match.specs.declared.falls.Reason.TheVariants.{NotAble, Unmet}
use Rattle.cq_board.specs.declared.near.NearMiss.{NearMiss}
use Rattle.cq_board.specs.Pool.{PendingQuery, PoolRecord, name_of}
use Rattle.cq_board.specs.Edges.{edges_of}
use Rattle.cq_board.specs.Board.{name_at, name_or_none, nodes_of, place_of}
use Rattle.cq_board.specs.Named.{query_named, matched_named}
use Rattle.cq_board.specs.Near.{post_named, misses_named, miss_named, AreNearest}
use Rattle.cq_board.specs.Waiting.{is_waiting, IsReasonPart}
use Rattle.cq_render.specs.declared.extent.Extent.{Extent}
use Rattle.cq_render.specs.declared.extent.Extent.TheVariants.{All, Causes}
use Rattle.cq_render.specs.declared.hints.Hints.{Hints}
use Rattle.cq_render.specs.declared.hints.Hints.TheVariants.{Misses, Likes}
use Rattle.cq_render.specs.Hints.{likes_named, lack_words}
use Rattle.cq_render.specs.Report.{line}

-- A text, or another list, is made of pieces, one for each element of a list, in its order, which tells that element.
abbrev pub ArePieces : {X Y : Type 0} → (X → List Y → Type 0) → List X → List Y → Type 0
ArePieces tells [] text = text ≡ []
ArePieces {X} {Y} tells (x ∷ xs) text = (piece : List Y) × (rest : List Y) × tells x piece × ArePieces tells xs rest × (text ≡ piece ++ rest)

-- The atom in its printed form, or nothing where there is none.
abbrev pub atom_or_none : Option AtomRecord → List ℕ
atom_or_none None = []
atom_or_none (Some atom) = printed_atom atom

-- A head of the pending query of that name, where there is one.
abbrev pub head_named : List ℕ → ℕ → List PendingQuery → Option AtomRecord
head_named name head pending = option_and_then (λ query. slice_get query.heads head) (query_named name pending)

-- A head that nearly supplies: its query, its place among the heads, and its printed form.
abbrev pub near_words : List PendingQuery → List ℕ → ℕ → List ℕ
near_words pending provider head = provider ++ codes " head " ++ decimal head ++ codes " " ++ atom_or_none (head_named provider head pending)

-- A head that misses.
abbrev pub miss_words : List PendingQuery → NearMiss (List ℕ) → List ℕ
miss_words pending near = near_words pending near.provider near.head

-- There is no provider, but heads that are told so are near.
abbrev pub missing_words : List (List ℕ) → List ℕ
missing_words [] = codes "no provider"
missing_words (near ∷ more) = codes "no provider; near: " ++ join_by (λ words. words) (codes ", ") (near ∷ more)

-- The numbers of the queries from which an edge to the postcondition comes, each once, in posting order.
pub record AreProviders (pending : List PendingQuery) (waiter post : ℕ) (numbers : List ℕ) : Type 0 where
  pub rising : IsStrictlyIncreasing numbers
  pub exact : (n : ℕ) → Contains numbers n ↔ Contains (map (λ edge. edge.provider) (edges_to waiter post (edges_of pending))) n

-- The name of the query of that number in posting order.
abbrev pub name_of_number : List PendingQuery → ℕ → List ℕ
name_of_number pending number = name_or_none (name_at pending number)

-- One waits, and more of them wait.
abbrev pub wait_word : ℕ → List ℕ
wait_word count = if count == 1 then codes "waits" else codes "wait"

-- Who alone could supply.
abbrev pub only_words : List (List ℕ) → List ℕ
only_words names = codes "only " ++ join_by (λ name. name) (codes ", ") names ++ codes ", who " ++ wait_word (length names)

-- The words for a head that is like a postcondition: how far it is, the number of its query, and its place among the heads.
abbrev pub like_words : List PendingQuery → ℕ × ℕ × ℕ → List ℕ
like_words pending like = near_words pending (name_of_number pending like.1) like.2

-- The heads that are told to be near to a postcondition: those that miss it in the fewest constants, or those that are most like it.
abbrev pub IsNear : Hints → List PendingQuery → List ℕ → ℕ → ℕ → List (List ℕ) → Type 0
IsNear Misses pending name waiter post told =
    (nearest : List (ℕ × ℕ × ℕ)) × AreNearest (misses_named name post pending) nearest × (told ≡ map (miss_words pending) (map (miss_named pending) nearest))
IsNear Likes pending name waiter post told =
    (nearest : List (ℕ × ℕ × ℕ)) × AreNearest (likes_named name waiter post pending) nearest × (told ≡ map (like_words pending) nearest)

-- What is reported about an unmet postcondition, by its providers: all of them wait, or there is none, and then the heads are named that are nearest.
abbrev pub IsUnmetTold : Hints → List PendingQuery → List ℕ → ℕ → ℕ → List (List ℕ) → List ℕ → Type 0
IsUnmetTold hints pending name waiter post [] words = (near : List (List ℕ)) × IsNear hints pending name waiter post near × (words ≡ missing_words near)
IsUnmetTold hints pending name waiter post (provider ∷ providers) words = words ≡ only_words (provider ∷ providers)

-- What is told of a body that has no grounding: nothing more, or what it lacks.
abbrev pub body_words : Hints → PoolRecord → ℕ → List ℕ
body_words Misses pool number = []
body_words Likes pool number = lack_words pool number

-- A reason why the query of that name and number waits, once those wait that are named before it.
abbrev pub IsReasonTold : Hints → PoolRecord → List ℕ → ℕ → Reason → List ℕ → Type 0
IsReasonTold hints pool name waiter NotAble words = words ≡ codes "no row for its body" ++ body_words hints pool waiter
IsReasonTold hints pool name waiter (Unmet post) words =
    (providers : List ℕ) × AreProviders pool.pending waiter post providers
    × (unmet : List ℕ) × IsUnmetTold hints pool.pending name waiter post (map (name_of_number pool.pending) providers) unmet
    × (words ≡ codes "post " ++ decimal post ++ codes " " ++ atom_or_none (post_named name post pool.pending) ++ codes ": " ++ unmet)

-- A query, and why it waits, in a line: its name behind a front, and the reason behind a separator.
abbrev pub IsReasonLine : (front separator : List ℕ) → Hints → PoolRecord → Fall → List ℕ → Type 0
IsReasonLine front separator hints pool fall line =
    let name = name_of_number pool.pending fall.node in
    (words : List ℕ) × IsReasonTold hints pool name fall.node fall.reason words × (line ≡ front ++ (name ++ (separator ++ (words ++ codes "\n"))))

-- A reason that rests on no other query: no row was found, or nobody supplies the postcondition, whether it is matched or waits.
abbrev pub is_cause : List PendingQuery → ℕ → Reason → Bool
is_cause pending waiter NotAble = true
is_cause pending waiter (Unmet post) = length (edges_to waiter post (edges_of pending)) == 0

-- All reasons are told, or the causes alone.
abbrev pub is_told : Extent → List PendingQuery → Fall → Bool
is_told All pending fall = true
is_told Causes pending fall = is_cause pending fall.node fall.reason

-- What is told so, or nothing.
abbrev pub IsIfTold : Bool → (List ℕ → Type 0) → List ℕ → Type 0
IsIfTold true tells text = tells text
IsIfTold false tells text = text ≡ []

-- Such lines, one for each of the falls that are told.
abbrev pub AreReasonLines : (front separator : List ℕ) → Hints → Extent → PoolRecord → List Fall → List ℕ → Type 0
AreReasonLines front separator hints extent pool falls text =
    ArePieces (λ fall. IsIfTold (is_told extent pool.pending fall) (IsReasonLine front separator hints pool fall)) falls text

-- What is reported about a query that waits: its name, and a step for each query on which it rests, itself last; or for each of these that has a cause.
pub record IsExplanation (extent : Extent) (pool : PoolRecord) (name : List ℕ) (text : List ℕ) : Type 0 where
  pub place : ℕ
  pub there : place_of name pool.pending ≡ Some place
  pub part : List Fall
  pub reason : IsReasonPart pool place part
  pub steps : List ℕ
  pub told : AreReasonLines (codes "  ") (codes ": ") Misses extent pool part steps
  pub is : text ≡ name ++ codes " waits\n" ++ steps

-- Whether the query that a word names is matched; nothing where it names no pending one.
abbrev pub state_of : PoolRecord → List ℕ → Option Bool
state_of pool word = if is_name word then matched_named word pool else None

-- What is reported about a word, by what it names.
abbrev pub IsToldBy : Option Bool → Extent → PoolRecord → List ℕ → List ℕ → Type 0
IsToldBy None extent pool word text = text ≡ []
IsToldBy (Some true) extent pool word text = text ≡ word ++ codes " is matched\n"
IsToldBy (Some false) extent pool word text = IsExplanation extent pool word text

-- What is reported about a word: why the query of that name waits, or that it is matched; nothing where none is pending.
abbrev pub IsTold : Extent → PoolRecord → List ℕ → List ℕ → Type 0
IsTold extent pool word text = IsToldBy (state_of pool word) extent pool word text

-- The names of the queries that wait, in posting order.
abbrev pub waiting_names : PoolRecord → List (List ℕ)
waiting_names pool = filter (λ name. is_waiting name pool) (map name_of pool.pending)

-- What is reported about these names; where there is none, about all queries that wait.
abbrev pub IsExplained : Extent → PoolRecord → List (List ℕ) → List ℕ → Type 0
IsExplained extent pool [] text = ArePieces (IsTold extent pool) (waiting_names pool) text
IsExplained extent pool (name ∷ names) text = ArePieces (IsTold extent pool) (name ∷ names) text

-- All queries that wait, each once, with its reason, which rests on none but those before it: round after round. Or those alone that have a cause.
pub record IsToldOnce (extent : Extent) (pool : PoolRecord) (text : List ℕ) : Type 0 where
  pub falls : List Fall
  pub rounds : AreAllRounds (nodes_of pool) (edges_of pool.pending) falls
  pub told : AreReasonLines [] (codes " waits: ") Likes extent pool falls text

-- The heads that are nearest to a postcondition, each in a line.
abbrev pub IsNearTold : List PendingQuery → List ℕ → ℕ → List ℕ → Type 0
IsNearTold pending name post text =
    (nearest : List (ℕ × ℕ × ℕ)) × AreNearest (misses_named name post pending) nearest × (text ≡ flat_map (λ near. line (miss_words pending near)) (map (miss_named pending) nearest))
