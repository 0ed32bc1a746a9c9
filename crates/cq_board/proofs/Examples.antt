-- Worked examples of the edges, of the edits, and of the matched queries.
use Rattle.std.proofs.Common.{◌≡◌, ℕ, pos, true, false, List, [], ◌∷◌, refl, Some, None}
use Rattle.std.specs.Prelude.{codes}
use Rattle.cq_atom.specs.declared.value.Content.TheVariants.{Number, Text}
use Rattle.cq_atom.specs.declared.term.TermKind.TheVariants.{Constant, Variable}
use Rattle.cq_atom.specs.Atom.{TermContent, AtomRecord}
use Rattle.cq_atom.specs.Query.{QueryRecord}
use Rattle.cq_ground.specs.Grounding.{groundings_of}
use Rattle.cq_atom.specs.declared.edge.Edge.{Edge}
use Rattle.cq_match.specs.Matched.{is_closed, is_matched}
use Rattle.cq_atom.specs.declared.fault.Part.TheVariants.{Heads}
use Rattle.cq_atom.specs.Atom.{RowRecord}
use Rattle.cq_atom.specs.declared.edit.EditKind.TheVariants.{Post, Withdraw, Insert, Delete}
use Rattle.cq_board.specs.declared.edit.Why.TheVariants.{PoolFull, NameTaken, NotAnswer, UnknownRelation, Arity, NoSuchName, RowPresent, RowAbsent}
use Rattle.cq_board.specs.Steps.Supply.{unifies}
use Rattle.cq_board.specs.Pool.{PendingQuery, PoolRecord}
use Rattle.cq_board.specs.Edges.{edges_of}
use Rattle.cq_board.specs.Edits.{why, pool_after}
use Rattle.cq_board.specs.Board.{matched_of}
use Rattle.cq_board.specs.Work.{lost}

abbrev number : ℕ → TermContent
number n = Constant (Number (pos n))

abbrev text : List ℕ → TermContent
text t = Constant (Text t)

abbrev reservation : List TermContent → AtomRecord
reservation terms = record { relation = codes "R"; terms = terms }

abbrev x : TermContent
x = Variable (codes "x")

abbrev y : TermContent
y = Variable (codes "y")

abbrev edge : ℕ → ℕ → ℕ → ℕ → Edge
edge provider head waiter post = record { provider = provider; head = head; waiter = waiter; post = post }

-- A variable that stands twice ties its two places, also through the other atom.
tied : unifies (reservation (x ∷ x ∷ [])) (reservation (y ∷ number 2 ∷ [])) ≡ true
unfolding unifies
tied = refl

untied : unifies (reservation (x ∷ x ∷ y ∷ y ∷ [])) (reservation (number 1 ∷ x ∷ x ∷ number 2 ∷ [])) ≡ false
unfolding unifies
untied = refl

-- One name in both atoms is two variables.
apart : unifies (reservation (x ∷ number 2 ∷ [])) (reservation (number 1 ∷ x ∷ [])) ≡ true
unfolding unifies
apart = refl

-- A number is no text.
number_is_no_text : unifies (reservation (text (codes "122") ∷ [])) (reservation (number 122 ∷ [])) ≡ false
unfolding unifies
number_is_no_text = refl

abbrev waits : List AtomRecord → List AtomRecord → QueryRecord
waits posts heads = record { posts = posts; heads = heads; body = [] }

abbrev kramer : PendingQuery
kramer = record { name = codes "kramer"; query = waits (reservation (text (codes "Jerry") ∷ number 122 ∷ []) ∷ []) (reservation (text (codes "Kramer") ∷ number 122 ∷ []) ∷ []) }

abbrev jerry : PendingQuery
jerry = record { name = codes "jerry"; query = waits (reservation (text (codes "Kramer") ∷ number 122 ∷ []) ∷ []) (reservation (text (codes "Jerry") ∷ number 122 ∷ []) ∷ []) }

-- Each supplies the other.
kramer_and_jerry : edges_of (kramer ∷ jerry ∷ []) ≡ edge 1 0 0 0 ∷ edge 0 0 1 0 ∷ []
unfolding unifies
kramer_and_jerry = refl

kramer_waits : edges_of (kramer ∷ []) ≡ []
unfolding unifies
kramer_waits = refl

abbrev itself : PendingQuery
itself = record { name = codes "s"; query = waits (reservation (number 1 ∷ x ∷ []) ∷ []) (reservation (x ∷ number 2 ∷ []) ∷ reservation (number 1 ∷ []) ∷ reservation (number 1 ∷ y ∷ []) ∷ []) }

-- A query's own heads supply its own postconditions, and two heads of one query are two providers.
supplies_itself : edges_of (itself ∷ []) ≡ edge 0 0 0 0 ∷ edge 0 2 0 0 ∷ []
unfolding unifies
supplies_itself = refl

-- ---- edits

abbrev flight : ℕ → RowRecord
flight n = record { relation = codes "Flight"; values = Number (pos n) ∷ Text (codes "Paris") ∷ [] }

abbrev flies : List TermContent → AtomRecord
flies terms = record { relation = codes "Flight"; terms = terms }

abbrev reads : List AtomRecord → QueryRecord
reads body = record { posts = []; heads = reservation (x ∷ []) ∷ []; body = body }

-- Flight has two values; two queries may be pending.
abbrev pool : List PendingQuery → PoolRecord
pool pending = record {
  limits = record { pool = 2; journal = 9 };
  tables = record { catalog = record { relation = codes "Flight"; arity = 2 } ∷ []; rows = flight 122 ∷ [] };
  pending = pending;
}

posted : why (pool (kramer ∷ [])) (Post (codes "jerry") (reads (flies (x ∷ y ∷ []) ∷ []))) ≡ None
posted = refl

name_taken : why (pool (kramer ∷ [])) (Post (codes "kramer") jerry.query) ≡ Some NameTaken
name_taken = refl

-- A full pool is reported before a taken name.
pool_full : why (pool (kramer ∷ jerry ∷ [])) (Post (codes "kramer") kramer.query) ≡ Some PoolFull
pool_full = refl

-- The relation's name alone makes an atom none for an answer. All of posts and heads go before the body.
not_answer : why (pool []) (Post (codes "k") (record { posts = []; heads = reservation (x ∷ []) ∷ flies (x ∷ []) ∷ []; body = reservation (x ∷ []) ∷ [] })) ≡ Some (NotAnswer Heads 1)
not_answer = refl

unknown_relation : why (pool []) (Post (codes "k") (reads (flies (x ∷ y ∷ []) ∷ reservation (x ∷ []) ∷ []))) ≡ Some (UnknownRelation 1)
unknown_relation = refl

-- Atom by atom: the first atom's arity goes before the second one's relation.
arity : why (pool []) (Post (codes "k") (reads (flies (x ∷ []) ∷ reservation (x ∷ []) ∷ []))) ≡ Some (Arity 0)
arity = refl

no_such_name : why (pool (kramer ∷ [])) (Withdraw (codes "jerry")) ≡ Some NoSuchName
no_such_name = refl

row_present : why (pool []) (Insert (flight 122)) ≡ Some RowPresent
row_present = refl

row_absent : why (pool []) (Delete (flight 123)) ≡ Some RowAbsent
row_absent = refl

-- A refused edit leaves the pool as it was.
refused : pool_after (pool (kramer ∷ [])) (Post (codes "kramer") jerry.query) ≡ pool (kramer ∷ [])
refused = refl

-- A query that was withdrawn and posted again comes last.
posted_again : pool_after (pool_after (pool (kramer ∷ jerry ∷ [])) (Withdraw (codes "kramer"))) (Post (codes "kramer") kramer.query) ≡ pool (jerry ∷ kramer ∷ [])
posted_again = refl

inserted_and_deleted : pool_after (pool_after (pool []) (Insert (flight 123))) (Delete (flight 123)) ≡ pool []
inserted_and_deleted = refl

-- ---- matched queries

abbrev over_one : List ℕ → TermContent → AtomRecord
over_one relation term = record { relation = relation; terms = term ∷ [] }

abbrev found_row : ℕ → RowRecord
found_row n = record { relation = codes "F"; values = Number (pos n) ∷ [] }

-- Each supplies the other, and the first one's body reads F.
abbrev two : List RowRecord → PoolRecord
two rows = record {
  limits = record { pool = 9; journal = 9 };
  tables = record { catalog = record { relation = codes "F"; arity = 1 } ∷ []; rows = rows };
  pending =
      (record { name = codes "p"; query = record { posts = over_one (codes "B") (number 1) ∷ []; heads = over_one (codes "A") (number 1) ∷ []; body = over_one (codes "F") x ∷ [] } })
      ∷ (record { name = codes "q"; query = waits (over_one (codes "A") (number 1) ∷ []) (over_one (codes "B") (number 1) ∷ []) })
      ∷ [];
}

-- A body that finds no rows keeps its query from coordinating, and with it whoever needs that query; the edges are there all the same.
able_edges : edges_of (two []).pending ≡ edge 1 0 0 0 ∷ edge 0 0 1 0 ∷ []
unfolding unifies
able_edges = refl

nobody_matched : matched_of (two []) ≡ []
unfolding unifies is_closed is_matched groundings_of
nobody_matched = refl

-- One row is enough.
both_matched : matched_of (two (found_row 7 ∷ [])) ≡ 0 ∷ 1 ∷ []
unfolding unifies is_closed is_matched groundings_of
both_matched = refl

-- A deletion that leaves a row takes no provider away, and that of the last one takes both.
one_row_left : lost (two (found_row 7 ∷ found_row 8 ∷ [])) (two (found_row 8 ∷ [])) ≡ 0
unfolding unifies is_closed is_matched groundings_of
one_row_left = refl

no_row_left : lost (two (found_row 8 ∷ [])) (two []) ≡ 2
unfolding unifies is_closed is_matched groundings_of
no_row_left = refl
