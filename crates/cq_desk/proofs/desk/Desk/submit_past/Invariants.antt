use Rattle.std.proofs.Common.{◌≡◌, ◌+◌, ◌≤◌, ◌++◌, length, vec_len, vec_capacity}
use Rattle.std.specs.Vec.Iter.{into_iter_items, into_iter_len}
use Rattle.cq_desk.specs.Replies.{journal_edits, accepted, entries_by, replies_at}
use Rattle.cq_desk.proofs.desk.Desk.submit_past.Given as goal

abbrev pub invariant-loop-edit : goal.invariant-loop-edit
invariant-loop-edit g l = let a = l.initial.self in
    (l.yielded ++ into_iter_items l.edit-iterator ≡ into_iter_items l.initial.edit-iterator)
    × (into_iter_len l.edit-iterator ≡ length (into_iter_items l.edit-iterator))
    × (length l.replies.items ≡ length l.yielded)
    × (vec_len l.replies + length (into_iter_items l.edit-iterator) ≤ vec_capacity l.replies)
    × (l.replies.items ≡ replies_at g.L.Live.after g.L.Live.why (g.P.Publisher.opening a.publisher) (a.base + a.limit) (journal_edits a.journal) l.yielded)
    × (l.self ≡ record a { journal = a.journal ++ entries_by l.author (accepted l.yielded l.replies.items) })
