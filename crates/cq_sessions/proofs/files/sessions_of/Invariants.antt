use Rattle.std.proofs.Common.{◌≡◌, ◌++◌, length, map}
use Rattle.std.specs.Vec.Iter.{into_iter_items, into_iter_len}
use Rattle.cq_desk.specs.History.{edits_of}
use Rattle.cq_desk.specs.Replies.{journal_edits}
use Rattle.cq_sessions.proofs.files.sessions_of.Given as goal

abbrev pub invariant-loop-client : goal.invariant-loop-client
invariant-loop-client g l = record {
  all : l.yielded ++ into_iter_items l.client-iterator ≡ into_iter_items l.initial.client-iterator;
  counted : into_iter_len l.client-iterator ≡ length (into_iter_items l.client-iterator);
  sessions : map (λ session. journal_edits (edits_of session.history)) l.sessions.items ≡ l.yielded;
}
