use Rattle.std.proofs.Common.{◌≡◌, ◌++◌, length, map}
use Rattle.std.specs.Vec.Iter.{into_iter_items, into_iter_len}
use Rattle.cq_desk.specs.History.{edits_of}
use Rattle.cq_desk.specs.Replies.{journal_edits}
use Rattle.cq_sessions.proofs.files.clients.Given as goal

abbrev pub invariant-loop-session : goal.invariant-loop-session
invariant-loop-session g l = record {
  all : l.yielded ++ into_iter_items l.session-iterator ≡ into_iter_items l.initial.session-iterator;
  counted : into_iter_len l.session-iterator ≡ length (into_iter_items l.session-iterator);
  clients : l.clients.items ≡ map (λ session. journal_edits (edits_of session.history)) l.yielded;
}
