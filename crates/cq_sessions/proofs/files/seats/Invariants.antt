use Rattle.std.proofs.Common.{◌≡◌, ◌+◌, ◌++◌, length, map, drop}
use Rattle.std.specs.Vec.Iter.{into_iter_items, into_iter_len}
use Rattle.cq_sessions.proofs.files.seats.Given as goal

abbrev pub invariant-loop-client : goal.invariant-loop-client
invariant-loop-client g l = record {
  all : l.yielded ++ into_iter_items l.client-iterator ≡ into_iter_items l.initial.client-iterator;
  counted : into_iter_len l.client-iterator ≡ length (into_iter_items l.client-iterator);
  place : l.place + length (into_iter_items l.client-iterator) ≡ length l.files;
  clients : map (λ seat. seat.client) l.seats.items ≡ l.yielded;
  forms : map (λ seat. seat.form) l.seats.items ≡ map (λ _. l.form) l.yielded;
  files : map (λ seat. seat.file.now) l.seats.items ++ map (λ file. file.items) (drop l.place l.files) ≡ map (λ file. file.items) l.files;
}
