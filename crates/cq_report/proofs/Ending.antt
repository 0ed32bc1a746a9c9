-- What is known of reads, of writes and of stops.
use Rattle.std.proofs.Common.{◌≡◌, ◌+◌, ℕ, List, [], ◌++◌, Option, None, Some, IfSome, sym, ap, subst, ◌∙◌, append-nil}
use Rattle.std.specs.Prelude.{Result, Ok, Err, IfErr, MatchResult}
use Rattle.std.specs.Io.KnownBytes.{Appends, Consumes}
use Rattle.std.proofs.KnownBytes.{Consumes-trans}
use Rattle.cq_devices.specs.Device.{IfAtTurn, IsAtTurn, FailedAtTurn, write_failures_of}
use Rattle.cq_devices.specs.Limits.{max_reads}
use Rattle.cq_devices.specs.declared.stop.Stop.{Stop}
use Rattle.cq_devices.specs.declared.stop.Stop.TheVariants as stops
use Rattle.cq_report.specs.Live.{ReadsFailed}
use Rattle.cq_report.specs.Steps.Written.{Passes}

-- a read that took nothing
pub Consumes-none : (a b c : Option (List ℕ)) (bytes : List ℕ) → Consumes a b bytes → Consumes b c [] → Consumes a c bytes
Consumes-none a b c bytes p q = subst (λ (bs : List ℕ). Consumes a c bs) (append-nil bytes) (Consumes-trans a b c bytes [] p q)

-- nothing waited before, and nothing waits now
pub Passes-all : (taken taken' : Option (List ℕ)) (held bytes held' : List ℕ) → Passes taken taken' held bytes held' → held ≡ [] → held' ≡ [] → Appends taken taken' bytes
Passes-all taken taken' held bytes held' p none none' =
    let e : p.front ≡ bytes = sym (append-nil p.front) ∙ ap (λ (l : List ℕ). p.front ++ l) (sym none') ∙ p.whole ∙ ap (λ (l : List ℕ). l ++ bytes) none in
    subst (Appends taken taken') e p.took

-- known bytes, of which a front was read
pub Consumes-front : (left left' : Option (List ℕ)) (bytes : List ℕ) (P : List ℕ → Type 0) → Consumes left left' bytes → ((rest : List ℕ) → P (bytes ++ rest)) → IfSome left P
Consumes-front None left' bytes P read all = tt
Consumes-front (Some input) None bytes P read all = absurd read
Consumes-front (Some input) (Some rest) bytes P read all = subst P (sym read) (all rest)

-- ---- of the end of a run

-- the counts of a writer are those of what it is then
pub rises_by : (ended : Result (Unit {0}) Stop) (old new was is : ℕ) → old ≡ was → new ≡ is → MatchResult ended (λ _. new ≡ old) (λ stop. new ≡ old + write_failures_of stop) → MatchResult ended (λ _. is ≡ was) (λ stop. is ≡ was + write_failures_of stop)
rises_by ended old new was is e e' h = rw (e, e') at h

-- the read at which it stopped failed, or was one too many
turn_by : (stop : Stop) (reads reads' failures failures' : ℕ) → ReadsFailed max_reads stop reads reads' failures failures' → IfAtTurn stop (λ turn. FailedAtTurn turn reads reads' failures failures')
turn_by (stops.Read turn) reads reads' failures failures' h = h
turn_by stops.Write reads reads' failures failures' h = tt
turn_by stops.NoMemory reads reads' failures failures' h = tt

pub failed_turn : (ended : Result (Unit {0}) Stop) (P : Type 0) (reads reads' failures failures' : ℕ) → MatchResult ended (λ _. P) (λ stop. ReadsFailed max_reads stop reads reads' failures failures')
    → IfErr ended (λ stop. IfAtTurn stop (λ turn. FailedAtTurn turn reads reads' failures failures'))
failed_turn (Ok done) P reads reads' failures failures' h = tt
failed_turn (Err stop) P reads reads' failures failures' h = turn_by stop reads reads' failures failures' h

-- no read failed where it stopped at none
unread_by : (stop : Stop) (reads reads' failures failures' : ℕ) → ReadsFailed max_reads stop reads reads' failures failures' → (IsAtTurn stop → ⊥) → failures' ≡ failures
unread_by (stops.Read turn) reads reads' failures failures' h never = absurd (never tt)
unread_by stops.Write reads reads' failures failures' h never = h
unread_by stops.NoMemory reads reads' failures failures' h never = h

pub failed_reads : (ended : Result (Unit {0}) Stop) (reads reads' failures failures' : ℕ) → MatchResult ended (λ _. failures' ≡ failures) (λ stop. ReadsFailed max_reads stop reads reads' failures failures')
    → MatchResult ended (λ _. failures' ≡ failures) (λ stop. (IsAtTurn stop → ⊥) → failures' ≡ failures)
failed_reads (Ok done) reads reads' failures failures' h = h
failed_reads (Err stop) reads reads' failures failures' h = unread_by stop reads reads' failures failures' h
