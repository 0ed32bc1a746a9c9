-- What is known of a script that was played, by what is known of how it ended.
use Rattle.std.proofs.Common.{◌≡◌, ◌∙◌, ℕ, ◌+◌, sym, ap, subst, arith}
use Rattle.std.specs.Prelude.{Result, Ok, Err, OnOk, IfOk, IfErr, MatchResult}
use Rattle.cq_devices.specs.declared.stop.Stop.{Stop}
use Rattle.cq_devices.specs.Device.{IfAtTurn, IsAtTurn, write_failures_of}
use Rattle.cq_report.specs.Machine.{State}
use Rattle.cq_report.specs.Output.{Left, left_in}
use Rattle.cq_report.specs.Steps.Playing.{IsPlayed}

-- the fault is not the writer's, where the writer never failed
not_of_writer : (fault : Stop) → 0 ≡ 0 + write_failures_of fault → write_failures_of fault ≡ 0
not_of_writer fault none = omega (arith, none)

pub never_written : (ended : Result (Unit {0}) Stop) (P : Type 0) → MatchResult ended (λ _. P) (λ fault. 0 ≡ 0 + write_failures_of fault) → IfErr ended (λ fault. write_failures_of fault ≡ 0)
never_written (Ok done) P none = tt
never_written (Err fault) P none = not_of_writer fault none

module _ (state : State) where
  -- what holds of what the state leaves holds of what was left
  pub IsPlayed-left : (ended : Result (Unit {0}) Stop) (result : Result Left Stop) (P : Left → Type 0) → IsPlayed ended state result → OnOk ended (P (left_in state)) → IfOk result P
  IsPlayed-left (Ok done) (Ok left) P played h = subst P (sym played.0) h
  IsPlayed-left (Ok done) (Err told) P played h = tt
  IsPlayed-left (Err fault) (Ok left) P played h = absurd played.0
  IsPlayed-left (Err fault) (Err told) P played h = tt

  -- what holds where it ended well
  pub IsPlayed-on : (ended : Result (Unit {0}) Stop) (result : Result Left Stop) (P : Type 0) → IsPlayed ended state result → OnOk ended P → OnOk result P
  IsPlayed-on (Ok done) (Ok left) P played h = h
  IsPlayed-on (Ok done) (Err told) P played h = tt
  IsPlayed-on (Err fault) (Ok left) P played h = absurd played.0
  IsPlayed-on (Err fault) (Err told) P played h = tt

  -- what holds of the turn that it tells
  pub IsPlayed-turn : (ended : Result (Unit {0}) Stop) (result : Result Left Stop) (P : ℕ → Type 0) → IsPlayed ended state result → IfErr ended (λ fault. IfAtTurn fault P) → IfErr result (λ told. IfAtTurn told P)
  IsPlayed-turn (Ok done) (Ok left) P played h = tt
  IsPlayed-turn (Ok done) (Err told) P played h = subst (λ (f : Stop). IfAtTurn f P) (sym played.1) tt
  IsPlayed-turn (Err fault) (Ok left) P played h = absurd played.0
  IsPlayed-turn (Err fault) (Err told) P played h = subst (λ (f : Stop). IfAtTurn f P) (sym played.1) h

  -- what holds where no read failed
  pub IsPlayed-unread : (ended : Result (Unit {0}) Stop) (result : Result Left Stop) (P : Type 0) → IsPlayed ended state result
      → MatchResult ended (λ _. P) (λ fault. (IsAtTurn fault → ⊥) → P) → MatchResult result (λ _. P) (λ told. (IsAtTurn told → ⊥) → P)
  IsPlayed-unread (Ok done) (Ok left) P played h = h
  IsPlayed-unread (Ok done) (Err told) P played h = λ _. h
  IsPlayed-unread (Err fault) (Ok left) P played h = absurd played.0
  IsPlayed-unread (Err fault) (Err told) P played h = λ no. h (subst (λ (f : Stop). IsAtTurn f → ⊥) played.1 no)

  -- nor did a write
  pub IsPlayed-no_write : (ended : Result (Unit {0}) Stop) (result : Result Left Stop) → IsPlayed ended state result → IfErr ended (λ fault. write_failures_of fault ≡ 0) → IfErr result (λ told. write_failures_of told ≡ 0)
  IsPlayed-no_write (Ok done) (Ok left) played h = tt
  IsPlayed-no_write (Ok done) (Err told) played h = ap write_failures_of played.1
  IsPlayed-no_write (Err fault) (Ok left) played h = absurd played.0
  IsPlayed-no_write (Err fault) (Err told) played h = ap write_failures_of played.1 ∙ h
