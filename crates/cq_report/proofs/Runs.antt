-- What is known of a run, by what is known of how it ended.
use Rattle.std.proofs.Common.{◌≡◌, sym, subst}
use Rattle.std.specs.Prelude.{Result, Ok, Err, OnOk, IfOk, IfErr, MatchResult}
use Rattle.cq_devices.specs.declared.stop.Stop.{Stop}
use Rattle.cq_report.specs.Machine.{State}
use Rattle.cq_report.specs.Steps.Playing.{ran}

module _ (state : State) where
  -- what holds of the state holds of what is left
  pub ran-state : (ended : Result (Unit {0}) Stop) (result : Result State Stop) (P : State → Type 0) → result ≡ ran ended state → OnOk ended (P state) → IfOk result P
  ran-state (Ok done) result P is h = subst (λ r. IfOk r P) (sym is) h
  ran-state (Err fault) result P is h = subst (λ r. IfOk r P) (sym is) tt

  -- what holds of the fault
  pub ran-err : (ended : Result (Unit {0}) Stop) (result : Result State Stop) (P : Stop → Type 0) → result ≡ ran ended state → IfErr ended P → IfErr result P
  ran-err (Ok done) result P is h = subst (λ r. IfErr r P) (sym is) tt
  ran-err (Err fault) result P is h = subst (λ r. IfErr r P) (sym is) h

  -- what holds however it ended
  pub ran-match : (ended : Result (Unit {0}) Stop) (result : Result State Stop) (P : Type 0) (Q : Stop → Type 0) → result ≡ ran ended state → MatchResult ended (λ _. P) Q → MatchResult result (λ _. P) Q
  ran-match (Ok done) result P Q is h = subst (λ r. MatchResult r (λ _. P) Q) (sym is) h
  ran-match (Err fault) result P Q is h = subst (λ r. MatchResult r (λ _. P) Q) (sym is) h
