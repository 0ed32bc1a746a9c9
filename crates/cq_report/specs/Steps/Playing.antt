-- What is made of a script that ended.
use Rattle.std.specs.Prelude.{◌≡◌, Result, Ok, Err, IfOk, IfErr}
use Rattle.cq_devices.specs.declared.stop.Stop.{Stop}
use Rattle.cq_devices.specs.declared.stop.Stop.TheVariants.{NoMemory}
use Rattle.cq_report.specs.Machine.{State}
use Rattle.cq_report.specs.Output.{Left, left_in}

-- What is left in this state, or out of memory; or what it stopped by.
abbrev pub IsPlayed : Result (Unit {0}) Stop → State → Result Left Stop → Type 0
IsPlayed (Ok done) state result = IfOk result (λ left. left ≡ left_in state) × IfErr result (λ fault. fault ≡ NoMemory)
IsPlayed (Err fault) state result = IfOk result (λ left. ⊥) × IfErr result (λ told. told ≡ fault)

-- The state in which a run ended, or what it stopped by.
abbrev pub ran : Result (Unit {0}) Stop → State → Result State Stop
ran (Ok done) state = Ok state
ran (Err fault) state = Err fault
