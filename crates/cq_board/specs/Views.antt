-- What an answer to an edit says.
use Rattle.std.specs.Prelude.{◌≡◌, Option, Some, None, Result, Ok, OnOk}
use Rattle.std.specs.declared.alloc.AllocError.{AllocError}
use Rattle.cq_board.specs.declared.edit.Why.{Why}

-- A reason is answered as it is, whether or not there is memory. An edit without one is admitted, where memory suffices.
abbrev pub Admits : Option Why → Result (Option Why) AllocError → Type 0
Admits (Some reason) result = result ≡ Ok (Some reason)
Admits None result = OnOk result (result ≡ Ok None)
