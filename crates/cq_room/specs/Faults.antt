-- Why a room is not opened. (this project's profile)
use Rattle.std.specs.Prelude.{◌≡◌, ℕ, ◌<◌, ◌≤◌, ◌⊎◌}
use Rattle.cq_room.specs.declared.parts.RoomFault.{RoomFault}
use Rattle.cq_room.specs.declared.parts.RoomFault.TheVariants.{Sessions, Places, NoMemory}

-- Why a room with so many sessions does not begin: their number comes before memory.
abbrev pub IsBeginFault : ℕ → RoomFault → Type 0
IsBeginFault sessions Sessions = (sessions ≡ 0) ⊎ (16 < sessions)
IsBeginFault sessions Places = ⊥
IsBeginFault sessions NoMemory = (0 < sessions) × (sessions ≤ 16)

-- Why the parts of a room are not put together.
abbrev pub IsOpenFault : RoomFault → Type 0
IsOpenFault Sessions = ⊥
IsOpenFault Places = Unit {0}
IsOpenFault NoMemory = Unit {0}
