use Rattle.std.proofs.Common.{◌≡◌, [], take}
use Rattle.cq_ask.proofs.Chosen.{IsBegun, IsCut}
use Rattle.cq_ask.proofs.choices.add_values.Given as goal

-- the values so far, and the piece that is begun, which goes on to the pieces of the text
abbrev pub invariant-loop-byte : goal.invariant-loop-byte
invariant-loop-byte g l =
    record {
      begun : l.initial.values.items ≡ [] → l.initial.piece.items ≡ [] → IsBegun (take l.byte-index l.text) l.values.items l.piece.items;
      cut : l.initial.piece.items ≡ [] → IsCut l.text l.byte-index l.place l.piece.items;
    }
