-- What was written for lines that were answered one at a time.
use Rattle.std.proofs.Common.{◌≡◌, ℕ, List, [], ◌++◌, Option, IfSome, inl, inr, sym, ap, subst, ◌∙◌}
use Rattle.std.specs.Io.KnownBytes.{Consumes, IsAtEnd}
use Rattle.std.proofs.KnownBytes.{Consumes-whole}
use Rattle.cq_devices.specs.Device.{TakesFront}
use Rattle.cq_devices.specs.declared.stop.Stop.{Stop}
use Rattle.cq_devices.specs.declared.stop.Stop.TheVariants as stops
use Rattle.cq_report.specs.declared.output.Output.{Output}
use Rattle.cq_report.specs.declared.manner.Manner.TheVariants as manners
use Rattle.cq_report.specs.declared.numbering.Numbering.{Numbering}
use Rattle.cq_report.specs.Lines.{lines_of, whole_lines}
use Rattle.cq_report.specs.Machine.{State, begin_life}
use Rattle.cq_report.specs.Live.{AreTurns, replies_to, Answered, AnsweredWhole, AnsweredFront, ReadNoFurther, Leaves}
use Rattle.cq_report.specs.Steps.Serving.{Finished, Ceased, ServedOut, BrokeOff, BrokeDown, Stopped}
use Rattle.cq_report.proofs.Cutting.{whole_lines_all_ended}
use Rattle.cq_report.proofs.Ending.{Consumes-front, Passes-all}
use Rattle.cq_report.proofs.Served.{Ceased-all}

module _ {W A : Type 0} (numbering : Numbering) (every : ℕ) (taken : W → Option (List ℕ)) (failures : W → ℕ) (opening state : State) (left left' : Option (List ℕ)) (first now : Output W A) (t t' : Option (List ℕ)) (begins : opening ≡ begin_life numbering every) (none : first.held.now.items ≡ []) (e : taken first.sink.now ≡ t) (e' : taken now.sink.now ≡ t') where
  -- all was read and answered
  all_answered : (bytes : List ℕ) → Consumes left left' bytes → IsAtEnd left' → Finished manners.Live taken failures first (begin_life numbering every) now state bytes → now.held.now.items ≡ [] → IfSome left (λ input. Answered numbering every (lines_of input) t t')
  all_answered bytes read at_end ends held =
      Consumes-whole left left' bytes (λ input. Answered numbering every (lines_of input) t t') read at_end
      (record { turns = ends.turns; are = ends.are; wrote = rw (← e, ← e') (Passes-all _ _ _ _ _ ends.puts.passed none held) })

  -- no further line is heard
  all_heard : (bytes : List ℕ) → Consumes left left' bytes → Ceased manners.Live taken failures first (begin_life numbering every) now state bytes → now.held.now.items ≡ [] → IfSome left (λ input. Answered numbering every (lines_of input) t t')
  all_heard bytes read quits held =
      Consumes-front left left' bytes (λ input. Answered numbering every (lines_of input) t t') read
      (λ rest.
      let ends = Ceased-all manners.Live taken failures first (begin_life numbering every) now state bytes rest quits in
      record { turns = ends.turns; are = ends.are; wrote = rw (← e, ← e') (Passes-all _ _ _ _ _ ends.puts.passed none held) })

  pub ServedOut-answered : ServedOut manners.Live taken failures opening state left left' first now → IfSome left (λ input. Answered numbering every (lines_of input) t t')
  ServedOut-answered r0 =
      let r = subst (λ (s : State). ServedOut manners.Live taken failures s state left left' first now) begins r0 in
      elim r.ends [ inl ended ↦ all_answered r.bytes r.read ended.0 ended.1 r.held | inr quits ↦ all_heard r.bytes r.read quits r.held ]

  -- nothing was read after the last read that was needed
  pub ServedOut-quits : ServedOut manners.Live taken failures opening state left left' first now → ReadNoFurther numbering every left left' t t'
  ServedOut-quits r0 =
      let r = subst (λ (s : State). ServedOut manners.Live taken failures s state left left' first now) begins r0 in
      let l = r.last in
      record {
        before = l.before;
        piece = l.piece;
        read = l.read;
        small = l.small;
        turns = l.turns;
        are = l.are;
        goes_on = l.goes_on;
        more = l.more;
        all = l.all;
        wrote = rw (← e, ← e') (Passes-all _ _ _ _ _ l.puts.passed none r.held);
      }

  -- the whole lines were answered
  broke_off : BrokeOff manners.Live taken failures opening left left' first now → AnsweredWhole numbering every left left' t t'
  broke_off b0 =
      let b = subst (λ (s : State). BrokeOff manners.Live taken failures s left left' first now) begins b0 in
      let s = b.served in
      let cut : whole_lines b.bytes ≡ s.lines = ap whole_lines s.cut ∙ whole_lines_all_ended s.lines s.pending s.no_end s.open_end in
      record {
        bytes = b.bytes;
        read = b.read;
        answered = record { turns = s.turns; are = subst (λ (ls : List (List ℕ)). AreTurns manners.Live (begin_life numbering every) ls s.turns) (sym cut) s.are; wrote = rw (← e, ← e') (Passes-all _ _ _ _ _ s.puts.passed none b.held) };
      }

  -- no more than a front was written
  ended_by : BrokeDown manners.Live taken failures opening left left' first now → AnsweredFront numbering every left left' t t'
  ended_by d0 =
      let d = subst (λ (s : State). BrokeDown manners.Live taken failures s left left' first now) begins d0 in
      let b = d.broken in
      record {
        bytes = d.bytes;
        read = d.read;
        lines = b.lines;
        more = b.more;
        cut = b.cut;
        turns = b.turns;
        are = b.are;
        wrote = rw (← e, ← e') (subst (λ (held : List ℕ). TakesFront (taken first.sink.now) (taken now.sink.now) (held ++ replies_to (begin_life numbering every) b.turns)) none b.breaks.took);
      }

  pub Stopped-leaves : (stop : Stop) → Stopped manners.Live taken failures opening left left' first now stop → Leaves numbering every stop left left' t t'
  Stopped-leaves (stops.Read turn) h = broke_off h
  Stopped-leaves stops.Write h = ended_by h
  Stopped-leaves stops.NoMemory h = absurd h.starved.script
