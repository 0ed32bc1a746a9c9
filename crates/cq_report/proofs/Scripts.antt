-- What was written for the lines of a script.
use Rattle.std.proofs.Common.{◌≡◌, ◌==◌, ◌+◌, ℕ, Bool, true, false, List, [], ◌∷◌, ◌++◌, Option, None, Some, IfSome, inl, inr, refl, sym, ap, subst, ◌∙◌, append_assoc, append-nil, arith}
use Rattle.std.specs.Prelude.{◌⊎◌}
use Rattle.std.specs.Option.{is_some}
use Rattle.std.specs.Io.KnownBytes.{Appends}
use Rattle.std.proofs.KnownBytes.{Appends-nil, Consumes-nil, Consumes-whole}
use Rattle.cq_text.specs.declared.fault.Kind.{Kind}
use Rattle.cq_text.specs.declared.form.Form.{Form}
use Rattle.cq_text.specs.Grammar.{StandsFor}
use Rattle.cq_text.specs.Fault.{FirstFault, HasOneReading}
use Rattle.cq_devices.specs.Device.{IfAtTurn, IfMemory, TakesFront}
use Rattle.cq_devices.specs.declared.stop.Stop.{Stop}
use Rattle.cq_devices.specs.declared.stop.Stop.TheVariants as stops
use Rattle.cq_report.specs.declared.output.Output.{Output}
use Rattle.cq_report.specs.declared.manner.Manner.{Manner}
use Rattle.cq_report.specs.declared.manner.Manner.TheVariants.{Script}
use Rattle.cq_report.specs.declared.numbering.Numbering.{Numbering}
use Rattle.cq_report.specs.declared.numbering.Numbering.TheVariants.{Plain}
use Rattle.cq_report.specs.declared.refusal.Refusal.{Refusal}
use Rattle.cq_report.specs.Lines.{lines_of, whole_lines, before_whole}
use Rattle.cq_report.specs.Reading.{Reading, Reads, Faulty, IsReading}
use Rattle.cq_report.specs.Refusals.{no_refusal, tallied}
use Rattle.cq_report.specs.Reply.{refusal}
use Rattle.cq_report.specs.Machine.{State, begin_state, form_of, headed, next, reply, staged}
use Rattle.cq_report.specs.Output.{AreReadFrom, AreReadings, Heard, IsRefusedLast, output, output_from, state_after, left_in, left_after}
use Rattle.cq_report.specs.Run.{WroteWholeLines, WroteFirstLines, WroteFront}
use Rattle.cq_report.specs.Live.{Turn, Served as ReadsAs, Renewed, Asked, OutOfMemory, Unheard, AreTurns, is_done, state_turned, replies_to}
use Rattle.cq_report.specs.Steps.Writing.{Passes-cut, TakesFront-more}
use Rattle.cq_report.specs.Steps.Written.{Puts}
use Rattle.cq_report.specs.Steps.Serving.{Served, Finished, ServedOut, BrokeOff, BrokeDown, RanOut, Stopped}
use Rattle.cq_report.proofs.Cutting.{whole_lines_all_ended}
use Rattle.cq_report.proofs.Ending.{Consumes-front, Passes-all}
use Rattle.cq_report.proofs.Served.{Ceased-all, lines_of_behind}

-- Each text has one reading.
abbrev pub HaveOneReading : Type 0
HaveOneReading = (form : Form) (text : List ℕ) → HasOneReading (λ command. StandsFor form text command) (λ kind offset. FirstFault form text kind offset)

pub same_reading : HaveOneReading → (form : Form) (line : List ℕ) (r q : Reading) → IsReading form line r → IsReading form line q → r ≡ q
same_reading one form line (Reads c) (Reads d) h k = ap Reads ((one form line).one c d h k)
same_reading one form line (Reads c) (Faulty kind offset) h k = absurd ((one form line).not_both c kind offset h k)
same_reading one form line (Faulty kind offset) (Reads d) h k = absurd ((one form line).not_both d kind offset k h)
same_reading one form line (Faulty kind offset) (Faulty other place) h k =
    let both = (one form line).one_fault kind other offset place h k in ap (λ (x : Kind). Faulty x offset) both.0 ∙ ap (Faulty other) both.1

same_readings : HaveOneReading → (heading : Option Form) (lines : List (List ℕ)) (rs qs : List Reading) → AreReadFrom heading lines rs → AreReadFrom heading lines qs → rs ≡ qs
same_readings one heading [] [] [] h k = refl
same_readings one heading [] [] (q ∷ qs) h k = absurd k
same_readings one heading [] (r ∷ rs) qs h k = absurd h
same_readings one heading (l ∷ ls) [] qs h k = absurd h
same_readings one heading (l ∷ ls) (r ∷ rs) [] h k = absurd k
same_readings one heading (l ∷ ls) (r ∷ rs) (q ∷ qs) h k =
    let e = same_reading one (form_of heading) l r q h.0 k.0 in
    ap (λ (x : Reading). x ∷ rs) e ∙ ap (λ (x : List Reading). q ∷ x) (same_readings one (headed heading q) ls rs qs (subst (λ (x : Reading). AreReadFrom (headed heading x) ls rs) e h.1) k.1)

-- ---- readings of one list of lines after another

record Parted (state : State) (lines more : List (List ℕ)) (rs : List Reading) : Type 0 where
  pub front : List Reading
  pub rest : List Reading
  pub whole : rs ≡ front ++ rest
  pub are : AreReadFrom state.heading lines front
  pub follow : AreReadFrom (state_after state front).heading more rest

part : (state : State) (lines more : List (List ℕ)) (rs : List Reading) → AreReadFrom state.heading (lines ++ more) rs → Parted state lines more rs
part state [] more rs h = record { front = []; rest = rs; whole = refl; are = tt; follow = h }
part state (line ∷ lines) more [] h = absurd h
part state (line ∷ lines) more (r ∷ rs) h = let p = part (next state r) lines more rs h.1 in record {
  front = r ∷ p.front;
  rest = p.rest;
  whole = ap (λ (l : List Reading). r ∷ l) p.whole;
  are = (h.0, p.are);
  follow = p.follow;
}

output_from-append : (state : State) (rs qs : List Reading) → output_from state (rs ++ qs) ≡ output_from state rs ++ output_from (state_after state rs) qs
output_from-append state [] qs = refl
output_from-append state (r ∷ rs) qs =
    ap (λ (l : List ℕ). reply state r ++ l) (output_from-append (next state r) rs qs) ∙ sym (append_assoc (reply state r) (output_from (next state r) rs) (output_from (state_after (next state r) rs) qs))

-- ---- which lines were refused

-- None of the lines so far was refused, or the last one alone.
abbrev IsClean : State → Type 0
IsClean state = (state.tally ≡ no_refusal) ⊎ IsRefusedLast state

one_by : (why : Option Refusal) (line : ℕ) (state : State) → state.lines ≡ line → state.tally ≡ tallied no_refusal line why → IsClean state
one_by None line state same is = inl is
one_by (Some w) line state same is = inr (w, is ∙ ap (λ (n : ℕ). tallied no_refusal n (Some w)) (sym same))

-- a strict script in which a line was refused is done
never_refused : (state : State) (P : Type 0) → IsRefusedLast state → is_some state.tally.first ≡ false → P
never_refused state P (why, is) none = absurd (let some : is_some state.tally.first ≡ true = ap (λ t. is_some t.first) is in cc)

clean_next : (is_strict : Bool) (state : State) (reading : Reading) → is_strict ≡ true → is_done (Script is_strict) state ≡ false → IsClean state → IsClean (next state reading)
clean_next false state reading strict on clean = absurd cc
clean_next true state reading strict on (inl clean) =
    let why = refusal (staged state.stage state.heading reading).1 in
    one_by why (state.lines + 1) (next state reading) refl (ap (λ t. tallied t (state.lines + 1) why) clean)
clean_next true state reading strict on (inr last) = never_refused state _ last on

-- a strict script that is done had its last line refused
last_refused : (state : State) → IsClean state → is_some state.tally.first ≡ true → IsRefusedLast state
last_refused state (inl clean) some = absurd (let none : is_some state.tally.first ≡ false = ap (λ t. is_some t.first) clean in cc)
last_refused state (inr last) some = last

ends_by : (is_strict : Bool) (state : State) (more : List (List ℕ)) → (more ≡ []) ⊎ (is_done (Script is_strict) state ≡ true) → (is_strict ≡ true → IsClean state)
    → ((more ≡ []) × (is_strict ≡ true → state.tally ≡ no_refusal)) ⊎ ((is_strict ≡ true) × IsRefusedLast state)
ends_by false state more (inl none) clean = inl (none, λ is. absurd cc)
ends_by false state more (inr done) clean = absurd cc
ends_by true state more (inl none) clean = elim (clean refl) [
  | inl good ↦ inl (none, λ _. good)
  | inr last ↦ inr (refl, last)
]
ends_by true state more (inr done) clean = inr (refl, last_refused state (clean refl) done)

-- ---- the lines that were heard

-- after the end nothing comes of any line
all_unheard : (manner : Manner) (state : State) (lines : List (List ℕ)) (turns : List Turn) → is_done manner state ≡ true → AreTurns manner state lines turns → (replies_to state turns ≡ []) × (state_turned state turns ≡ state)
all_unheard manner state [] [] over h = (refl, refl)
all_unheard manner state [] (t ∷ turns) over h = absurd h
all_unheard manner state (l ∷ lines) [] over h = absurd h
all_unheard manner state (l ∷ lines) (ReadsAs r ∷ turns) over h = absurd (let on = h.0.0 in cc)
all_unheard manner state (l ∷ lines) (Renewed r ∷ turns) over h = absurd (let on = h.0.0 in cc)
all_unheard manner state (l ∷ lines) (Asked ask told ∷ turns) over h = absurd (let on = h.0.0 in cc)
all_unheard manner state (l ∷ lines) (OutOfMemory ∷ turns) over h = absurd (let on = h.0.0 in cc)
all_unheard manner state (l ∷ lines) (Unheard ∷ turns) over h = all_unheard manner state lines turns over h.1

-- The lines of a script that were heard, and how they were read; after them the script is done, if there are more.
record Heeded (is_strict : Bool) (state : State) (lines : List (List ℕ)) (turns : List Turn) : Type 0 where
  pub heard : List (List ℕ)
  pub rest : List (List ℕ)
  pub readings : List Reading
  pub cut : lines ≡ heard ++ rest
  pub are : AreReadFrom state.heading heard readings
  pub after : state_turned state turns ≡ state_after state readings
  pub replies : replies_to state turns ≡ output_from state readings
  pub ends : (rest ≡ []) ⊎ (is_done (Script is_strict) (state_turned state turns) ≡ true)
  pub clean : is_strict ≡ true → IsClean state → IsClean (state_turned state turns)

heeded : (is_strict : Bool) (state : State) (lines : List (List ℕ)) (turns : List Turn) → AreTurns (Script is_strict) state lines turns → Heeded is_strict state lines turns
heeded is_strict state [] [] h = record { heard = []; rest = []; readings = []; cut = refl; are = tt; after = refl; replies = refl; ends = inl refl; clean = λ _ clean. clean }
heeded is_strict state [] (t ∷ turns) h = absurd h
heeded is_strict state (l ∷ lines) [] h = absurd h
heeded is_strict state (l ∷ lines) (ReadsAs r ∷ turns) h = let more = heeded is_strict (next state r) lines turns h.1 in record {
  heard = l ∷ more.heard;
  rest = more.rest;
  readings = r ∷ more.readings;
  cut = ap (λ (ls : List (List ℕ)). l ∷ ls) more.cut;
  are = (h.0.2, more.are);
  after = more.after;
  replies = ap (λ (bytes : List ℕ). reply state r ++ bytes) more.replies;
  ends = more.ends;
  clean = λ strict clean. more.clean strict (clean_next is_strict state r strict h.0.0 clean);
}
heeded is_strict state (l ∷ lines) (Renewed r ∷ turns) h = absurd (let never = h.0.1 in cc)
heeded is_strict state (l ∷ lines) (Asked ask told ∷ turns) h = absurd (let never = h.0.1 in cc)
heeded is_strict state (l ∷ lines) (OutOfMemory ∷ turns) h = absurd (let never = h.0.1 in cc)
heeded is_strict state (l ∷ lines) (Unheard ∷ turns) h = let all = all_unheard (Script is_strict) state lines turns h.0 h.1 in record {
  heard = [];
  rest = l ∷ lines;
  readings = [];
  cut = refl;
  are = tt;
  after = all.1;
  replies = all.0;
  ends = inr (ap (is_done (Script is_strict)) all.1 ∙ h.0);
  clean = λ strict clean. subst IsClean (sym all.1) clean;
}

-- Bytes more end lines more, and leave those before as they were.
record Longer (x y : List ℕ) : Type 0 where
  pub more : List (List ℕ)
  pub whole : whole_lines (x ++ y) ≡ whole_lines x ++ more

longer_by : (b : ℕ) (ends : Bool) (bs y : List ℕ) → (b == 10) ≡ ends → Longer bs y → Longer (b ∷ bs) y
longer_by b true bs y is l = record { more = l.more; whole = rw is (ap (λ (ls : List (List ℕ)). [] ∷ ls) l.whole) }
longer_by b false bs y is l =
    let parts = before_more (whole_lines bs) l.more in
    record { more = parts.0; whole = rw is (ap (before_whole b) l.whole ∙ parts.1) }
  where
    before_more : (lines more : List (List ℕ)) → (others : List (List ℕ)) × (before_whole b (lines ++ more) ≡ before_whole b lines ++ others)
    before_more [] more = (before_whole b more, refl)
    before_more (line ∷ lines) more = (more, refl)

longer : (x y : List ℕ) → Longer x y
longer [] y = record { more = whole_lines y; whole = refl }
longer (b ∷ bs) y = longer_by b (b == 10) bs y refl (longer bs y)

-- ---- a whole run

module _ {W A : Type 0} (one : HaveOneReading) (is_strict : Bool) (numbering : Numbering) (taken : W → Option (List ℕ)) (failures : W → ℕ) (opening : State) (left left' : Option (List ℕ)) (first now : Output W A) (t t' : Option (List ℕ)) (begins : opening ≡ begin_state numbering) (none : first.held.now.items ≡ []) (e : taken first.sink.now ≡ t) (e' : taken now.sink.now ≡ t') where
  -- all that was put was written
  wrote : (bytes : List ℕ) → now.held.now.items ≡ [] → Puts taken failures first now bytes → Appends t t' bytes
  wrote bytes held p = rw (← e, ← e') (Passes-all _ _ _ _ _ p.passed none held)

  heard_in : (state : State) (bytes : List ℕ) → now.held.now.items ≡ [] → Finished (Script is_strict) taken failures first (begin_state numbering) now state bytes → Heard is_strict numbering bytes t t' state
  heard_in state bytes held f =
      let h = heeded is_strict (begin_state numbering) (lines_of bytes) f.turns f.are in
      record {
        lines = h.heard;
        more = h.rest;
        cut = h.cut;
        ends = ends_by is_strict state h.rest (subst (λ (s : State). (h.rest ≡ []) ⊎ (is_done (Script is_strict) s ≡ true)) (sym f.after) h.ends) (λ strict. subst IsClean (sym f.after) (h.clean strict (inl refl)));
        readings = h.readings;
        are = h.are;
        wrote = λ rs k.
            let same = same_readings one None h.heard h.readings rs h.are k in
            (f.after ∙ h.after ∙ ap (state_after (begin_state numbering)) same, subst (Appends t t') (h.replies ∙ ap (output numbering) same) (wrote (replies_to (begin_state numbering) f.turns) held f.puts));
      }

  -- what was heard
  pub ServedOut-heard : (state : State) → ServedOut (Script is_strict) taken failures opening state left left' first now → IfSome left (λ input. Heard is_strict numbering input t t' state)
  ServedOut-heard state r0 =
      let r = subst (λ (s : State). ServedOut (Script is_strict) taken failures s state left left' first now) begins r0 in
      elim r.ends [
        | inl ended ↦ Consumes-whole left left' r.bytes (λ input. Heard is_strict numbering input t t' state) r.read ended.0 (heard_in state r.bytes r.held ended.1)
        | inr ceased ↦ Consumes-front left left' r.bytes (λ input. Heard is_strict numbering input t t' state) r.read (λ rest. heard_in state (r.bytes ++ rest) r.held (Ceased-all (Script is_strict) taken failures first (begin_state numbering) now state r.bytes rest ceased))
      ]

  -- all whole lines were heard
  record AllHeard (state : State) (line : Option (List ℕ)) (bytes : List ℕ) (s : Served (Script is_strict) taken failures first (begin_state numbering) now state line bytes) : Type 0 where
    pub readings : List Reading
    pub are : AreReadings s.lines readings
    pub replies : replies_to (begin_state numbering) s.turns ≡ output numbering readings

  all_heard : (state : State) (line : Option (List ℕ)) (bytes : List ℕ) (s : Served (Script is_strict) taken failures first (begin_state numbering) now state line bytes) → is_done (Script is_strict) state ≡ false → AllHeard state line bytes s
  all_heard state line bytes s on =
      let h = heeded is_strict (begin_state numbering) s.lines s.turns s.are in
      let all : s.lines ≡ h.heard = elim h.ends [
        | inl none_left ↦ h.cut ∙ ap (λ (ls : List (List ℕ)). h.heard ++ ls) none_left ∙ append-nil h.heard
        | inr done ↦ absurd (let here = ap (is_done (Script is_strict)) s.after in cc)
      ] in
      record { readings = h.readings; are = subst (λ (ls : List (List ℕ)). AreReadings ls h.readings) (sym all) h.are; replies = h.replies }

  -- and their output was written, however they are read
  all_written : (state : State) (line : Option (List ℕ)) (bytes : List ℕ) (s : Served (Script is_strict) taken failures first (begin_state numbering) now state line bytes) → AllHeard state line bytes s → now.held.now.items ≡ [] → (lines : List (List ℕ)) → lines ≡ s.lines
      → (rs : List Reading) → AreReadings lines rs → Appends t t' (output numbering rs)
  all_written state line bytes s h held lines is rs k =
      subst (Appends t t') (h.replies ∙ ap (output numbering) (same_readings one None s.lines h.readings rs h.are (subst (λ (ls : List (List ℕ)). AreReadings ls rs) is k)))
      (wrote (replies_to (begin_state numbering) s.turns) held s.puts)

  -- the whole lines were answered
  BrokeOff-wrote : BrokeOff (Script is_strict) taken failures opening left left' first now → WroteWholeLines numbering left left' t t'
  BrokeOff-wrote b0 =
      let b = subst (λ (s : State). BrokeOff (Script is_strict) taken failures s left left' first now) begins b0 in
      let s = b.served in
      let h = all_heard b.state b.line b.bytes s b.goes_on in
      let cut : whole_lines b.bytes ≡ s.lines = ap whole_lines s.cut ∙ whole_lines_all_ended s.lines s.pending s.no_end s.open_end in
      record {
        bytes = b.bytes;
        read = b.read;
        readings = h.readings;
        are = subst (λ (ls : List (List ℕ)). AreReadings ls h.readings) (sym cut) h.are;
        wrote = all_written b.state b.line b.bytes s h b.held (whole_lines b.bytes) cut;
      }

  -- the first lines were answered
  RanOut-wrote : RanOut (Script is_strict) taken failures opening left left' first now → WroteFirstLines numbering left left' t t'
  RanOut-wrote r0 =
      let r = subst (λ (s : State). RanOut (Script is_strict) taken failures s left left' first now) begins r0 in
      let starved = r.starved in
      let s = starved.served in
      let h = all_heard starved.state starved.line (r.bytes ++ starved.done) s starved.goes_on in
      let there = longer r.bytes starved.done in
      let behind = longer (r.bytes ++ starved.done) starved.rest in
      let whole : (r.bytes ++ starved.done) ++ starved.rest ≡ r.bytes ++ r.piece = append_assoc r.bytes starved.done starved.rest ∙ ap (λ (l : List ℕ). r.bytes ++ l) starved.cut in
      let answered : whole_lines r.bytes ++ there.more ≡ s.lines = sym there.whole ∙ ap whole_lines s.cut ∙ whole_lines_all_ended s.lines s.pending s.no_end s.open_end in
      record {
        bytes = r.bytes;
        piece = r.piece;
        read = r.read;
        short = r.short;
        more = there.more;
        behind = behind.more;
        whole = ap whole_lines (sym whole) ∙ behind.whole ∙ ap (λ (ls : List (List ℕ)). ls ++ behind.more) there.whole;
        readings = h.readings;
        are = subst (λ (ls : List (List ℕ)). AreReadings ls h.readings) (sym answered) h.are;
        wrote = all_written starved.state starved.line (r.bytes ++ starved.done) s h starved.held (whole_lines r.bytes ++ there.more) answered;
      }

  pub Stopped-whole : (stop : Stop) → Stopped (Script is_strict) taken failures opening left left' first now stop → IfAtTurn stop (λ turn. WroteWholeLines numbering left left' t t')
  Stopped-whole (stops.Read turn) h = BrokeOff-wrote h
  Stopped-whole stops.Write h = tt
  Stopped-whole stops.NoMemory h = tt

  pub Stopped-first : (stop : Stop) → Stopped (Script is_strict) taken failures opening left left' first now stop → IfMemory stop (WroteFirstLines numbering left left' t t')
  Stopped-first (stops.Read turn) h = tt
  Stopped-first stops.Write h = tt
  Stopped-first stops.NoMemory h = RanOut-wrote h

  -- ---- no more than a front was written

  front_in : (bytes : List ℕ) (lines more : List (List ℕ)) (turns : List Turn) → lines_of bytes ≡ lines ++ more → AreTurns (Script is_strict) (begin_state numbering) lines turns → (rs : List Reading) → AreReadings (lines_of bytes) rs
      → (rest : List ℕ) × (replies_to (begin_state numbering) turns ++ rest ≡ output numbering rs)
  front_in bytes lines more turns cut are rs k =
      let opened = begin_state numbering in
      let h = heeded is_strict opened lines turns are in
      let all : lines_of bytes ≡ h.heard ++ (h.rest ++ more) = cut ∙ ap (λ (ls : List (List ℕ)). ls ++ more) h.cut ∙ append_assoc h.heard h.rest more in
      let p = part opened h.heard (h.rest ++ more) rs (subst (λ (ls : List (List ℕ)). AreReadings ls rs) all k) in
      let same = same_readings one None h.heard h.readings p.front h.are p.are in
      let others = output_from (state_after opened p.front) p.rest in
      (others, ap (λ (l : List ℕ). l ++ others) (h.replies ∙ ap (output numbering) same) ∙ sym (output_from-append opened p.front p.rest) ∙ ap (output numbering) (sym p.whole))

  front_of : (bytes : List ℕ) (lines more : List (List ℕ)) (turns : List Turn) → lines_of bytes ≡ lines ++ more → AreTurns (Script is_strict) (begin_state numbering) lines turns
      → TakesFront (taken first.sink.now) (taken now.sink.now) (first.held.now.items ++ replies_to (begin_state numbering) turns) → (rs : List Reading) → AreReadings (lines_of bytes) rs → TakesFront t t' (output numbering rs)
  front_of bytes lines more turns cut are took rs k =
      let f = front_in bytes lines more turns cut are rs k in
      subst (TakesFront t t') f.1 (TakesFront-more t t' (replies_to (begin_state numbering) turns) f.0
      (rw (← e, ← e') (subst (λ (held : List ℕ). TakesFront (taken first.sink.now) (taken now.sink.now) (held ++ replies_to (begin_state numbering) turns)) none took)))

  served_front : (state : State) (line : Option (List ℕ)) (bytes rest : List ℕ) → Served (Script is_strict) taken failures first (begin_state numbering) now state line bytes → (rs : List Reading) → AreReadings (lines_of (bytes ++ rest)) rs → TakesFront t t' (output numbering rs)
  served_front state line bytes rest s = front_of (bytes ++ rest) s.lines (lines_of (s.pending ++ rest)) s.turns (lines_of_behind s.lines s.pending bytes rest s.cut s.no_end) s.are (Passes-cut _ _ _ _ _ s.puts.passed)

  pub Stopped-front : (stop : Stop) → Stopped (Script is_strict) taken failures opening left left' first now stop → WroteFront numbering left left' t t'
  Stopped-front (stops.Read turn) b0 =
      let b = subst (λ (s : State). BrokeOff (Script is_strict) taken failures s left left' first now) begins b0 in
      record {
        bytes = b.bytes;
        read = b.read;
        wrote = λ rs k. served_front b.state b.line b.bytes [] b.served rs (subst (λ (bs : List ℕ). AreReadings (lines_of bs) rs) (sym (append-nil b.bytes)) k);
      }
  Stopped-front stops.Write b0 =
      let b = subst (λ (s : State). BrokeDown (Script is_strict) taken failures s left left' first now) begins b0 in
      record { bytes = b.bytes; read = b.read; wrote = front_of b.bytes b.broken.lines b.broken.more b.broken.turns b.broken.cut b.broken.are b.broken.breaks.took }
  Stopped-front stops.NoMemory r0 =
      let r = subst (λ (s : State). RanOut (Script is_strict) taken failures s left left' first now) begins r0 in
      let starved = r.starved in
      let whole : (r.bytes ++ starved.done) ++ starved.rest ≡ r.bytes ++ r.piece = append_assoc r.bytes starved.done starved.rest ∙ ap (λ (l : List ℕ). r.bytes ++ l) starved.cut in
      record {
        bytes = r.bytes ++ r.piece;
        read = r.read;
        wrote = λ rs k. served_front starved.state starved.line (r.bytes ++ starved.done) starved.rest starved.served rs (subst (λ (bs : List ℕ). AreReadings (lines_of bs) rs) (sym whole) k);
      }

if_some : {X : Type 0} (x : Option X) (P Q : X → Type 0) → ((y : X) → P y → Q y) → IfSome x P → IfSome x Q
if_some None P Q f h = tt
if_some (Some y) P Q f h = f y h

-- a script that is not strict was heard whole
all_lines : (numbering : Numbering) (input : List ℕ) (t t' : Option (List ℕ)) (state : State) (h : Heard false numbering input t t' state) → lines_of input ≡ h.lines
all_lines numbering input t t' state h = elim h.ends [
  | inl whole ↦ h.cut ∙ ap (λ (ls : List (List ℕ)). h.lines ++ ls) whole.0 ∙ append-nil h.lines
  | inr refused ↦ absurd (let never = refused.0 in cc)
]

module _ {W A : Type 0} (one : HaveOneReading) (taken : W → Option (List ℕ)) (failures : W → ℕ) (opening state : State) (left left' : Option (List ℕ)) (first now : Output W A) (begins : opening ≡ begin_state Plain) (none : first.held.now.items ≡ []) where
  -- what was heard of a script that is not strict
  heard_all : ServedOut (Script false) taken failures opening state left left' first now → IfSome left (λ input. Heard false Plain input (taken first.sink.now) (taken now.sink.now) state)
  heard_all r = ServedOut-heard one false Plain taken failures opening left left' first now (taken first.sink.now) (taken now.sink.now) begins none refl refl state r

  -- so it has readings
  pub ServedOut-readings : ServedOut (Script false) taken failures opening state left left' first now → IfSome left (λ input. (rs : List Reading) × AreReadings (lines_of input) rs)
  ServedOut-readings r =
      if_some left _ _ (λ input h. (h.readings, subst (λ (ls : List (List ℕ)). AreReadings ls h.readings) (sym (all_lines Plain input _ _ state h)) h.are)) (heard_all r)

  -- and what is left is so after it
  pub ServedOut-left : ServedOut (Script false) taken failures opening state left left' first now → IfSome left (λ input. (rs : List Reading) → AreReadings (lines_of input) rs → left_in state ≡ left_after rs)
  ServedOut-left r =
      if_some left _ _ (λ input h rs k. ap left_in (h.wrote rs (subst (λ (ls : List (List ℕ)). AreReadings ls rs) (all_lines Plain input _ _ state h) k)).0) (heard_all r)

-- nothing was read
pub WroteFirstLines-none : (numbering : Numbering) (left taken : Option (List ℕ)) → WroteFirstLines numbering left left taken taken
WroteFirstLines-none numbering left taken = record {
  bytes = [];
  piece = [];
  read = Consumes-nil left;
  short = omega arith;
  more = [];
  behind = [];
  whole = refl;
  readings = [];
  are = tt;
  wrote = λ rs h. rw (none_of_them rs h) (Appends-nil taken);
}
  where
    none_of_them : (rs : List Reading) → AreReadings [] rs → rs ≡ []
    none_of_them [] h = refl
    none_of_them (r ∷ rs) h = absurd h
