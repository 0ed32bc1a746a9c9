-- Lines served one after another.
use Rattle.std.proofs.Common.{◌≡◌, ℕ, ◌<◌, ◌≤◌, ◌+◌, true, false, List, [], ◌∷◌, ◌++◌, length, Option, Some, None, inl, inr, refl, sym, ap, subst, ◌∙◌, append_assoc, append-nil, length-append, arith}
use Rattle.std.proofs.lemmas.List.{nil_from_length}
use Rattle.cq_report.specs.declared.output.Output.{Output}
use Rattle.cq_devices.specs.declared.stop.Stop.{Stop}
use Rattle.cq_devices.specs.declared.stop.Stop.TheVariants as stops
use Rattle.cq_devices.specs.declared.stop.Stop.TheVariants.{Write, NoMemory}
use Rattle.cq_devices.specs.Device.{write_failures_of}
use Rattle.cq_devices.specs.Limits.{max_piece}
use Rattle.std.specs.Io.KnownBytes.{Consumes}
use Rattle.cq_ask.specs.Ask.{asked}
use Rattle.cq_report.specs.declared.manner.Manner.{Manner}
use Rattle.cq_report.specs.declared.manner.Manner.TheVariants as manners
use Rattle.cq_report.specs.Lines.{lines_of, whole_lines, HasNoEnd}
use Rattle.cq_report.specs.Reading.{IsReading}
use Rattle.cq_report.specs.Machine.{State, form_in}
use Rattle.cq_report.specs.Live.{Turn, Served as ReadsAs, Renewed, Asked, OutOfMemory, Unheard, IsTurn, AreTurns, MayStarve, asked_in, is_done, line_room, turned, turn_reply, state_turned, replies_to}
use Rattle.cq_report.specs.Steps.Kept.{kept}
use Rattle.cq_report.specs.Steps.Written.{Puts, Breaks, Fails}
use Rattle.cq_report.specs.Steps.Writing.{Puts-nothing, Puts-then, Puts-breaks}
use Rattle.cq_report.specs.Steps.Serving.{HaveNoEnd, ended, IsSound, Keeps, KeepsOn, Ends, whole_in, is_new, IsLine, Turns, TurnBreaks, Starves, Answers, AnswerStops, Served, Broken, Starved, Finished, Finishes, ServesOn, StopsOn, Ceased, LastRead, Stopped}
use Rattle.cq_report.proofs.Cutting.{kept_nil, kept_again, kept_none, kept_some, kept_kept, kept_short, kept_long, lines_of_all_ended, lines_of_ended, lines_of_open, whole_lines_all_ended, HasNoEnd-append, HaveNoEnd-more, ended-more}
use Rattle.cq_report.proofs.Kept.{IsReading-kept, IsReading-whole, asked_kept}

-- ---- one line more

AreTurns-more : (manner : Manner) (state : State) (lines : List (List ℕ)) (turns : List Turn) (line : List ℕ) (turn : Turn) → AreTurns manner state lines turns → IsTurn manner (state_turned state turns) line turn
    → AreTurns manner state (lines ++ line ∷ []) (turns ++ turn ∷ [])
AreTurns-more manner state [] [] line turn h i = (i, tt)
AreTurns-more manner state [] (t ∷ turns) line turn h i = absurd h
AreTurns-more manner state (l ∷ lines) [] line turn h i = absurd h
AreTurns-more manner state (l ∷ lines) (t ∷ turns) line turn h i = (h.0, AreTurns-more manner (turned state t) lines turns line turn h.1 i)

state_turned-more : (state : State) (turns : List Turn) (turn : Turn) → state_turned state (turns ++ turn ∷ []) ≡ turned (state_turned state turns) turn
state_turned-more state [] turn = refl
state_turned-more state (t ∷ turns) turn = state_turned-more (turned state t) turns turn

replies_to-more : (state : State) (turns : List Turn) (turn : Turn) → replies_to state turns ++ turn_reply (state_turned state turns) turn ≡ replies_to state (turns ++ turn ∷ [])
replies_to-more state [] turn = sym (append-nil (turn_reply state turn))
replies_to-more state (t ∷ turns) turn =
    append_assoc (turn_reply state t) (replies_to (turned state t) turns) (turn_reply (state_turned (turned state t) turns) turn) ∙ ap (λ (bytes : List ℕ). turn_reply state t ++ bytes) (replies_to-more (turned state t) turns turn)

turns_then : (manner : Manner) (state : State) (lines more : List (List ℕ)) (turns then : List Turn) → AreTurns manner state lines turns → AreTurns manner (state_turned state turns) more then → AreTurns manner state (lines ++ more) (turns ++ then)
turns_then manner state [] more [] then h k = k
turns_then manner state [] more (t ∷ turns) then h k = absurd h
turns_then manner state (l ∷ lines) more [] then h k = absurd h
turns_then manner state (l ∷ lines) more (t ∷ turns) then h k = (h.0, turns_then manner (turned state t) lines more turns then h.1 k)

replies_then : (state : State) (turns then : List Turn) → replies_to state (turns ++ then) ≡ replies_to state turns ++ replies_to (state_turned state turns) then
replies_then state [] then = refl
replies_then state (t ∷ turns) then =
    ap (λ (bytes : List ℕ). turn_reply state t ++ bytes) (replies_then (turned state t) turns then) ∙ sym (append_assoc (turn_reply state t) (replies_to (turned state t) turns) (replies_to (state_turned (turned state t) turns) then))

state_then : (state : State) (turns then : List Turn) → state_turned state (turns ++ then) ≡ state_turned (state_turned state turns) then
state_then state [] then = refl
state_then state (t ∷ turns) then = state_then (turned state t) turns then

-- ---- what is kept

keeps_on : (line line' : Option (List ℕ)) (pending more : List ℕ) → Keeps line pending → KeepsOn line more line' → Keeps line' (pending ++ more)
keeps_on None None pending more h k = let both = length-append pending more in omega (arith, both, h)
keeps_on None (Some l) pending more h k = absurd k
keeps_on (Some f) None pending more h k =
    let both = length-append pending more in
    let few : length f ≤ length pending = subst (λ (l : List ℕ). length l ≤ length pending) (sym h) (kept_short pending) in
    omega (arith, both, few, k)
keeps_on (Some f) (Some l) pending more h (inl k) = k ∙ ap (λ (bytes : List ℕ). kept (bytes ++ more)) h ∙ kept_again pending more
keeps_on (Some f) (Some l) pending more h (inr (none, k)) = k ∙ h ∙ ap kept (sym (append-nil pending) ∙ ap (λ (bytes : List ℕ). pending ++ bytes) (sym none))

-- bytes that were kept are no line that begins
never_new : (b : ℕ) (bs more : List ℕ) (P : Type 0) → KeepsOn (Some (b ∷ bs)) more (Some []) → P
never_new b bs more P (inl k) = absurd (let none = kept_none ((b ∷ bs) ++ more) (ap length (sym k)) in omega (arith, none))
never_new b bs more P (inr (none, k)) = absurd cc

-- what is known of a line after its last bytes
ends_line : (line line' : Option (List ℕ)) (pending last : List ℕ) → Keeps line pending → Ends line last line' → IsLine (whole_in line' last) (pending ++ last)
ends_line None None pending last h k = let both = length-append pending last in omega (arith, both, h)
ends_line None (Some l) pending last h k = absurd k
ends_line (Some []) line' pending last h k =
    let none : pending ≡ [] = nil_from_length pending (kept_none pending (ap length (sym h))) in
    subst (λ (l : Option (List ℕ)). IsLine (whole_in l last) (pending ++ last)) (sym k) (ap (λ (p : List ℕ). kept (p ++ last)) (sym none))
ends_line (Some (b ∷ bs)) None pending last h k = keeps_on (Some (b ∷ bs)) None pending last h k
ends_line (Some (b ∷ bs)) (Some []) pending last h k = never_new b bs last _ k
ends_line (Some (b ∷ bs)) (Some (c ∷ cs)) pending last h k = ap kept (keeps_on (Some (b ∷ bs)) (Some (c ∷ cs)) pending last h k) ∙ kept_kept (pending ++ last)

-- what is known of a line that the end of the source ends
last_line : (line : Option (List ℕ)) (pending : List ℕ) → is_new line ≡ false → Keeps line pending → IsLine (whole_in line []) pending
last_line None pending new h = h
last_line (Some []) pending new h = absurd cc
last_line (Some (b ∷ bs)) pending new h = ap kept h ∙ kept_kept pending

-- of a line of which nothing is kept nothing was read
new_keeps : (line : Option (List ℕ)) (pending : List ℕ) → is_new line ≡ true → Keeps line pending → pending ≡ []
new_keeps None pending new h = cc
new_keeps (Some l) pending new h = let none : length l ≡ 0 = grind arith in nil_from_length pending (kept_none pending (rw h at none))

-- of a line of which something is kept something was read
some_keeps : (line : Option (List ℕ)) (pending : List ℕ) → is_new line ≡ false → Keeps line pending → 0 < length pending
some_keeps None pending new h = omega (arith, h)
some_keeps (Some l) pending new h = let some : 0 < length l = grind arith in kept_some pending (rw h at some)

-- ---- what comes of what is kept comes of the line

same_asked : (manner : Manner) (line all : List ℕ) → kept line ≡ kept all → asked_in manner line ≡ asked_in manner all
same_asked manners.Live line all e = sym (asked_kept line) ∙ ap asked e ∙ asked_kept all
same_asked (manners.Script is_strict) line all e = refl

same_room : (line all : List ℕ) → kept line ≡ kept all → line_room < length line → line_room < length all
same_room line all e h = let long = kept_long line h in let short = kept_short all in let same = ap length e in omega (arith, long, short, same)

pub same_starve : (line all : List ℕ) → kept line ≡ kept all → MayStarve line → MayStarve all
same_starve line all e (inl h) = inl (same_room line all e h)
same_starve line all e (inr h) = inr (λ ask is. h ask (same_asked manners.Live line all e ∙ is))

pub turn_of_line : (manner : Manner) (state : State) (line all : List ℕ) (turn : Turn) → kept line ≡ kept all → IsTurn manner state line turn → IsTurn manner state all turn
turn_of_line manner state line all (ReadsAs reading) e i = (
  i.0,
  sym (same_asked manner line all e) ∙ i.1,
  IsReading-whole (form_in state) all reading (subst (λ (l : List ℕ). IsReading (form_in state) l reading) e (IsReading-kept (form_in state) line reading i.2)),
)
turn_of_line manner state line all (Renewed reading) e i = (
  i.0,
  i.1,
  sym (same_asked manner line all e) ∙ i.2,
  IsReading-whole (form_in state) all reading (subst (λ (l : List ℕ). IsReading (form_in state) l reading) e (IsReading-kept (form_in state) line reading i.3)),
  i.4,
)
turn_of_line manner state line all (Asked ask told) e i = (i.0, sym (same_asked manner line all e) ∙ i.1, i.2)
turn_of_line manner state line all OutOfMemory e i = (i.0, i.1, same_starve line all e i.2)
turn_of_line manner state line all Unheard e i = i

-- ---- no further line is heard

unheard_turns : List (List ℕ) → List Turn
unheard_turns [] = []
unheard_turns (line ∷ lines) = Unheard ∷ unheard_turns lines

unheard_are : (manner : Manner) (state : State) (lines : List (List ℕ)) → is_done manner state ≡ true → AreTurns manner state lines (unheard_turns lines)
unfolding unheard_turns
unheard_are manner state [] over = tt
unheard_are manner state (line ∷ lines) over = (over, unheard_are manner state lines over)

unheard_replies : (state : State) (lines : List (List ℕ)) → replies_to state (unheard_turns lines) ≡ []
unfolding unheard_turns
unheard_replies state [] = refl
unheard_replies state (line ∷ lines) = unheard_replies state lines

unheard_state : (state : State) (lines : List (List ℕ)) → state_turned state (unheard_turns lines) ≡ state
unfolding unheard_turns
unheard_state state [] = refl
unheard_state state (line ∷ lines) = unheard_state state lines

-- ---- cuts

-- the lines of whole lines, and of what stands after them
pub lines_of_behind : (lines : List (List ℕ)) (pending bytes rest : List ℕ) → bytes ≡ ended lines ++ pending → HaveNoEnd lines → lines_of (bytes ++ rest) ≡ lines ++ lines_of (pending ++ rest)
lines_of_behind lines pending bytes rest e h = rw (e, append_assoc (ended lines) pending rest) (lines_of_all_ended lines (pending ++ rest) h)

-- the lines that were served, one more, and what is left
pub cut_past : (done rest line behind piece : List ℕ) → done ++ rest ≡ piece → rest ≡ line ++ (10 ∷ behind) → (done ++ (line ++ 10 ∷ [])) ++ behind ≡ piece
cut_past done rest line behind piece e f =
    append_assoc done (line ++ 10 ∷ []) behind ∙ ap (λ (l : List ℕ). done ++ l) (append_assoc line (10 ∷ []) behind ∙ sym f) ∙ e

-- bytes, the front of a piece, a line of it, and what is behind
cut_on : (bytes done rest line behind piece : List ℕ) → done ++ rest ≡ piece → rest ≡ line ++ (10 ∷ behind) → (bytes ++ done) ++ (line ++ (10 ∷ behind)) ≡ bytes ++ piece
cut_on bytes done rest line behind piece e f = append_assoc bytes done (line ++ (10 ∷ behind)) ∙ ap (λ (l : List ℕ). bytes ++ l) (ap (λ (l : List ℕ). done ++ l) (sym f) ∙ e)

module _ (manner : Manner) {W A : Type 0} (taken : W → Option (List ℕ)) (failures : W → ℕ) (first : Output W A) (opening : State) where
  -- nothing has been read
  pub Served-nothing : Served manner taken failures first opening first opening (Some []) []
  Served-nothing = record {
    lines = [];
    pending = [];
    cut = refl;
    no_end = tt;
    open_end = tt;
    keeps = sym kept_nil;
    turns = [];
    are = tt;
    after = refl;
    puts = Puts-nothing taken failures first;
  }

  -- from here on, what was read of the line that is not ended has been read
  pub Served-again : (now : Output W A) (state : State) (line : Option (List ℕ)) (bytes : List ℕ) (s : Served manner taken failures first opening now state line bytes) → Served manner taken failures now state now state line s.pending
  Served-again now state line bytes s = record {
    lines = [];
    pending = s.pending;
    cut = refl;
    no_end = tt;
    open_end = s.open_end;
    keeps = s.keeps;
    turns = [];
    are = tt;
    after = refl;
    puts = Puts-nothing taken failures now;
  }

  -- bytes that end no line
  Served-front : (now : Output W A) (state : State) (line line' : Option (List ℕ)) (bytes more : List ℕ) → Served manner taken failures first opening now state line bytes → HasNoEnd more → KeepsOn line more line'
      → Served manner taken failures first opening now state line' (bytes ++ more)
  Served-front now state line line' bytes more s none_ends k = record {
    lines = s.lines;
    pending = s.pending ++ more;
    cut = ap (λ (l : List ℕ). l ++ more) s.cut ∙ append_assoc (ended s.lines) s.pending more;
    no_end = s.no_end;
    open_end = HasNoEnd-append s.pending more s.open_end none_ends;
    keeps = keeps_on line line' s.pending more s.keeps k;
    turns = s.turns;
    are = s.are;
    after = s.after;
    puts = s.puts;
  }

  -- the replies to lines, and that to one more
  replies_more : (now now' : Output W A) (state state' : State) (line : Option (List ℕ)) (bytes all : List ℕ) (s : Served manner taken failures first opening now state line bytes) (t : Turns manner taken failures now now' state state' all)
      → Puts taken failures first now' (replies_to opening (s.turns ++ t.turn ∷ []))
  replies_more now now' state state' line bytes all s t =
      subst (Puts taken failures first now') (ap (λ (z : State). replies_to opening s.turns ++ turn_reply z t.turn) s.after ∙ replies_to-more opening s.turns t.turn)
      (Puts-then taken failures first now now' (replies_to opening s.turns) (turn_reply state t.turn) s.puts t.puts)

  state_more : (now : Output W A) (state state' : State) (line : Option (List ℕ)) (bytes : List ℕ) (s : Served manner taken failures first opening now state line bytes) (turn : Turn) → state' ≡ turned state turn → state' ≡ state_turned opening (s.turns ++ turn ∷ [])
  state_more now state state' line bytes s turn e = e ∙ ap (λ (z : State). turned z turn) s.after ∙ sym (state_turned-more opening s.turns turn)

  are_more : (now : Output W A) (state : State) (line : Option (List ℕ)) (bytes all : List ℕ) (s : Served manner taken failures first opening now state line bytes) (turn : Turn) → IsTurn manner state all turn → AreTurns manner opening (s.lines ++ all ∷ []) (s.turns ++ turn ∷ [])
  are_more now state line bytes all s turn i = AreTurns-more manner opening s.lines s.turns all turn s.are (subst (λ (z : State). IsTurn manner z all turn) s.after i)

  -- the last bytes of a line and LF, after which it is served
  pub Served-line : (now now' : Output W A) (state state' : State) (line line' : Option (List ℕ)) (bytes last : List ℕ) → Served manner taken failures first opening now state line bytes → HasNoEnd last → Ends line last line'
      → Answers manner taken failures now now' state state' (whole_in line' last) → Served manner taken failures first opening now' state' (Some []) (bytes ++ (last ++ 10 ∷ []))
  Served-line now now' state state' line line' bytes last s none_ends k answers =
      let all = s.pending ++ last in
      let t = answers all (ends_line line line' s.pending last s.keeps k) in
      record {
        lines = s.lines ++ all ∷ [];
        pending = [];
        cut = ap (λ (l : List ℕ). l ++ (last ++ 10 ∷ [])) s.cut ∙ append_assoc (ended s.lines) s.pending (last ++ 10 ∷ []) ∙ ap (λ (l : List ℕ). ended s.lines ++ l) (sym (append_assoc s.pending last (10 ∷ [])))
            ∙ ended-more s.lines all ∙ sym (append-nil (ended (s.lines ++ all ∷ [])));
        no_end = HaveNoEnd-more s.lines all s.no_end (HasNoEnd-append s.pending last s.open_end none_ends);
        open_end = tt;
        keeps = sym kept_nil;
        turns = s.turns ++ t.turn ∷ [];
        are = are_more now state line bytes all s t.turn t.is;
        after = state_more now state state' line bytes s t.turn t.after;
        puts = replies_more now now' state state' line bytes all s t;
      }

  -- what waited was passed on
  pub Served-passed : (now now' : Output W A) (state : State) (line : Option (List ℕ)) (bytes : List ℕ) → Served manner taken failures first opening now state line bytes → Puts taken failures now now' [] → Served manner taken failures first opening now' state line bytes
  Served-passed now now' state line bytes s p = record {
    lines = s.lines;
    pending = s.pending;
    cut = s.cut;
    no_end = s.no_end;
    open_end = s.open_end;
    keeps = s.keeps;
    turns = s.turns;
    are = s.are;
    after = s.after;
    puts = subst (Puts taken failures first now') (append-nil (replies_to opening s.turns)) (Puts-then taken failures first now now' (replies_to opening s.turns) [] s.puts p);
  }

  -- the writer failed at the reply to a line that others follow
  broken_at : (now now' : Output W A) (state : State) (line : Option (List ℕ)) (bytes all whole : List ℕ) (more : List (List ℕ)) (s : Served manner taken failures first opening now state line bytes) → lines_of whole ≡ s.lines ++ (all ∷ more)
      → TurnBreaks manner taken failures now now' state all → Broken manner taken failures first opening now' whole
  broken_at now now' state line bytes all whole more s cut t = record {
    lines = s.lines ++ all ∷ [];
    more = more;
    cut = cut ∙ sym (append_assoc s.lines (all ∷ []) more);
    turns = s.turns ++ t.turn ∷ [];
    are = are_more now state line bytes all s t.turn t.is;
    breaks = subst (λ (bs : List ℕ). Breaks taken failures first now' bs Write) (ap (λ (z : State). replies_to opening s.turns ++ turn_reply z t.turn) s.after ∙ replies_to-more opening s.turns t.turn)
        (Puts-breaks taken failures first now now' (replies_to opening s.turns) (turn_reply state t.turn) Write s.puts t.breaks);
  }

  Broken-line : (now now' : Output W A) (state : State) (line line' : Option (List ℕ)) (bytes last rest : List ℕ) → Served manner taken failures first opening now state line bytes → HasNoEnd last → Ends line last line'
      → ((all : List ℕ) → IsLine (whole_in line' last) all → TurnBreaks manner taken failures now now' state all) → Broken manner taken failures first opening now' (bytes ++ (last ++ (10 ∷ rest)))
  Broken-line now now' state line line' bytes last rest s none_ends k breaks =
      let all = s.pending ++ last in
      let cut : lines_of (bytes ++ (last ++ (10 ∷ rest))) ≡ s.lines ++ (all ∷ lines_of rest) =
      lines_of_behind s.lines s.pending bytes (last ++ (10 ∷ rest)) s.cut s.no_end
      ∙ ap (λ (ls : List (List ℕ)). s.lines ++ ls) (ap lines_of (sym (append_assoc s.pending last (10 ∷ rest))) ∙ lines_of_ended all rest (HasNoEnd-append s.pending last s.open_end none_ends)) in
      broken_at now now' state line bytes all (bytes ++ (last ++ (10 ∷ rest))) (lines_of rest) s cut (breaks all (ends_line line line' s.pending last s.keeps k))

  -- the writer failed at what waited, and bytes come behind
  Broken-waiting : (now now' : Output W A) (state : State) (line : Option (List ℕ)) (bytes rest : List ℕ) → Served manner taken failures first opening now state line bytes → Breaks taken failures now now' [] Write → Broken manner taken failures first opening now' (bytes ++ rest)
  Broken-waiting now now' state line bytes rest s breaks = record {
    lines = s.lines;
    more = lines_of (s.pending ++ rest);
    cut = lines_of_behind s.lines s.pending bytes rest s.cut s.no_end;
    turns = s.turns;
    are = s.are;
    breaks = subst (λ (bs : List ℕ). Breaks taken failures first now' bs Write) (append-nil (replies_to opening s.turns)) (Puts-breaks taken failures first now now' (replies_to opening s.turns) [] Write s.puts breaks);
  }

  pub Broken-passing : (now now' : Output W A) (state : State) (line : Option (List ℕ)) (bytes : List ℕ) → Served manner taken failures first opening now state line bytes → Breaks taken failures now now' [] Write → Broken manner taken failures first opening now' bytes
  Broken-passing now now' state line bytes s breaks = subst (λ (bs : List ℕ). Broken manner taken failures first opening now' bs) (append-nil bytes) (Broken-waiting now now' state line bytes [] s breaks)

  -- memory ran out behind a front of the piece
  starved_behind : (now now' : Output W A) (state : State) (line : Option (List ℕ)) (bytes done rest piece : List ℕ) → done ++ rest ≡ piece → Served manner taken failures first opening now state line (bytes ++ done) → Starves manner taken failures now now' state
      → Starved manner taken failures first opening now' bytes piece
  starved_behind now now' state line bytes done rest piece cut s starves = record {
    script = starves.script;
    done = done;
    rest = rest;
    cut = cut;
    state = state;
    line = line;
    goes_on = starves.goes_on;
    served = Served-passed now now' state line (bytes ++ done) s starves.puts;
    held = starves.held;
  }

  -- the end came after whole lines
  Finished-whole : (now : Output W A) (state : State) (line : Option (List ℕ)) (bytes : List ℕ) → Served manner taken failures first opening now state line bytes → is_new line ≡ true → Finished manner taken failures first opening now state bytes
  Finished-whole now state line bytes s new =
      let none : s.pending ≡ [] = new_keeps line s.pending new s.keeps in
      let cut : lines_of bytes ≡ s.lines = ap lines_of s.cut ∙ ap (λ (p : List ℕ). lines_of (ended s.lines ++ p)) none ∙ lines_of_all_ended s.lines [] s.no_end ∙ append-nil s.lines in
      record { turns = s.turns; are = subst (λ (ls : List (List ℕ)). AreTurns manner opening ls s.turns) (sym cut) s.are; after = s.after; puts = s.puts }

  lines_of_last : (now : Output W A) (state : State) (line : Option (List ℕ)) (bytes : List ℕ) (s : Served manner taken failures first opening now state line bytes) → is_new line ≡ false → lines_of bytes ≡ s.lines ++ (s.pending ∷ [])
  lines_of_last now state line bytes s new =
      ap lines_of s.cut ∙ lines_of_all_ended s.lines s.pending s.no_end ∙ ap (λ (ls : List (List ℕ)). s.lines ++ ls) (lines_of_open s.pending s.open_end (some_keeps line s.pending new s.keeps))

  -- the end came after the front of a line
  Finished-last : (now now' : Output W A) (state state' : State) (line : Option (List ℕ)) (bytes : List ℕ) → Served manner taken failures first opening now state line bytes → is_new line ≡ false
      → Answers manner taken failures now now' state state' (whole_in line []) → Finished manner taken failures first opening now' state' bytes
  Finished-last now now' state state' line bytes s new answers =
      let t = answers s.pending (last_line line s.pending new s.keeps) in
      record {
        turns = s.turns ++ t.turn ∷ [];
        are = subst (λ (ls : List (List ℕ)). AreTurns manner opening ls (s.turns ++ t.turn ∷ [])) (sym (lines_of_last now state line bytes s new)) (are_more now state line bytes s.pending s t.turn t.is);
        after = state_more now state state' line bytes s t.turn t.after;
        puts = replies_more now now' state state' line bytes s.pending s t;
      }

  -- what waited was passed on
  Finished-passed : (now now' : Output W A) (state : State) (bytes : List ℕ) → Finished manner taken failures first opening now state bytes → Puts taken failures now now' [] → Finished manner taken failures first opening now' state bytes
  Finished-passed now now' state bytes f p = record {
    turns = f.turns;
    are = f.are;
    after = f.after;
    puts = subst (Puts taken failures first now') (append-nil (replies_to opening f.turns)) (Puts-then taken failures first now now' (replies_to opening f.turns) [] f.puts p);
  }

  Broken-finished : (now now' : Output W A) (state : State) (bytes : List ℕ) → Finished manner taken failures first opening now state bytes → Breaks taken failures now now' [] Write → Broken manner taken failures first opening now' bytes
  Broken-finished now now' state bytes f breaks = record {
    lines = lines_of bytes;
    more = [];
    cut = sym (append-nil (lines_of bytes));
    turns = f.turns;
    are = f.are;
    breaks = subst (λ (bs : List ℕ). Breaks taken failures first now' bs Write) (append-nil (replies_to opening f.turns)) (Puts-breaks taken failures first now now' (replies_to opening f.turns) [] Write f.puts breaks);
  }

  -- all lines of the bytes, and of any that come behind them, were served
  pub Ceased-all : (now : Output W A) (state : State) (bytes rest : List ℕ) → Ceased manner taken failures first opening now state bytes → Finished manner taken failures first opening now state (bytes ++ rest)
  Ceased-all now state bytes rest q =
      let s = q.served in
      let more = lines_of (s.pending ++ rest) in
      let here = state_turned opening s.turns in
      let over : is_done manner here ≡ true = ap (is_done manner) (sym s.after) ∙ q.over in
      let same : replies_to opening s.turns ≡ replies_to opening (s.turns ++ unheard_turns more) =
      sym (replies_then opening s.turns (unheard_turns more) ∙ ap (λ (l : List ℕ). replies_to opening s.turns ++ l) (unheard_replies here more) ∙ append-nil (replies_to opening s.turns)) in
      record {
        turns = s.turns ++ unheard_turns more;
        are = subst (λ (ls : List (List ℕ)). AreTurns manner opening ls (s.turns ++ unheard_turns more)) (sym (lines_of_behind s.lines s.pending bytes rest s.cut s.no_end))
            (turns_then manner opening s.lines more s.turns (unheard_turns more) s.are (unheard_are manner here more over));
        after = s.after ∙ sym (state_then opening s.turns (unheard_turns more) ∙ unheard_state here more);
        puts = subst (Puts taken failures first now) same s.puts;
      }

module _ (manner : Manner) {W A : Type 0} (taken : W → Option (List ℕ)) (failures : W → ℕ) where
  -- no bytes more
  pub ServesOn-nothing : (now : Output W A) (state : State) (line : Option (List ℕ)) → ServesOn manner taken failures now now state state line line []
  ServesOn-nothing now state line first opening bytes s = subst (λ (bs : List ℕ). Served manner taken failures first opening now state line bs) (sym (append-nil bytes)) s

  -- a line more
  pub ServesOn-line : (a b c : Output W A) (s0 s1 s2 : State) (l0 l1 l2 : Option (List ℕ)) (done last : List ℕ) → ServesOn manner taken failures a b s0 s1 l0 l1 done → HasNoEnd last → Ends l1 last l2 → Answers manner taken failures b c s1 s2 (whole_in l2 last)
      → ServesOn manner taken failures a c s0 s2 l0 (Some []) (done ++ (last ++ 10 ∷ []))
  ServesOn-line a b c s0 s1 s2 l0 l1 l2 done last on none_ends k answers first opening bytes s =
      subst (λ (bs : List ℕ). Served manner taken failures first opening c s2 (Some []) bs) (append_assoc bytes done (last ++ 10 ∷ []))
      (Served-line manner taken failures first opening b c s1 s2 l1 l2 (bytes ++ done) last (on first opening bytes s) none_ends k answers)

  -- bytes that end no line
  pub ServesOn-front : (a b : Output W A) (s0 s1 : State) (l0 l1 l2 : Option (List ℕ)) (done rest piece : List ℕ) → ServesOn manner taken failures a b s0 s1 l0 l1 done → done ++ rest ≡ piece → HasNoEnd rest → KeepsOn l1 rest l2
      → ServesOn manner taken failures a b s0 s1 l0 l2 piece
  ServesOn-front a b s0 s1 l0 l1 l2 done rest piece on cut none_ends k first opening bytes s =
      subst (λ (bs : List ℕ). Served manner taken failures first opening b s1 l2 bs) (append_assoc bytes done rest ∙ ap (λ (l : List ℕ). bytes ++ l) cut)
      (Served-front manner taken failures first opening b s1 l1 l2 (bytes ++ done) rest (on first opening bytes s) none_ends k)

  -- a stop at a line
  pub StopsOn-line : (a b c : Output W A) (s0 s1 : State) (l0 l1 l2 : Option (List ℕ)) (done rest last behind piece : List ℕ) (stop : Stop) → ServesOn manner taken failures a b s0 s1 l0 l1 done → done ++ rest ≡ piece → rest ≡ last ++ (10 ∷ behind) → HasNoEnd last
      → Ends l1 last l2 → AnswerStops manner taken failures b c s1 (whole_in l2 last) stop → StopsOn manner taken failures a c s0 l0 piece stop
  StopsOn-line a b c s0 s1 l0 l1 l2 done rest last behind piece (stops.Read turn) on cut more none_ends k stopped = absurd stopped
  StopsOn-line a b c s0 s1 l0 l1 l2 done rest last behind piece stops.Write on cut more none_ends k (inl breaks) = λ first opening bytes s.
      subst (λ (bs : List ℕ). Broken manner taken failures first opening c bs) (append_assoc bytes done rest ∙ ap (λ (l : List ℕ). bytes ++ l) cut)
      (Broken-waiting manner taken failures first opening b c s1 l1 (bytes ++ done) rest (on first opening bytes s) breaks)
  StopsOn-line a b c s0 s1 l0 l1 l2 done rest last behind piece stops.Write on cut more none_ends k (inr breaks) = λ first opening bytes s.
      subst (λ (bs : List ℕ). Broken manner taken failures first opening c bs) (cut_on bytes done rest last behind piece cut more)
      (Broken-line manner taken failures first opening b c s1 l1 l2 (bytes ++ done) last behind (on first opening bytes s) none_ends k breaks)
  StopsOn-line a b c s0 s1 l0 l1 l2 done rest last behind piece stops.NoMemory on cut more none_ends k stopped = λ first opening bytes s.
      starved_behind manner taken failures first opening b c s1 l1 bytes done rest piece cut (on first opening bytes s) stopped

  -- ---- the end

  pub Finishes-whole : (a b : Output W A) (state : State) (line : Option (List ℕ)) → is_new line ≡ true → Puts taken failures a b [] → Finishes manner taken failures a b state state line
  Finishes-whole a b state line new p first opening bytes s = Finished-passed manner taken failures first opening a b state bytes (Finished-whole manner taken failures first opening a state line bytes s new) p

  pub Finishes-last : (a b c : Output W A) (s0 s1 : State) (line : Option (List ℕ)) → is_new line ≡ false → Answers manner taken failures a b s0 s1 (whole_in line []) → Puts taken failures b c [] → Finishes manner taken failures a c s0 s1 line
  Finishes-last a b c s0 s1 line new answers p first opening bytes s = Finished-passed manner taken failures first opening b c s1 bytes (Finished-last manner taken failures first opening a b s0 s1 line bytes s new answers) p

  pub StopsOn-whole : (a b : Output W A) (state : State) (line : Option (List ℕ)) → Breaks taken failures a b [] Write → StopsOn manner taken failures a b state line [] Write
  StopsOn-whole a b state line breaks first opening bytes s =
      subst (λ (bs : List ℕ). Broken manner taken failures first opening b bs) (sym (append-nil bytes)) (Broken-passing manner taken failures first opening a b state line bytes s breaks)

  pub StopsOn-finished : (a b c : Output W A) (s0 s1 : State) (line : Option (List ℕ)) → is_new line ≡ false → Answers manner taken failures a b s0 s1 (whole_in line []) → Breaks taken failures b c [] Write → StopsOn manner taken failures a c s0 line [] Write
  StopsOn-finished a b c s0 s1 line new answers breaks first opening bytes s =
      subst (λ (bs : List ℕ). Broken manner taken failures first opening c bs) (sym (append-nil bytes))
      (Broken-finished manner taken failures first opening b c s1 bytes (Finished-last manner taken failures first opening a b s0 s1 line bytes s new answers) breaks)

  pub StopsOn-last : (a b : Output W A) (state : State) (line : Option (List ℕ)) (stop : Stop) → is_new line ≡ false → AnswerStops manner taken failures a b state (whole_in line []) stop → StopsOn manner taken failures a b state line [] stop
  StopsOn-last a b state line (stops.Read turn) new stopped = absurd stopped
  StopsOn-last a b state line stops.Write new (inl breaks) = StopsOn-whole a b state line breaks
  StopsOn-last a b state line stops.Write new (inr breaks) = λ first opening bytes s.
      subst (λ (bs : List ℕ). Broken manner taken failures first opening b bs) (sym (append-nil bytes))
      (broken_at manner taken failures first opening a b state line bytes s.pending bytes [] s (lines_of_last manner taken failures first opening a state line bytes s new) (breaks s.pending (last_line line s.pending new s.keeps)))
  StopsOn-last a b state line stops.NoMemory new stopped = λ first opening bytes s.
      starved_behind manner taken failures first opening a b state line bytes [] [] [] refl (subst (λ (bs : List ℕ). Served manner taken failures first opening a state line bs) (sym (append-nil bytes)) s) stopped

-- ---- stops

-- what is known of a stop in a piece
pub Stopped-by : (manner : Manner) {W A : Type 0} (taken : W → Option (List ℕ)) (failures : W → ℕ) (opening : State) (left left' : Option (List ℕ)) (first old new : Output W A) (state : State) (line : Option (List ℕ)) (bytes piece : List ℕ) (stop : Stop)
    → Served manner taken failures first opening old state line bytes → Consumes left left' (bytes ++ piece) → length piece ≤ max_piece → StopsOn manner taken failures old new state line piece stop → Stopped manner taken failures opening left left' first new stop
Stopped-by manner taken failures opening left left' first old new state line bytes piece (stops.Read turn) s read short on = absurd on
Stopped-by manner taken failures opening left left' first old new state line bytes piece stops.Write s read short on = record { bytes = bytes ++ piece; read = read; broken = on first opening bytes s }
Stopped-by manner taken failures opening left left' first old new state line bytes piece stops.NoMemory s read short on = record { bytes = bytes; piece = piece; read = read; short = short; starved = on first opening bytes s }

-- ---- the writer

pub IsSound-nothing : {W A : Type 0} (failures : W → ℕ) (old : Output W A) → IsSound failures old old
IsSound-nothing failures old = record { writer = refl; failed = refl }

pub IsSound-then : {W A : Type 0} (failures : W → ℕ) (a b c : Output W A) → IsSound failures a b → IsSound failures b c → IsSound failures a c
IsSound-then failures a b c p q = record { writer = q.writer ∙ p.writer; failed = q.failed ∙ p.failed }

pub IsSound-fails : {W A : Type 0} (failures : W → ℕ) (a b c : Output W A) (stop : Stop) → IsSound failures a b → Fails failures b c stop → Fails failures a c stop
IsSound-fails failures a b c stop p q = record { writer = q.writer ∙ p.writer; failed = q.failed ∙ ap (λ (n : ℕ). n + write_failures_of stop) p.failed }

pub IsSound-puts : {W A : Type 0} (taken : W → Option (List ℕ)) (failures : W → ℕ) (a b : Output W A) (bytes : List ℕ) → Puts taken failures a b bytes → IsSound failures a b
IsSound-puts taken failures a b bytes p = record { writer = p.writer; failed = p.failed }

-- ---- the last read

module _ (manner : Manner) {W A : Type 0} (taken : W → Option (List ℕ)) (failures : W → ℕ) (first : Output W A) (opening : State) (now new : Output W A) (state state' : State) (line left left' : Option (List ℕ)) where
  -- a piece more, of which and of what was not ended before all lines were served
  last_read : (bytes piece : List ℕ) (s : Served manner taken failures first opening now state line bytes) → is_done manner state ≡ false → Consumes left left' (bytes ++ piece) → length piece ≤ max_piece
      → Finished manner taken failures now state new state' (s.pending ++ piece) → LastRead manner taken failures opening left left' first new
  last_read bytes piece s on read small e =
      let cut : lines_of (bytes ++ piece) ≡ s.lines ++ lines_of (s.pending ++ piece) = lines_of_behind s.lines s.pending bytes piece s.cut s.no_end in
      let whole : whole_lines bytes ≡ s.lines = ap whole_lines s.cut ∙ whole_lines_all_ended s.lines s.pending s.no_end s.open_end in
      let same : replies_to opening s.turns ++ replies_to state e.turns ≡ replies_to opening (s.turns ++ e.turns) =
      ap (λ (l : State). replies_to opening s.turns ++ replies_to l e.turns) s.after ∙ sym (replies_then opening s.turns e.turns) in
      record {
        before = bytes;
        piece = piece;
        read = read;
        small = small;
        turns = s.turns;
        are = subst (λ (ls : List (List ℕ)). AreTurns manner opening ls s.turns) (sym whole) s.are;
        goes_on = ap (is_done manner) (sym s.after) ∙ on;
        more = e.turns;
        all = subst (λ (ls : List (List ℕ)). AreTurns manner opening ls (s.turns ++ e.turns)) (sym cut)
            (turns_then manner opening s.lines (lines_of (s.pending ++ piece)) s.turns e.turns s.are (subst (λ (l : State). AreTurns manner l (lines_of (s.pending ++ piece)) e.turns) s.after e.are));
        puts = subst (Puts taken failures first new) same (Puts-then taken failures first now new (replies_to opening s.turns) (replies_to state e.turns) s.puts e.puts);
      }

  -- the read that brought nothing
  pub LastRead-end : (bytes : List ℕ) (s : Served manner taken failures first opening now state line bytes) → is_done manner state ≡ false → Consumes left left' (bytes ++ []) → Finished manner taken failures now state new state' s.pending
      → LastRead manner taken failures opening left left' first new
  LastRead-end bytes s on read e = last_read bytes [] s on read (omega arith) (subst (Finished manner taken failures now state new state') (sym (append-nil s.pending)) e)

  -- the read that brought the end
  pub LastRead-ceased : (bytes piece : List ℕ) (s : Served manner taken failures first opening now state line bytes) → is_done manner state ≡ false → Consumes left left' (bytes ++ piece) → length piece ≤ max_piece
      → Ceased manner taken failures now state new state' (s.pending ++ piece) → LastRead manner taken failures opening left left' first new
  LastRead-ceased bytes piece s on read small q =
      last_read bytes piece s on read small (subst (Finished manner taken failures now state new state') (append-nil (s.pending ++ piece)) (Ceased-all manner taken failures now state new state' (s.pending ++ piece) [] q))
