-- The answer to `find`, piece by piece.
use Rattle.std.proofs.Common.{◌≡◌, ◌==◌, ◌-◌, ◌∙◌, ℕ, zero, suc, Bool, true, false, List, [], ◌∷◌, ◌++◌, length, take, Option, None, Some, inl, inr, refl, sym, ap, subst, append-nil, append_assoc, arith}
use Rattle.std.specs.Prelude.{Result, Ok, Err, IfOk, OnErr, OnOk}
use Rattle.std.proofs.lemmas.Result.{on_err_weaker, on_ok_weaker}
use Rattle.cq_atom.specs.Query.{QueryRecord}
use Rattle.cq_atom.specs.Value.{ValueContent}
use Rattle.cq_text.specs.declared.form.Form.{Form}
use Rattle.cq_board.specs.Pool.{PoolRecord}
use Rattle.cq_devices.specs.declared.stop.Stop.TheVariants.{Write}
use Rattle.cq_ground.specs.Finder.{Gives}
use Rattle.cq_ground.specs.Grounding.{groundings_of}
use Rattle.cq_ask.specs.declared.ask.AskKind.{AskKind}
use Rattle.cq_ask.specs.declared.ask.AskKind.TheVariants as kinds
use Rattle.cq_ask.specs.Answer.{published_pool}
use Rattle.cq_ask.specs.Ask.{AskRecord, is_checkpoint, is_find, is_quit}
use Rattle.cq_ask.specs.Find.{SearchRecord, wanted}
use Rattle.cq_report.specs.declared.manner.Manner.{Manner}
use Rattle.cq_report.specs.declared.manner.Manner.TheVariants as manners
use Rattle.cq_report.specs.declared.said.Said.TheVariants as saids
use Rattle.cq_report.specs.declared.numbering.Numbering.{Numbering}
use Rattle.cq_report.specs.declared.numbering.Numbering.TheVariants.{Plain, Numbered, Json}
use Rattle.cq_report.specs.declared.output.Output.{Output}
use Rattle.cq_report.specs.declared.outcome.Outcome.TheVariants.{Refused}
use Rattle.cq_report.specs.declared.refusal.Refusal.{Refusal}
use Rattle.cq_report.specs.Find.{IsFindTold, IsFound, find_end, find_head, find_piece, find_pieces, find_tail, place_of}
use Rattle.cq_report.specs.Steps.Finds.{AreShown, BreaksReply, IsFoundAfter, IsNoSearch, IsSearch, PutsFound, PutsReply, answer_end, answer_front, end_after, found_after, is_enough, is_first_after, one_less}
use Rattle.cq_report.specs.Steps.Written.{Puts, Breaks}
use Rattle.cq_report.specs.Steps.Writing.{Puts-then, Puts-breaks, Breaks-more}
use Rattle.cq_report.specs.Live.{Asked, IsSettled, IsTurn, is_done, needs_memory, stage_asked, turned}
use Rattle.cq_report.specs.Machine.{State, counted, form_in, numbered, serving_of, spoken}
use Rattle.cq_report.specs.Steps.Serving.{Answers, AnswerStops, IsLine}
use Rattle.cq_report.specs.Steps.Turns.{IsSaid, TurnRecord, plain_turn, turn_bytes}
use Rattle.cq_report.proofs.Parts.{after_number, in_object}
use Rattle.cq_report.proofs.Served.{turn_of_line}

-- ---- groundings

nothing_of : {X : Type 0} (n : ℕ) → take {A = X} n [] ≡ []
nothing_of zero = refl
nothing_of (suc n) = refl

-- of those that are wanted the first is given
gives_any : {X : Type 0} (n : ℕ) (is_found : Bool) (first : X) (rest all : List X) → (n == 0) ≡ false → Gives is_found first rest all → Gives is_found first (take (n - 1) rest) (take n all)
gives_any zero is_found first rest all some h = absurd cc
gives_any (suc n) true first rest all some h =
    let less : n ≡ suc n - 1 = omega arith in
    ap (take (suc n)) h ∙ ap (λ (k : ℕ). first ∷ take k rest) less
gives_any (suc n) false first rest all some h = (ap (take (suc n)) h.0, ap (take (suc n - 1)) h.1 ∙ nothing_of (suc n - 1))

pub gives_wanted : {X : Type 0} (left : Option ℕ) (is_found : Bool) (first : X) (rest all : List X) → is_enough left ≡ false → Gives is_found first rest all → Gives is_found first (wanted (one_less left) rest) (wanted left all)
gives_wanted None is_found first rest all some h = h
gives_wanted (Some n) is_found first rest all some h = gives_any n is_found first rest all some h

-- none is wanted
pub gives_none : {X : Type 0} (left : Option ℕ) (first : X) (rest all : List X) → is_enough left ≡ true → Gives false first (wanted (one_less left) rest) (wanted left all)
gives_none None first rest all enough = absurd cc
gives_none (Some n) first rest all enough = let none : n ≡ 0 = grind arith in rw none (refl, refl)

-- a grounding more, and those after it
pieces_on : (numbering : Numbering) (done : List (List ValueContent)) (values : List ValueContent) (rest : List (List ValueContent))
    → (find_pieces numbering false done ++ find_piece numbering false values) ++ find_pieces numbering false rest ≡ find_pieces numbering false (done ++ (values ∷ rest))
pieces_on numbering [] values rest = refl
pieces_on numbering (first ∷ done) values rest =
    ap (λ (l : List ℕ). l ++ find_pieces numbering false rest) (append_assoc (find_piece numbering false first) (find_pieces numbering false done) (find_piece numbering false values))
    ∙ append_assoc (find_piece numbering false first) (find_pieces numbering false done ++ find_piece numbering false values) (find_pieces numbering false rest)
    ∙ ap (λ (l : List ℕ). find_piece numbering false first ++ l) (pieces_on numbering done values rest)

pub pieces_then : (numbering : Numbering) (done : List (List ValueContent)) (values : List ValueContent) (rest : List (List ValueContent))
    → (find_pieces numbering true done ++ find_piece numbering (is_first_after done) values) ++ find_pieces numbering false rest ≡ find_pieces numbering true (done ++ (values ∷ rest))
pieces_then numbering [] values rest = refl
pieces_then numbering (first ∷ done) values rest =
    ap (λ (l : List ℕ). l ++ find_pieces numbering false rest) (append_assoc (find_piece numbering true first) (find_pieces numbering false done) (find_piece numbering false values))
    ∙ append_assoc (find_piece numbering true first) (find_pieces numbering false done ++ find_piece numbering false values) (find_pieces numbering false rest)
    ∙ ap (λ (l : List ℕ). find_piece numbering true first ++ l) (pieces_on numbering done values rest)

pub pieces_more : (numbering : Numbering) (done : List (List ValueContent)) (values : List ValueContent)
    → find_pieces numbering true done ++ find_piece numbering (is_first_after done) values ≡ find_pieces numbering true (done ++ values ∷ [])
pieces_more numbering done values = sym (append-nil (find_pieces numbering true done ++ find_piece numbering (is_first_after done) values)) ∙ pieces_then numbering done values []

pub not_first : (done : List (List ValueContent)) (values : List ValueContent) → is_first_after (done ++ values ∷ []) ≡ false
not_first [] values = refl
not_first (first ∷ done) values = refl

-- ---- the answer

module _ (numbering : Numbering) (before : ℕ) (head : List ℕ) where
  -- all that is put, piece by piece
  abbrev pub reply_parts : List (List ValueContent) → Bool → List ℕ
  reply_parts shown is_whole = answer_front numbering before ++ (head ++ (find_pieces numbering true shown ++ ((find_tail numbering ++ end_after is_whole numbering) ++ answer_end numbering)))

not_none : (n : ℕ) → (suc n == 0) ≡ false
not_none n = grind arith

some_behind : (xs ys : List ℕ) → (length ys == 0) ≡ false → (length (xs ++ ys) == 0) ≡ false
some_behind [] ys some = some
some_behind (x ∷ xs) ys some = not_none _

some_end : (numbering : Numbering) (is_whole : Bool) → (length (find_tail numbering ++ end_after is_whole numbering) == 0) ≡ false
some_end Plain true = refl
some_end Plain false = refl
some_end Numbered true = refl
some_end Numbered false = refl
some_end Json true = refl
some_end Json false = refl

-- an answer that is not empty, with the number of its line
numbered_as : (numbering : Numbering) (before : ℕ) (told : List ℕ) → (length told == 0) ≡ false → answer_front numbering before ++ (told ++ answer_end numbering) ≡ numbered numbering before told
numbered_as Plain before told some = append-nil told
numbered_as Numbered before told some = after_number before told some
numbered_as Json before told some = in_object before told

regrouped : (a b c d : List ℕ) → a ++ (b ++ (c ++ d)) ≡ (a ++ (b ++ c)) ++ d
regrouped a b c d = ap (λ (l : List ℕ). a ++ l) (sym (append_assoc b c d)) ∙ sym (append_assoc a (b ++ c) d)

whole_put : (numbering : Numbering) (before : ℕ) (head : List ℕ) (shown : List (List ValueContent)) (is_whole : Bool) → reply_parts numbering before head shown is_whole ≡ numbered numbering before (found_after numbering head shown (end_after is_whole numbering))
whole_put numbering before head shown is_whole =
    let end = find_tail numbering ++ end_after is_whole numbering in
    let pieces = find_pieces numbering true shown in
    ap (λ (l : List ℕ). answer_front numbering before ++ l) (regrouped head pieces end (answer_end numbering))
    ∙ numbered_as numbering before (head ++ (pieces ++ end)) (some_behind head (pieces ++ end) (some_behind pieces end (some_end numbering is_whole)))

shown_as : (numbering : Numbering) (head : List ℕ) (lists shown : List (List ValueContent)) (is_whole : Bool) → AreShown is_whole lists shown → IsFoundAfter numbering head lists (found_after numbering head shown (end_after is_whole numbering))
shown_as numbering head lists shown true are = inl (ap (λ (ls : List (List ValueContent)). found_after numbering head ls (find_end numbering)) (sym are))
shown_as numbering head lists shown false (more, cut) = inr (shown, more, cut, refl)

abbrev tail_bytes : Numbering → Bool → List ℕ
tail_bytes numbering is_whole = (find_tail numbering ++ end_after is_whole numbering) ++ answer_end numbering

module _ {W A : Type 0} (taken : W → Option (List ℕ)) (failures : W → ℕ) (numbering : Numbering) (before : ℕ) (head : List ℕ) (lists : List (List ValueContent)) where
  breaks_as : (a b : Output W A) (shown : List (List ValueContent)) (is_whole : Bool) → AreShown is_whole lists shown → Breaks taken failures a b (reply_parts numbering before head shown is_whole) Write → BreaksReply taken failures numbering before (IsFoundAfter numbering head lists) a b
  breaks_as a b shown is_whole are broke = record {
    told = found_after numbering head shown (end_after is_whole numbering);
    is = shown_as numbering head lists shown is_whole are;
    breaks = subst (λ (bytes : List ℕ). Breaks taken failures a b bytes Write) (whole_put numbering before head shown is_whole) broke;
  }

  pub front_breaks : (a b : Output W A) → Breaks taken failures a b (answer_front numbering before) Write → BreaksReply taken failures numbering before (IsFoundAfter numbering head lists) a b
  front_breaks a b broke = breaks_as a b lists true refl (Breaks-more taken failures a b (answer_front numbering before) (head ++ (find_pieces numbering true lists ++ tail_bytes numbering true)) Write broke)

  pub head_breaks : (a b c : Output W A) → Puts taken failures a b (answer_front numbering before) → Breaks taken failures b c head Write → BreaksReply taken failures numbering before (IsFoundAfter numbering head lists) a c
  head_breaks a b c put broke =
      breaks_as a c lists true refl (Puts-breaks taken failures a b c (answer_front numbering before) (head ++ (find_pieces numbering true lists ++ tail_bytes numbering true)) Write put (Breaks-more taken failures b c head (find_pieces numbering true lists ++ tail_bytes numbering true) Write broke))

  pub pieces_break : (a b c d : Output W A) → Puts taken failures a b (answer_front numbering before) → Puts taken failures b c head → Breaks taken failures c d (find_pieces numbering true lists) Write → BreaksReply taken failures numbering before (IsFoundAfter numbering head lists) a d
  pieces_break a b c d put behind broke =
      let pieces = find_pieces numbering true lists in
      breaks_as a d lists true refl
      (Puts-breaks taken failures a b d (answer_front numbering before) (head ++ (pieces ++ tail_bytes numbering true)) Write put
      (Puts-breaks taken failures b c d head (pieces ++ tail_bytes numbering true) Write behind
      (Breaks-more taken failures c d pieces (tail_bytes numbering true) Write broke)))

  module _ (a b c d e : Output W A) (is_whole : Bool) (put : Puts taken failures a b (answer_front numbering before)) (behind : Puts taken failures b c head) (found : PutsFound taken failures numbering c d lists is_whole) where
    pub tail_breaks : Breaks taken failures d e (tail_bytes numbering is_whole) Write → BreaksReply taken failures numbering before (IsFoundAfter numbering head lists) a e
    tail_breaks broke =
        let pieces = find_pieces numbering true found.shown in
        breaks_as a e found.shown is_whole found.are
        (Puts-breaks taken failures a b e (answer_front numbering before) (head ++ (pieces ++ tail_bytes numbering is_whole)) Write put
        (Puts-breaks taken failures b c e head (pieces ++ tail_bytes numbering is_whole) Write behind
        (Puts-breaks taken failures c d e pieces (tail_bytes numbering is_whole) Write found.puts broke)))

    pub tail_puts : Puts taken failures d e (tail_bytes numbering is_whole) → PutsReply taken failures numbering before (IsFoundAfter numbering head lists) a e
    tail_puts last =
        let pieces = find_pieces numbering true found.shown in
        record {
          told = found_after numbering head found.shown (end_after is_whole numbering);
          is = shown_as numbering head lists found.shown is_whole found.are;
          puts = subst (Puts taken failures a e) (whole_put numbering before head found.shown is_whole)
              (Puts-then taken failures a b e (answer_front numbering before) (head ++ (pieces ++ tail_bytes numbering is_whole)) put
              (Puts-then taken failures b c e head (pieces ++ tail_bytes numbering is_whole) behind
              (Puts-then taken failures c d e pieces (tail_bytes numbering is_whole) found.puts last)));
        }

-- what is known of a reply
module _ {W A : Type 0} (taken : W → Option (List ℕ)) (failures : W → ℕ) (numbering : Numbering) (before : ℕ) (P Q : List ℕ → Type 0) (weaker : (told : List ℕ) → P told → Q told) (a b : Output W A) where
  pub PutsReply-weaker : PutsReply taken failures numbering before P a b → PutsReply taken failures numbering before Q a b
  PutsReply-weaker p = record { told = p.told; is = weaker p.told p.is; puts = p.puts }

  pub BreaksReply-weaker : BreaksReply taken failures numbering before P a b → BreaksReply taken failures numbering before Q a b
  BreaksReply-weaker p = record { told = p.told; is = weaker p.told p.is; breaks = p.breaks }

-- what is known of an answer that may not have begun
pub puts_weaker : {X E F : Type 0} (r : Result (Result X E) F) (P Q : Type 0) → (P → Q) → IfOk r (λ put. OnOk put P) → IfOk r (λ put. OnOk put Q)
puts_weaker (Ok put) P Q f h = on_ok_weaker put f h
puts_weaker (Err fault) P Q f h = tt

pub breaks_weaker : {X E F : Type 0} (r : Result (Result X E) F) (P Q : Type 0) → (P → Q) → IfOk r (λ put. OnErr put P) → IfOk r (λ put. OnErr put Q)
breaks_weaker (Ok put) P Q f h = on_err_weaker put f h
breaks_weaker (Err fault) P Q f h = tt

-- ---- what is told

-- after the head of the query
pub found_by : (numbering : Numbering) (query : QueryRecord) (head : List ℕ) (lists' lists : List (List ValueContent)) → head ≡ find_head numbering query → lists' ≡ lists → (told : List ℕ) → IsFoundAfter numbering head lists' told → IsFound numbering query lists told
found_by numbering query head lists' lists same equal told found =
    subst (λ (ls : List (List ValueContent)). IsFoundAfter numbering (find_head numbering query) ls told) equal (subst (λ (h : List ℕ). IsFoundAfter numbering h lists' told) same found)

-- the line is refused
pub refused_as : (form : Form) (pool : PoolRecord) (place : ℕ) (text : List ℕ) (refusal : Refusal) (numbering : Numbering) → IsNoSearch form pool place text refusal → IsFindTold form place numbering pool text (spoken numbering (Refused refusal) [])
refused_as form pool place text refusal numbering (inl h) = inl (record { kind = h.kind; offset = h.offset; fault = h.fault; is = ap (λ (r : Refusal). spoken numbering (Refused r) []) h.is })
refused_as form pool place text refusal numbering (inr h) = inr (record {
  query = h.query;
  stands = h.stands;
  is = rw h.misfits (ap (λ (r : Refusal). spoken numbering (Refused r) []) h.is);
})

-- the groundings are told
pub sought_as : (form : Form) (pool : PoolRecord) (place : ℕ) (text : List ℕ) (search : SearchRecord) (numbering : Numbering) → IsSearch form pool text search → (told : List ℕ) → IsFound numbering search.query (wanted search.most (groundings_of search.query.body pool.tables.rows)) told → IsFindTold form place numbering pool text told
sought_as form pool place text search numbering h told found = inr (record {
  query = search.query;
  stands = h.stands;
  is = rw h.fits (rw h.most at found);
})

-- of an equal pool
pub told_of_pool : (form : Form) (numbering : Numbering) (ask : AskRecord) (pool other : PoolRecord) → pool ≡ other → (told : List ℕ) → IsFindTold form (place_of ask.kind) numbering pool ask.text told → IsFindTold form (place_of ask.kind) numbering other ask.text told
told_of_pool form numbering ask pool other same told is = subst (λ (p : PoolRecord). IsFindTold form (place_of ask.kind) numbering p ask.text told) same is

-- a refusal was put, or was to be put
module _ {W A : Type 0} (taken : W → Option (List ℕ)) (failures : W → ℕ) (numbering : Numbering) (before : ℕ) (form : Form) (pool : PoolRecord) (place : ℕ) (text : List ℕ) (refusal : Refusal) (turn : TurnRecord) (none : IsNoSearch form pool place text refusal) (plain : turn ≡ plain_turn (Refused refusal)) (a b : Output W A) where
  pub puts_refused : Puts taken failures a b (numbered numbering before (turn_bytes numbering turn)) → PutsReply taken failures numbering before (IsFindTold form place numbering pool text) a b
  puts_refused put = record {
    told = spoken numbering (Refused refusal) [];
    is = refused_as form pool place text refusal numbering none;
    puts = subst (λ (t : TurnRecord). Puts taken failures a b (numbered numbering before (turn_bytes numbering t))) plain put;
  }

  pub breaks_refused : Breaks taken failures a b (numbered numbering before (turn_bytes numbering turn)) Write → BreaksReply taken failures numbering before (IsFindTold form place numbering pool text) a b
  breaks_refused broke = record {
    told = spoken numbering (Refused refusal) [];
    is = refused_as form pool place text refusal numbering none;
    breaks = subst (λ (t : TurnRecord). Breaks taken failures a b (numbered numbering before (turn_bytes numbering t)) Write) plain broke;
  }

-- ---- the line

no_checkpoint : (kind : AskKind) → is_find kind ≡ true → is_checkpoint kind ≡ false
no_checkpoint kinds.Checkpoint finds = absurd (let never : false ≡ true = finds in cc)
no_checkpoint _ finds = refl

no_quit : (kind : AskKind) → is_find kind ≡ true → is_quit kind ≡ false
no_quit kinds.Quit finds = absurd (let never : false ≡ true = finds in cc)
no_quit _ finds = refl

-- a line that asks for groundings needs memory
pub find_wants : (kind : AskKind) → is_find kind ≡ true → needs_memory kind ≡ true
find_wants kinds.Count finds = absurd (let never : false ≡ true = finds in cc)
find_wants kinds.Quit finds = absurd (let never : false ≡ true = finds in cc)
find_wants _ finds = refl

module _ (state : State) (ask : AskRecord) (finds : is_find ask.kind ≡ true) where
  -- what is told to the line
  abbrev pub IsToldIn : List ℕ → Type 0
  IsToldIn told = IsFindTold (form_in state) (place_of ask.kind) state.numbering (published_pool (serving_of state.stage)) ask.text told

  settled_as : (told : List ℕ) → IsToldIn told → IsSettled (is_checkpoint ask.kind) (is_find ask.kind) (form_in state) state.numbering (serving_of state.stage) ask told
  settled_as told is =
      subst (λ (checks : Bool). IsSettled checks (is_find ask.kind) (form_in state) state.numbering (serving_of state.stage) ask told) (sym (no_checkpoint ask.kind finds))
      (subst (λ (asks : Bool). IsSettled false asks (form_in state) state.numbering (serving_of state.stage) ask told) (sym finds) is)

  -- the line is counted, and nothing else changes
  counted_alone : (told : List ℕ) → state.is_over ≡ false → counted state ≡ turned state (Asked ask told)
  counted_alone told on =
      ap (λ (over : Bool). let s : State = record (counted state) { is_over = over } in s) (on ∙ sym (no_quit ask.kind finds))
      ∙ ap (λ (checks : Bool). let s : State = record (counted state) { stage = stage_asked checks state.stage; is_over = is_quit ask.kind } in s) (sym (no_checkpoint ask.kind finds))

  -- only a live board answers
  still_heard : (manner : Manner) (line : Option (List ℕ)) → is_done manner state ≡ false → IsSaid manner (form_in state) line (saids.Asks ask) → state.is_over ≡ false
  still_heard manners.Live line on said = on
  still_heard (manners.Script is_strict) None on said = absurd cc
  still_heard (manners.Script is_strict) (Some line) on said = absurd cc

  find_turn : (manner : Manner) (line : Option (List ℕ)) (all told : List ℕ) → is_done manner state ≡ false → IsSaid manner (form_in state) line (saids.Asks ask) → IsLine line all → IsToldIn told → IsTurn manner state all (Asked ask told)
  find_turn manner None all told on said known is = absurd cc
  find_turn manner (Some line) all told on said known is = turn_of_line manner state line all (Asked ask told) known (on, said, settled_as told is)

  module _ {W A : Type 0} (manner : Manner) (taken : W → Option (List ℕ)) (failures : W → ℕ) (a b : Output W A) (line : Option (List ℕ)) (on : is_done manner state ≡ false) (said : IsSaid manner (form_in state) line (saids.Asks ask)) where
    pub find_answers : PutsReply taken failures state.numbering state.lines IsToldIn a b → Answers manner taken failures a b state (counted state) line
    find_answers p = λ all known. record {
      turn = Asked ask p.told;
      is = find_turn manner line all p.told on said known p.is;
      after = counted_alone p.told (still_heard manner line on said);
      puts = p.puts;
    }

    pub find_stops : BreaksReply taken failures state.numbering state.lines IsToldIn a b → AnswerStops manner taken failures a b state line Write
    find_stops p = inr (λ all known. record {
      turn = Asked ask p.told;
      is = find_turn manner line all p.told on said known p.is;
      breaks = p.breaks;
    })
