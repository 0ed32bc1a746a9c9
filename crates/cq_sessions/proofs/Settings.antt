-- Lines of a setup, one after another.
use Rattle.std.proofs.Common.{◌≡◌, ℕ, ◌<◌, List, [], ◌∷◌, ◌++◌, true, false, length, map, refl, sym, ap, subst, ◌∙◌, append_assoc, append-nil}
use Rattle.std.specs.Prelude.{Bool, not, Option, None, Some, MatchBool, if◌then◌else◌}
use Rattle.cq_rel.specs.declared.fault.CatalogFault.{CatalogFault}
use Rattle.cq_rel.specs.declared.fault.CatalogFault.TheVariants.{BadName, BadArity, Declared, CatalogFull, NoMemory}
use Rattle.cq_rel.specs.Tables.{Declaration, declaration, declare_fault}
use Rattle.cq_text.specs.declared.command.CommandKind.TheVariants as commands
use Rattle.cq_text.specs.declared.command.SetupLine.{SetupLine}
use Rattle.cq_text.specs.declared.command.SetupLine.TheVariants.{Relation, Board, Limits}
use Rattle.cq_text.specs.declared.form.Form.{Form}
use Rattle.cq_text.specs.Grammar.{CommandContent, StandsFor}
use Rattle.cq_sessions.specs.declared.sheet.Line.{Line}
use Rattle.cq_sessions.specs.declared.sheet.Line.TheVariants.{Told}
use Rattle.cq_report.specs.Lines.{lines_of}
use Rattle.cq_report.specs.Reading.{Reading, Reads, Faulty, IsReading, AreReadIn}
use Rattle.cq_report.specs.declared.numbering.Numbering.{Numbering}
use Rattle.cq_report.specs.declared.numbering.Numbering.TheVariants.{Plain}
use Rattle.cq_report.specs.declared.stage.Stage.TheVariants as stages
use Rattle.cq_report.specs.Machine.{State, SetupRecord, Staged, begin_state, begin_setup, form_of, form_in, headed, declared, set_up, staged, shown, serving_of, spoken_after, spoken, page_of, numbered, next, reply}
use Rattle.cq_report.specs.declared.outcome.Outcome.{Outcome}
use Rattle.cq_report.specs.declared.outcome.Outcome.TheVariants as outcomes
use Rattle.cq_report.specs.declared.refusal.Refusal.TheVariants as refusals
use Rattle.cq_board.specs.Pool.{PoolRecord}
use Rattle.cq_report.specs.Reply.{outcome_line}
use Rattle.cq_report.specs.Output.{AreReadFrom, state_after}
use Rattle.cq_sessions.specs.Script.{Sheet}
use Rattle.cq_sessions.specs.Sessions.{is_of_setup, IsInSetup, IsSetBy, BeginsBoard, setup_sheet, told_or_none}
use Rattle.cq_report.specs.Lines.{HasNoEnd}
use Rattle.cq_sessions.specs.Steps.Sheets.{SheetRecord, blank}
use Rattle.cq_sessions.specs.Steps.Settings.{Sets, Stays, SetsLine, IsBehind, SetTo, RestBegins}
use Rattle.cq_report.proofs.CallerLemmas.{lines_of_ended, lines_of_open}
use Rattle.cq_sessions.proofs.Turns.{map-snoc}

-- one line more is read in the form that those before it settle
AreReadFrom-snoc : (state : State) (lines : List (List ℕ)) (front : List Reading) (line : List ℕ) (reading : Reading) → AreReadFrom state.heading lines front → IsReading (form_in (state_after state front)) line reading → AreReadFrom state.heading (lines ++ line ∷ []) (front ++ reading ∷ [])
AreReadFrom-snoc state [] [] line reading are is = (is, tt)
AreReadFrom-snoc state [] (r ∷ front) line reading are is = absurd are
AreReadFrom-snoc state (l ∷ lines) [] line reading are is = absurd are
AreReadFrom-snoc state (l ∷ lines) (r ∷ front) line reading are is = (are.0, AreReadFrom-snoc (next state r) lines front line reading are.1 is)

-- the state after lines of a setup
set_state : (state : State) (front : List Reading) (heading : Option Form) (setup : SetupRecord) → IsSetBy state front heading setup → IsInSetup (state_after state front) heading setup
set_state state [] heading setup set = set
set_state state (r ∷ front) heading setup set = set_state (next state r) front heading setup set.1

-- the stage and the reply of a line of a setup are told by what stands before it
stage_in : (state : State) (heading : Option Form) (setup : SetupRecord) (reading : Reading) → IsInSetup state heading setup → (staged state.stage state.heading reading).0 ≡ (staged (stages.Setup setup) heading reading).0
stage_in state heading setup reading set = ap (λ (h : Option Form). (staged state.stage h reading).0) set.settled ∙ ap (λ (stage : Staged). (staged stage heading reading).0) set.stage

-- a reply without a page that has nothing after its line
line_alone : (line : List ℕ) → line ++ ([] ++ []) ≡ line
line_alone line = append-nil line

declared_alone : (fault : Option CatalogFault) (setup : SetupRecord) (relation : Declaration) (pool : PoolRecord) → spoken Plain (declared fault setup relation).1 (page_of Plain pool (declared fault setup relation).1) ≡ outcome_line (declared fault setup relation).1
declared_alone None setup relation pool = line_alone (outcome_line outcomes.Accepted)
declared_alone (Some fault) setup relation pool = line_alone (outcome_line (outcomes.Refused (refusals.Catalog fault)))

-- so is each reply to a line of a setup
setup_alone : (setup : SetupRecord) (heading : Option Form) (reading : Reading) (pool : PoolRecord) → is_of_setup reading ≡ true
    → spoken Plain (staged (stages.Setup setup) heading reading).1 (page_of Plain pool (staged (stages.Setup setup) heading reading).1) ≡ outcome_line (staged (stages.Setup setup) heading reading).1
setup_alone setup heading (Faulty kind offset) pool of = line_alone (outcome_line (outcomes.Refused (refusals.Text kind offset)))
setup_alone setup heading (Reads commands.Blank) pool of = refl
setup_alone setup heading (Reads (commands.Setup (Relation name arity))) pool of = declared_alone (declare_fault setup.catalog name arity) setup (declaration name arity) pool
setup_alone setup None (Reads (commands.Setup (Board form))) pool of = line_alone (outcome_line outcomes.Accepted)
setup_alone setup (Some other) (Reads (commands.Setup (Board form))) pool of = line_alone (outcome_line (outcomes.Refused refusals.Late))
setup_alone setup heading (Reads (commands.Setup (Limits most journal))) pool of = line_alone (outcome_line outcomes.Accepted)
setup_alone setup heading (Reads (commands.Edit edit)) pool of = cc
setup_alone setup heading (Reads commands.Publish) pool of = cc
setup_alone setup heading (Reads commands.Show) pool of = cc

reply_in : (state : State) (heading : Option Form) (setup : SetupRecord) (reading : Reading) → is_of_setup reading ≡ true → IsInSetup state heading setup → reply state reading ≡ outcome_line (staged (stages.Setup setup) heading reading).1
reply_in state heading setup reading of set =
    ap (λ (n : Numbering). numbered n state.lines (spoken_after n (staged state.stage state.heading reading))) set.unnumbered
    ∙ ap (λ (h : Option Form). spoken_after Plain (staged state.stage h reading)) set.settled
    ∙ ap (λ (stage : Staged). spoken_after Plain (staged stage heading reading)) set.stage
    ∙ setup_alone setup heading reading (shown (serving_of (staged (stages.Setup setup) heading reading).0)) of

IsSetBy-snoc : (state : State) (front : List Reading) (heading heading' : Option Form) (setup setup' : SetupRecord) (reading : Reading) → IsSetBy state front heading setup → is_of_setup reading ≡ true → heading' ≡ headed heading reading
    → (staged (stages.Setup setup) heading reading).0 ≡ stages.Setup setup' → IsSetBy state (front ++ reading ∷ []) heading' setup'
IsSetBy-snoc state [] heading heading' setup setup' reading set of settles moves = (
  of,
  record {
    unnumbered = set.unnumbered;
    settled = ap (λ (h : Option Form). headed h reading) set.settled ∙ sym settles;
    stage = stage_in state heading setup reading set ∙ moves;
  },
)
IsSetBy-snoc state (r ∷ front) heading heading' setup setup' reading set of settles moves = (set.0, IsSetBy-snoc (next state r) front heading heading' setup setup' reading set.1 of settles moves)

setup_sheet-snoc : (state : State) (front : List Reading) (heading : Option Form) (setup : SetupRecord) (reading : Reading) → is_of_setup reading ≡ true → IsSetBy state front heading setup
    → setup_sheet state (front ++ reading ∷ []) ≡ setup_sheet state front ++ told_or_none (outcome_line (staged (stages.Setup setup) heading reading).1) ∷ []
setup_sheet-snoc state [] heading setup reading of set = ap (λ (told : List ℕ). told_or_none told ∷ []) (reply_in state heading setup reading of set)
setup_sheet-snoc state (r ∷ front) heading setup reading of set = ap (λ (z : Sheet). told_or_none (reply state r) ∷ z) (setup_sheet-snoc (next state r) front heading setup reading of set.1)

pub set_begin : (bytes : List ℕ) (heading : Option Form) (setup : SetupRecord) (sheet : SheetRecord) → heading ≡ None → setup ≡ begin_setup → sheet ≡ blank → SetTo bytes bytes heading setup sheet
set_begin bytes heading setup sheet fresh is empty = record { lines = []; cut = refl; front = []; are = tt; set = record { unnumbered = refl; settled = sym fresh; stage = ap stages.Setup (sym is) }; told = empty }

set_on : (bytes rest rest' line : List ℕ) (heading heading' : Option Form) (setup setup' : SetupRecord) (sheet sheet' : SheetRecord) → lines_of rest ≡ line ∷ lines_of rest' → SetTo bytes rest heading setup sheet → SetsLine heading setup sheet heading' setup' sheet' line → SetTo bytes rest' heading' setup' sheet'
set_on bytes rest rest' line heading heading' setup setup' sheet sheet' cut so l =
    let reply = told_or_none (outcome_line (staged (stages.Setup setup) heading l.reading).1) in
    record {
      lines = so.lines ++ line ∷ [];
      cut = so.cut ∙ ap (λ (z : List (List ℕ)). so.lines ++ z) cut ∙ sym (append_assoc so.lines (line ∷ []) (lines_of rest'));
      front = so.front ++ l.reading ∷ [];
      are = AreReadFrom-snoc (begin_state Plain) so.lines so.front line l.reading so.are (subst (λ (h : Option Form). IsReading (form_of h) line l.reading) (sym (set_state (begin_state Plain) so.front heading setup so.set).settled) l.is);
      set = IsSetBy-snoc (begin_state Plain) so.front heading heading' setup setup' l.reading so.set l.sets.of_setup l.settles l.sets.stage;
      told = l.sets.told ∙ ap (λ (z : SheetRecord). record z { batch = z.batch ++ Told reply ∷ [] }) so.told
          ∙ ap (λ (z : List (Line (List ℕ))). record blank { batch = z })
          (sym (map-snoc Told (setup_sheet (begin_state Plain) so.front) reply) ∙ ap (map Told) (sym (setup_sheet-snoc (begin_state Plain) so.front heading setup l.reading l.sets.of_setup so.set)));
    }

pub set_line : (bytes rest line behind : List ℕ) (heading heading' : Option Form) (setup setup' : SetupRecord) (sheet sheet' : SheetRecord) → rest ≡ line ++ (10 ∷ behind) → HasNoEnd line → SetTo bytes rest heading setup sheet → SetsLine heading setup sheet heading' setup' sheet' line
    → SetTo bytes behind heading' setup' sheet'
set_line bytes rest line behind heading heading' setup setup' sheet sheet' cut no_end so l = set_on bytes rest behind line heading heading' setup setup' sheet sheet' (ap lines_of cut ∙ lines_of_ended line behind no_end) so l

pub set_last : (bytes rest : List ℕ) (heading heading' : Option Form) (setup setup' : SetupRecord) (sheet sheet' : SheetRecord) → HasNoEnd rest → 0 < length rest → SetTo bytes rest heading setup sheet → SetsLine heading setup sheet heading' setup' sheet' rest → SetTo bytes [] heading' setup' sheet'
set_last bytes rest heading heading' setup setup' sheet sheet' no_end some so l = set_on bytes rest [] rest heading heading' setup setup' sheet sheet' (lines_of_open rest no_end some) so l

begins_by : (form : Form) (lines : List (List ℕ)) (line : List ℕ) → ((reading : Reading) → IsReading form line reading → is_of_setup reading ≡ false) → (behind : List Reading) → AreReadIn form (line ∷ lines) behind → BeginsBoard behind
begins_by form lines line other [] are = tt
begins_by form lines line other (reading ∷ behind) are = other reading are.0

pub begins_line : (form : Form) (rest line behind : List ℕ) → rest ≡ line ++ (10 ∷ behind) → HasNoEnd line → ((reading : Reading) → IsReading form line reading → is_of_setup reading ≡ false) → RestBegins form rest
begins_line form rest line behind cut no_end other bs are = begins_by form (lines_of behind) line other bs (subst (λ (z : List (List ℕ)). AreReadIn form z bs) (ap lines_of cut ∙ lines_of_ended line behind no_end) are)

pub begins_last : (form : Form) (rest : List ℕ) → HasNoEnd rest → 0 < length rest → ((reading : Reading) → IsReading form rest reading → is_of_setup reading ≡ false) → RestBegins form rest
begins_last form rest no_end some other bs are = begins_by form [] rest other bs (subst (λ (z : List (List ℕ)). AreReadIn form z bs) (lines_of_open rest no_end some) are)

pub begins_none : (form : Form) → RestBegins form []
begins_none form [] are = tt
begins_none form (reading ∷ behind) are = absurd are

-- what is known of a command holds of the line that is read so
pub set_by : (line : List ℕ) (command : CommandContent) (heading heading' : Option Form) (setup setup' : SetupRecord) (sheet sheet' : SheetRecord) → StandsFor (form_of heading) line command → heading' ≡ headed heading (Reads command)
    → Sets heading setup sheet setup' sheet' (Reads command) → SetsLine heading setup sheet heading' setup' sheet' line
set_by line command heading heading' setup setup' sheet sheet' found settles sets = record { reading = Reads command; is = found; settles = settles; sets = sets }

pub behind_by : (line : List ℕ) (command : CommandContent) (heading : Option Form) (setup setup' : SetupRecord) (sheet sheet' : SheetRecord) → ((reading : Reading) → IsReading (form_of heading) line reading → reading ≡ Reads command)
    → Stays setup sheet setup' sheet' (Reads command) → IsBehind heading setup sheet heading setup' sheet' line
behind_by line command heading setup setup' sheet sheet' only stays = record {
  other = λ reading is. ap is_of_setup (only reading is) ∙ stays.other;
  heading_stays = refl;
  setup_stays = stays.setup_stays;
  sheet_stays = stays.sheet_stays;
}

-- what holds at either answer, made weaker
pub match_on : (b : Bool) (P Q R S : Type 0) → (P → R) → (Q → S) → MatchBool b P Q → MatchBool b R S
match_on true P Q R S f g h = f h
match_on false P Q R S f g h = g h

pub when_true : (b : Bool) (P Q : Type 0) → b ≡ true → MatchBool b P Q → P
when_true true P Q e h = h
when_true false P Q e h = cc

pub when_false : (b : Bool) (P Q : Type 0) → b ≡ false → MatchBool b P Q → Q
when_false true P Q e h = cc
when_false false P Q e h = h

-- why a relation is not declared is never out of memory
fault_known : (named fits free : Bool) (there : Option ℕ)
    → (if not named then Some BadName else (if not fits then Some BadArity else elim there [ Some n ↦ Some Declared | None ↦ (if free then None else Some CatalogFull) ])) ≡ Some NoMemory → ⊥
fault_known false fits free there e = cc
fault_known true false free there e = cc
fault_known true true free (Some n) e = cc
fault_known true true true None e = cc
fault_known true true false None e = cc

told_declared : (fault : Option CatalogFault) (setup : SetupRecord) (relation : Declaration) → (fault ≡ Some NoMemory → ⊥) → told_or_none (outcome_line (declared fault setup relation).1) ≡ Some (outcome_line (declared fault setup relation).1)
told_declared None setup relation known = refl
told_declared (Some BadName) setup relation known = refl
told_declared (Some BadArity) setup relation known = refl
told_declared (Some Declared) setup relation known = refl
told_declared (Some CatalogFull) setup relation known = refl
told_declared (Some NoMemory) setup relation known = absurd (known refl)

-- each line of a setup has a reply
told_set_up : (setup : SetupRecord) (heading : Option Form) (line : SetupLine (List ℕ)) → told_or_none (outcome_line (set_up setup heading line).1) ≡ Some (outcome_line (set_up setup heading line).1)
told_set_up setup heading (Relation name arity) =
    told_declared (declare_fault setup.catalog name arity) setup (declaration name arity) (fault_known _ _ _ _)
told_set_up setup None (Board form) = refl
told_set_up setup (Some other) (Board form) = refl
told_set_up setup heading (Limits pool journal) = refl

pub sets_up : (heading : Option Form) (setup setup' : SetupRecord) (sheet sheet' : SheetRecord) (line : SetupLine (List ℕ)) (outcome : Outcome) → (setup', outcome) ≡ set_up setup heading line
    → sheet' ≡ record sheet { batch = sheet.batch ++ Told (Some (outcome_line outcome)) ∷ [] } → Sets heading setup sheet setup' sheet' (Reads (commands.Setup line))
sets_up heading setup setup' sheet sheet' line outcome is now = record {
  of_setup = refl;
  stage = ap (λ (p : SetupRecord × Outcome). stages.Setup p.0) (sym is);
  told = now ∙ ap (λ (reply : Option (List ℕ)). record sheet { batch = sheet.batch ++ Told reply ∷ [] }) (ap (λ (p : SetupRecord × Outcome). Some (outcome_line p.1)) is ∙ sym (told_set_up setup heading line));
}
