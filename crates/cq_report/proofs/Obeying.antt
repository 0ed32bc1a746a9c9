-- What comes of what a line says.
use Rattle.std.proofs.Common.{◌≡◌, ◌+◌, ◌∙◌, ℕ, Bool, true, false, List, [], ◌∷◌, length, nat_le, Option, None, Some, inl, inr, refl, sym, ap, subst, arith}
use Rattle.std.specs.Prelude.{◌≢◌, codes, fold, Result, Ok, Err, OnOk, OnErr, if◌then◌else◌}
use Rattle.cq_rel.specs.declared.fault.CatalogFault.{CatalogFault}
use Rattle.cq_rel.specs.Tables.{Declaration, declaration, declare_fault}
use Rattle.cq_text.specs.declared.form.Form.{Form}
use Rattle.cq_text.specs.declared.command.SetupLine.{SetupLine}
use Rattle.cq_text.specs.declared.command.SetupLine.TheVariants as setups
use Rattle.cq_text.specs.Grammar.{CommandContent}
use Rattle.cq_atom.specs.Edit.{Edit}
use Rattle.cq_board.specs.declared.edit.Why.{Why}
use Rattle.cq_board.specs.Edits.{why, pool_after}
use Rattle.cq_board.specs.Pool.{PoolRecord}
use Rattle.cq_board.specs.Setup.{relation_fault, with_relation, limits_fault, with_limits}
use Rattle.cq_board.specs.declared.limits.Limits.{Limits}
use Rattle.cq_board.specs.declared.setup.RelationFault.{RelationFault}
use Rattle.cq_board.specs.declared.setup.LimitsFault.{LimitsFault}
use Rattle.cq_desk.specs.declared.event.Event.TheVariants.{Enter, Checkpoint}
use Rattle.cq_desk.specs.declared.event.Answer.{Answer}
use Rattle.cq_desk.specs.declared.event.Answer.TheVariants.{Replied, Checkpointed}
use Rattle.cq_desk.specs.declared.event.StepFault.{StepFault}
use Rattle.cq_desk.specs.declared.event.StepFault.TheVariants.{NoSession, Ahead, Unpublished, NoMemory}
use Rattle.cq_desk.specs.declared.reply.Reply.{Reply}
use Rattle.cq_desk.specs.declared.reply.Reply.TheVariants as replies
use Rattle.cq_desk.specs.Machine.{answer_to, machine_after, moved}
use Rattle.cq_desk.specs.Standing.{IsTold, checkpointed, replied}
use Rattle.std.specs.Option.{option_map}
use Rattle.cq_ask.specs.declared.counts.Counts.{Counts}
use Rattle.cq_ask.specs.Answer.{FloorRecord, IsTold as IsTextTold, IsToldOf, count_line, counts_of, published_pool}
use Rattle.cq_ask.specs.Data.{IsMember, IsMemberOf, count_json, member_text}
use Rattle.cq_ask.specs.Ask.{AskRecord, asked, takes_no_names}
use Rattle.cq_ask.specs.declared.ask.AskKind.{AskKind}
use Rattle.cq_ask.specs.declared.ask.AskKind.TheVariants as kinds
use Rattle.cq_report.specs.Live.{needs_memory}
use Rattle.cq_report.specs.declared.manner.Manner.{Manner}
use Rattle.cq_report.specs.declared.manner.Manner.TheVariants as manners
use Rattle.cq_report.specs.declared.numbering.Numbering.{Numbering}
use Rattle.cq_report.specs.declared.numbering.Numbering.TheVariants.{Plain, Numbered, Json}
use Rattle.cq_report.specs.declared.outcome.Outcome.{Outcome}
use Rattle.cq_report.specs.declared.outcome.Outcome.TheVariants as outcomes
use Rattle.cq_report.specs.declared.said.Said.{Said}
use Rattle.cq_report.specs.declared.said.Said.TheVariants as saids
use Rattle.cq_report.specs.declared.stage.Stage.TheVariants.{Setup, Serving}
use Rattle.cq_report.specs.Reading.{Reading, Reads, Faulty, IsReading}
use Rattle.cq_report.specs.Machine.{State, Staged, SetupRecord, ServingRecord, after, board_named, counted, declared, declared_later, form_in, headed, next, numbered, limited_later, opened, outcome, page_of, prepare, prepared_later, serving_of, set_up_later, shown, staged, takes_setup}
use Rattle.cq_report.specs.Refusals.{tallied}
use Rattle.cq_report.specs.Reply.{event_outcome, refusal, reply_outcome}
use Rattle.cq_report.specs.Live.{Turn, Served as ReadsAs, Renewed, Asked, IsTurn, MayStarve, is_done, turned, turn_reply}
use Rattle.cq_report.specs.Steps.Finds.{IsFindOf}
use Rattle.cq_report.specs.Steps.Serving.{IsLine, MayBeStarved}
use Rattle.cq_report.specs.Steps.Turns.{TurnRecord, IsObeyed, IsRead, IsSaid, MayFail, IsPage, counts_page, plain_turn, staged_by, turn_bytes, turn_in}
use Rattle.cq_report.proofs.Served.{same_starve, turn_of_line}

-- ---- the stage

pub serving_by : (closed : Bool) (stage : Staged) → serving_of (staged_by closed stage) ≡ serving_of stage
serving_by true (Setup setup) = refl
serving_by true (Serving serving) = refl
serving_by false (Setup setup) = refl
serving_by false (Serving serving) = refl

pub serving_stays : (closed : Bool) (serving : ServingRecord) → staged_by closed (Serving serving) ≡ Serving serving
serving_stays true serving = refl
serving_stays false serving = refl

-- nothing has happened at first
no_rows : (xs : List Declaration) (n : ℕ) → fold (λ count declared. count + 0) n xs ≡ n
no_rows [] n = refl
no_rows (x ∷ xs) n = no_rows xs (n + 0) ∙ omega arith

pub nothing_counted : (setup : SetupRecord) → (let none : Counts = record { queries = 0; matched = 0; waiting = 0; rows = 0; entries = 0; unpublished = 0; since = 0; relations = length setup.catalog; pool = setup.limits.pool; journal = setup.limits.journal } in none) ≡ counts_of (opened setup)
nothing_counted setup =
    ap (λ (n : ℕ). let counts : Counts = record { queries = 0; matched = 0; waiting = 0; rows = n; entries = 0; unpublished = 0; since = 0; relations = length setup.catalog; pool = setup.limits.pool; journal = setup.limits.journal } in counts) (sym (no_rows setup.catalog 0))

-- ---- counts

module _ (form : Form) (floor : FloorRecord) (ask : AskRecord) (is : kinds.Count ≡ ask.kind) where
  counts_as_text : IsTextTold form floor ask (count_line (counts_of floor))
  counts_as_text = subst (λ (kind : AskKind). IsToldOf form floor (published_pool floor) kind ask.names ask.text (count_line (counts_of floor))) is refl

  counts_as_member : IsMember form floor ask (member_text (codes "count", count_json (counts_of floor)))
  counts_as_member = ((codes "count", count_json (counts_of floor)), subst (λ (kind : AskKind). IsMemberOf form floor (published_pool floor) kind ask.names ask.text (codes "count", count_json (counts_of floor))) is refl, refl)

  -- counts are the answer that is asked for
  pub counts_told : (numbering : Numbering) → IsPage form numbering floor ask (counts_page numbering (counts_of floor))
  counts_told Plain = counts_as_text
  counts_told Numbered = counts_as_text
  counts_told Json = counts_as_member

-- ---- replies without a page

abbrev pub IsPageless : Outcome → Type 0
IsPageless (outcomes.Shown count) = ⊥
IsPageless _ = Unit {0}

no_page : (numbering : Numbering) (pool : PoolRecord) (o : Outcome) → IsPageless o → page_of numbering pool o ≡ []
no_page numbering pool outcomes.Silent h = refl
no_page numbering pool outcomes.Accepted h = refl
no_page numbering pool (outcomes.Entered number) h = refl
no_page numbering pool (outcomes.Published count) h = refl
no_page numbering pool (outcomes.Shown count) h = absurd h
no_page numbering pool (outcomes.Answered kind) h = refl
no_page numbering pool (outcomes.Checkpointed count) h = refl
no_page numbering pool outcomes.Quit h = refl
no_page numbering pool (outcomes.Refused reason) h = refl

pageless_declared : (fault : Option CatalogFault) (setup : SetupRecord) (relation : Declaration) → IsPageless (declared fault setup relation).1
pageless_declared None setup relation = tt
pageless_declared (Some fault) setup relation = tt

pageless_named : (heading : Option Form) → IsPageless (board_named heading)
pageless_named None = tt
pageless_named (Some form) = tt

pageless_declared_later : (fault : Option RelationFault) (serving : ServingRecord) (pool : PoolRecord) → IsPageless (declared_later fault serving pool).1
pageless_declared_later None serving pool = tt
pageless_declared_later (Some fault) serving pool = tt

pageless_limited_later : (fault : Option LimitsFault) (serving : ServingRecord) (pool : PoolRecord) → IsPageless (limited_later fault serving pool).1
pageless_limited_later None serving pool = tt
pageless_limited_later (Some fault) serving pool = tt

pageless_later : (serving : ServingRecord) (line : SetupLine (List ℕ)) → IsPageless (set_up_later serving line).1
pageless_later serving (setups.Relation name arity) = pageless_declared_later (relation_fault (shown serving) name arity) serving (with_relation (shown serving) name arity)
pageless_later serving (setups.Board form) = tt
pageless_later serving (setups.Limits pool journal) =
    let limits : Limits = record { pool = pool; journal = journal } in pageless_limited_later (limits_fault (shown serving) limits) serving (with_limits (shown serving) limits)

pageless_prepared : (takes : Bool) (serving : ServingRecord) (line : SetupLine (List ℕ)) → IsPageless (prepared_later takes serving line).1
pageless_prepared true serving line = pageless_later serving line
pageless_prepared false serving line = tt

pub pageless_prepare : (stage : Staged) (heading : Option Form) (line : SetupLine (List ℕ)) → IsPageless (prepare stage heading line).1
pageless_prepare (Setup setup) heading (setups.Relation name arity) = pageless_declared (declare_fault setup.catalog name arity) setup (declaration name arity)
pageless_prepare (Setup setup) heading (setups.Board form) = pageless_named heading
pageless_prepare (Setup setup) heading (setups.Limits pool journal) = tt
pageless_prepare (Serving serving) heading line = pageless_prepared (takes_setup serving) serving line

pageless_reply : (reply : Reply Why) → IsPageless (reply_outcome reply)
pageless_reply (replies.Entered number) = tt
pageless_reply replies.JournalFull = tt
pageless_reply (replies.Not reason) = tt

pageless_if : (b : Bool) (reply : Reply Why) → IsPageless (event_outcome (if b then Err NoSession else Ok (Replied reply)))
pageless_if true reply = tt
pageless_if false reply = pageless_reply reply

pub pageless_enter : (serving : ServingRecord) (author : ℕ) (edit : Edit) → IsPageless (outcome serving (Enter author edit))
pageless_enter serving author edit = pageless_if (nat_le (length serving.seen) author) _

-- ---- edits

module _ (old new : ServingRecord) (edit : Edit) where
  abbrev the_answer : Result (Answer Why) StepFault
  the_answer = answer_to pool_after why old (Enter 0 edit)

  unmoved : (fault : StepFault) → the_answer ≡ Err fault → after old (Enter 0 edit) ≡ old
  unmoved fault is = rw is refl

  -- an edit that was entered or refused
  pub entered_as : (reply : Result (Reply Why) StepFault) (o : Outcome) → IsTold the_answer (replied reply) → OnOk reply (new ≡ machine_after pool_after why old (Enter 0 edit)) → OnErr reply (new ≡ old) → o ≡ event_outcome (replied reply) → reply ≢ Err NoMemory
      → (new ≡ after old (Enter 0 edit)) × (o ≡ outcome old (Enter 0 edit))
  entered_as (Ok reply) o told ok err is some = (ok, is ∙ ap event_outcome (sym told))
  entered_as (Err NoSession) o told ok err is some = (err ∙ sym (unmoved NoSession told), is ∙ ap event_outcome (sym told))
  entered_as (Err Ahead) o told ok err is some = (err ∙ sym (unmoved Ahead told), is ∙ ap event_outcome (sym told))
  entered_as (Err Unpublished) o told ok err is some = (err ∙ sym (unmoved Unpublished told), is ∙ ap event_outcome (sym told))
  entered_as (Err NoMemory) o told ok err is some = absurd (some refl)

-- a checkpoint that was made or refused
module _ (old new : ServingRecord) where
  abbrev the_count : Result (Answer Why) StepFault
  the_count = answer_to pool_after why old Checkpoint

  stays : (fault : StepFault) → the_count ≡ Err fault → after old Checkpoint ≡ old
  stays fault is = rw is refl

  renews : (count : ℕ) → the_count ≡ Ok (Checkpointed count) → after old Checkpoint ≡ moved pool_after old Checkpoint
  renews count is = rw is refl

  pub checked_as : (count : Result ℕ StepFault) (o : Outcome) → IsTold the_count (checkpointed count) → OnOk count (new ≡ moved pool_after old Checkpoint) → OnErr count (new ≡ old) → o ≡ event_outcome (checkpointed count) → count ≢ Err NoMemory
      → (new ≡ after old Checkpoint) × (o ≡ outcome old Checkpoint)
  checked_as (Ok count) o told ok err is some = (ok ∙ sym (renews count told), is ∙ ap event_outcome (sym told))
  checked_as (Err NoSession) o told ok err is some = (err ∙ sym (stays NoSession told), is ∙ ap event_outcome (sym told))
  checked_as (Err Ahead) o told ok err is some = (err ∙ sym (stays Ahead told), is ∙ ap event_outcome (sym told))
  checked_as (Err Unpublished) o told ok err is some = (err ∙ sym (stays Unpublished told), is ∙ ap event_outcome (sym told))
  checked_as (Err NoMemory) o told ok err is some = absurd (some refl)

-- no checkpoint was made where memory ran out
pub not_checked : (count : Result ℕ StepFault) (P : Type 0) → count ≡ Err NoMemory → OnErr count P → P
not_checked (Ok count) P is h = absurd cc
not_checked (Err fault) P is h = h

-- no edit was entered where memory ran out
pub not_entered : (reply : Result (Reply Why) StepFault) (P : Type 0) → reply ≡ Err NoMemory → OnErr reply P → P
not_entered (Ok reply) P is h = absurd cc
not_entered (Err fault) P is h = h

-- ---- commands

-- a command was obeyed, and its line counted
pub obeyed : (manner : Manner) (old mid new : State) (said : Said AskRecord CommandContent) (command : CommandContent) (heading : Option Form) (o : Outcome) (turn : TurnRecord) → said ≡ saids.Says command
    → heading ≡ headed old.heading (Reads command)
    → mid ≡ record old { stage = (staged old.stage old.heading (Reads command)).0 } → o ≡ (staged old.stage old.heading (Reads command)).1
    → new ≡ record (counted mid) { heading = heading; tally = tallied mid.tally (mid.lines + 1) (refusal o) }
    → turn ≡ turn_in old (Reads command) → IsObeyed manner old said new turn
obeyed manner old mid new said command heading o turn is h m out n t = rw is (
  inl (n ∙ rw (m, out, h) refl),
  t,
)

-- a reply without a page
pub plain_in : (old : State) (command : CommandContent) (o : Outcome) → o ≡ (staged old.stage old.heading (Reads command)).1 → IsPageless (staged old.stage old.heading (Reads command)).1 → plain_turn o ≡ turn_in old (Reads command)
plain_in old command o is h =
    let after = staged old.stage old.heading (Reads command) in
    ap plain_turn is ∙ ap (λ (page : List ℕ). let turn : TurnRecord = record { outcome = after.1; page = page } in turn) (sym (no_page old.numbering (shown (serving_of after.0)) after.1 h))

-- ---- lines

-- What comes of a line, by what it says.
pub record Told (manner : Manner) (state state' : State) (all : List ℕ) (turn : TurnRecord) : Type 0 where
  pub one : Turn
  pub is : IsTurn manner state all one
  pub after : state' ≡ turned state one
  pub reply : numbered state.numbering state.lines (turn_bytes state.numbering turn) ≡ turn_reply state one

pub told_by : (manner : Manner) (state state' : State) (line : Option (List ℕ)) (said : Said AskRecord CommandContent) (turn : TurnRecord) (all : List ℕ) → is_done manner state ≡ false → IsSaid manner (form_in state) line said → IsFindOf None said → IsObeyed manner state said state' turn → IsLine line all
    → Told manner state state' all turn
told_by manner state state' None said turn all on is other obeys known = absurd (let lost = subst (λ (s : Said AskRecord CommandContent). IsObeyed manner state s state' turn) is obeys in lost)
told_by manner state state' (Some line) (saids.Asks ask) turn all on is other obeys known = record {
  one = Asked ask (turn_bytes state.numbering turn);
  is = turn_of_line manner state line all (Asked ask (turn_bytes state.numbering turn)) known (on, is, obeys.1 other);
  after = obeys.0;
  reply = refl;
}
told_by manner state state' (Some line) (saids.Says command) turn all on is other (inl same, told) known = record {
  one = ReadsAs (Reads command);
  is = turn_of_line manner state line all (ReadsAs (Reads command)) known (on, is.0, is.1);
  after = same;
  reply = ap (λ (t : TurnRecord). numbered state.numbering state.lines (turn_bytes state.numbering t)) told;
}
told_by manner state state' (Some line) (saids.Says command) turn all on is other (inr kept, told) known = record {
  one = Renewed (Reads command);
  is = turn_of_line manner state line all (Renewed (Reads command)) known (on, kept.0, is.0, is.1, kept.1);
  after = kept.2;
  reply = ap (λ (t : TurnRecord). numbered state.numbering state.lines (turn_bytes state.numbering t)) told;
}
told_by manner state state' (Some line) (saids.Faulty kind at) turn all on is other obeys known = record {
  one = ReadsAs (Faulty kind at);
  is = turn_of_line manner state line all (ReadsAs (Faulty kind at)) known (on, is.0, is.1);
  after = obeys.0;
  reply = ap (λ (t : TurnRecord). numbered state.numbering state.lines (turn_bytes state.numbering t)) obeys.1;
}
told_by manner state state' (Some line) saids.Lost turn all on is other obeys known = absurd obeys

-- a line that asks for something else, or asks nothing
starve_by : (line : List ℕ) (said : Said AskRecord CommandContent) (form : Form) → IsSaid manners.Live form (Some line) said → MayFail said → MayStarve line
starve_by line (saids.Asks ask) form is may = inr (λ other same. let one : Some other ≡ Some ask = sym same ∙ is in let e : ask ≡ other = cc in subst (λ (a : AskRecord). needs_memory a.kind ≡ true) e may)
starve_by line (saids.Says command) form is may = inr (λ other same. absurd (let never = is.0 in cc))
starve_by line (saids.Faulty kind at) form is may = inr (λ other same. absurd (let never = is.0 in cc))
starve_by line saids.Lost form is may = inr is

pub may_by : (manner : Manner) (form : Form) (line : Option (List ℕ)) (said : Said AskRecord CommandContent) → IsSaid manner form line said → MayFail said → MayBeStarved manner line
may_by (manners.Script is_strict) form line said is may live all known = absurd cc
may_by manners.Live form None said is may live all known = inl known
may_by manners.Live form (Some line) said is may live all known = same_starve line all known (starve_by line said form is may)

-- a line that needs memory to be read asks for what needs memory
kind_wants : (kind : AskKind) → takes_no_names kind ≡ false → needs_memory kind ≡ true
kind_wants kinds.Count h = absurd cc
kind_wants kinds.Status h = refl
kind_wants kinds.Query h = refl
kind_wants kinds.Explain h = refl
kind_wants (kinds.Near post) h = refl
kind_wants kinds.Choice h = refl
kind_wants kinds.Choose h = refl
kind_wants kinds.Groups h = refl
kind_wants kinds.Changes h = refl
kind_wants kinds.Graph h = refl
kind_wants kinds.Json h = refl
kind_wants kinds.Dump h = absurd cc
kind_wants (kinds.Find place) h = refl
kind_wants kinds.Checkpoint h = absurd cc
kind_wants kinds.Help h = refl
kind_wants kinds.Quit h = absurd cc
kind_wants kinds.Unfit h = refl

pub wants_memory : (line : List ℕ) → option_map (λ (ask : AskRecord). takes_no_names ask.kind) (asked line) ≡ Some false → (ask : AskRecord) → asked line ≡ Some ask → needs_memory ask.kind ≡ true
wants_memory line h ask is = kind_wants ask.kind (let e = rw is at h in cc)

-- ---- lines that are heard

-- The reading of a line.
pub record Heeds (state state' : State) (line : List ℕ) (turn : TurnRecord) : Type 0 where
  pub reading : Reading
  pub is : IsReading (form_in state) line reading
  pub after : state' ≡ next state reading
  pub told : turn ≡ turn_in state reading

pub heeds_by : (manner : Manner) (state state' : State) (line : List ℕ) (said : Said AskRecord CommandContent) (turn : TurnRecord) → (manner ≡ manners.Live → ⊥) → IsRead (form_in state) line said → IsObeyed manner state said state' turn → Heeds state state' line turn
heeds_by manner state state' line (saids.Asks ask) turn script is obeys = absurd is
heeds_by manner state state' line (saids.Says command) turn script is (inl same, told) = record { reading = Reads command; is = is; after = same; told = told }
heeds_by manner state state' line (saids.Says command) turn script is (inr kept, told) = absurd (script kept.0)
heeds_by manner state state' line (saids.Faulty kind at) turn script is obeys = record { reading = Faulty kind at; is = is; after = obeys.0; told = obeys.1 }
heeds_by manner state state' line saids.Lost turn script is obeys = absurd obeys
