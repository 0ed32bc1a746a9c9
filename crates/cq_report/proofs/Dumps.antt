-- A dump that is served as a script: what its lines are read as, and what they leave.
use Rattle.std.proofs.Common.{◌≡◌, ◌+◌, ◌≤◌, ◌<◌, ℕ, Bool, true, false, not, List, [], ◌∷◌, ◌++◌, length, map, Option, None, Some, refl, sym, ap, subst, ◌∙◌, append_assoc, append-nil, arith, if◌then◌else◌, bytes_eq, length-append}
use Rattle.std.specs.Prelude.{◌≢◌, fold, nat_le, nat_lt, Ok}
use Rattle.std.specs.List.{All, AllByRecursion, IsDistinct, flat_map}
use Rattle.std.proofs.lemmas.Bool.{ne_eqb, lt-leb, lt-ltb}
use Rattle.std.proofs.lemmas.Cmp.{nat_list_eq_equiv}
use Rattle.std.proofs.lemmas.List.{length-map, map_push, take_all}
use Rattle.std.proofs.lemmas.List.Elements.{recursion_from_All}
use Rattle.std.proofs.lemmas.List.Sums.{fold_push}
use Rattle.cq_atom.specs.Atom.{RowRecord, arity_fault, is_arity}
use Rattle.cq_atom.specs.Text.{is_relation_name}
use Rattle.cq_atom.specs.Edit.{Edit}
use Rattle.cq_atom.specs.declared.edit.EditKind.TheVariants.{Post, Insert}
use Rattle.cq_atom.specs.declared.fault.Bad.TheVariants as bad
use Rattle.cq_rel.specs.declared.fault.CatalogFault.{CatalogFault}
use Rattle.cq_rel.specs.declared.fault.CatalogFault.TheVariants.{BadName, BadArity, Declared, CatalogFull}
use Rattle.cq_rel.specs.Limits.{max_relations}
use Rattle.cq_rel.specs.Tables.{Declaration, IsCatalog, arity_in, declaration, declare_fault, relation_of}
use Rattle.cq_text.specs.declared.form.Form.{Form}
use Rattle.cq_text.specs.declared.form.Form.TheVariants.{One}
use Rattle.cq_text.specs.declared.command.CommandKind.TheVariants as commands
use Rattle.cq_text.specs.declared.command.SetupLine.TheVariants as setups
use Rattle.cq_text.specs.Grammar.{CommandContent, FitsCommand, StandsFor}
use Rattle.cq_text.specs.Print.{printed_command}
use Rattle.cq_text.specs.Sound.{IsSoundCommand}
use Rattle.cq_board.specs.declared.edit.Why.{Why}
use Rattle.cq_board.specs.Pool.{PendingQuery, PoolRecord, IsPool, opening_pool}
use Rattle.cq_board.specs.Edits.{why, pool_after}
use Rattle.cq_board.specs.Content.{content_edits}
use Rattle.cq_desk.specs.declared.journal.Entry.{Entry}
use Rattle.cq_desk.specs.declared.event.Event.TheVariants as events
use Rattle.cq_desk.specs.declared.event.Answer.TheVariants.{Replied}
use Rattle.cq_desk.specs.declared.reply.Reply.{Reply}
use Rattle.cq_desk.specs.declared.reply.Reply.TheVariants.{Entered, JournalFull}
use Rattle.cq_desk.specs.Machine.{opening_machine, moved, reply_to, unless_refused, working_content}
use Rattle.cq_desk.specs.Replies.{AreAccepted, admitted, entries_by, journal_edits}
use Rattle.cq_render.specs.Dump.{command_line, dump, dump_commands, dump_journal, relation_command}
use Rattle.cq_render.specs.Report.{report}
use Rattle.cq_report.specs.declared.numbering.Numbering.TheVariants.{Plain}
use Rattle.cq_report.specs.declared.stage.Stage.TheVariants.{Setup}
use Rattle.cq_report.specs.Lines.{lines_of, HasNoEnd}
use Rattle.cq_report.specs.Reading.{Reading, Reads}
use Rattle.cq_report.specs.Refusals.{no_refusal, tallied}
use Rattle.cq_report.specs.Reply.{event_outcome, refusal}
use Rattle.cq_report.specs.Machine.{State, Staged, SetupRecord, ServingRecord, after, begin_setup, begin_state, declared, next, outcome, serving_of, shown, staged}
use Rattle.cq_report.specs.Output.{AreReadFrom, AreReadings, left_after, pool_left, state_after}
use Rattle.cq_report.proofs.Cutting.{lines_of_ended}

-- ---- the lines

no_end : (bytes : List ℕ) → AllByRecursion (λ (byte : ℕ). byte ≢ 10) bytes → HasNoEnd bytes
no_end [] h = tt
no_end (b ∷ bytes) h = (ne_eqb b 10 h.0, no_end bytes h.1)

-- No line has an LF.
abbrev HaveOneLine : List CommandContent → Type 0
HaveOneLine [] = Unit {0}
HaveOneLine (command ∷ rest) = HasNoEnd (printed_command command) × HaveOneLine rest

lines_of_commands : (all : List CommandContent) → HaveOneLine all → lines_of (flat_map command_line all) ≡ map printed_command all
lines_of_commands [] h = refl
lines_of_commands (command ∷ rest) h =
    ap lines_of (append_assoc (printed_command command) (10 ∷ []) (flat_map command_line rest))
    ∙ lines_of_ended (printed_command command) (flat_map command_line rest) h.0
    ∙ ap (λ (lines : List (List ℕ)). printed_command command ∷ lines) (lines_of_commands rest h.1)

-- Printed commands are read back.
abbrev pub AreReadBack : Type 0
AreReadBack = (form : Form) (command : CommandContent) → IsSoundCommand command → FitsCommand form command → StandsFor form (printed_command command) command

-- They have no LF.
abbrev pub AreOneLine : Type 0
AreOneLine = (form : Form) (command : CommandContent) → IsSoundCommand command → FitsCommand form command → All (λ (byte : ℕ). byte ≢ 10) (printed_command command)

module _ (back : AreReadBack) (one : AreOneLine) (form : Form) where
  one_line : (command : CommandContent) → IsSoundCommand command → FitsCommand form command → HasNoEnd (printed_command command)
  one_line command sound fits = no_end (printed_command command) (recursion_from_All (λ (byte : ℕ). byte ≢ 10) (printed_command command) (one form command sound fits))

  one_line_each : (all : List CommandContent) → AllByRecursion IsSoundCommand all → AllByRecursion (FitsCommand form) all → HaveOneLine all
  one_line_each [] sound fit = tt
  one_line_each (command ∷ rest) sound fit = (one_line command sound.0 fit.0, one_line_each rest sound.1 fit.1)

  -- once the form is settled, each line is read in it
  read_on : (all : List CommandContent) → AllByRecursion IsSoundCommand all → AllByRecursion (FitsCommand form) all → AreReadFrom (Some form) (map printed_command all) (map Reads all)
  read_on [] sound fit = tt
  read_on (command ∷ rest) sound fit = (back form command sound.0 fit.0, read_on rest sound.1 fit.1)

  -- the line that settles it is read in form 1
  read_by : (rest : List CommandContent) → AllByRecursion IsSoundCommand (commands.Setup (setups.Board form) ∷ rest) → AllByRecursion (FitsCommand form) (commands.Setup (setups.Board form) ∷ rest)
      → AreReadings (lines_of (flat_map command_line (commands.Setup (setups.Board form) ∷ rest))) (map Reads (commands.Setup (setups.Board form) ∷ rest))
  read_by rest sound fit =
      let board = commands.Setup (setups.Board form) in
      let all : List CommandContent = board ∷ rest in
      subst (λ (lines : List (List ℕ)). AreReadings lines (map Reads all)) (sym (lines_of_commands all (one_line_each all sound fit)))
      (back One board tt tt, read_on rest sound.1 fit.1)

  pub dump_read : (journal : ℕ) (pool : PoolRecord) → All IsSoundCommand (dump_commands form journal pool) → All (FitsCommand form) (dump_commands form journal pool)
      → AreReadings (lines_of (dump form journal pool)) (map Reads (dump_commands form journal pool))
  dump_read journal pool sound fit =
      read_by _ (recursion_from_All IsSoundCommand (dump_commands form journal pool) sound) (recursion_from_All (FitsCommand form) (dump_commands form journal pool) fit)

-- ---- the state after commands

abbrev run : State → List CommandContent → State
run state all = state_after state (map Reads all)

run_append : (state : State) (xs ys : List CommandContent) → run state (xs ++ ys) ≡ run (run state xs) ys
run_append state [] ys = refl
run_append state (x ∷ xs) ys = run_append (next state (Reads x)) xs ys

-- The script is at this stage, and no line was refused.
record IsAt (stage : Staged) (state : State) : Type 0 where
  stage_is : state.stage ≡ stage
  tally_is : state.tally ≡ no_refusal

-- a line that is not refused
goes : (state : State) (old new : Staged) (reading : Reading) → IsAt old state → (staged old state.heading reading).0 ≡ new → refusal (staged old state.heading reading).1 ≡ None → IsAt new (next state reading)
goes state old new reading here leads free = record {
  stage_is = ap (λ (stage : Staged). (staged stage state.heading reading).0) here.stage_is ∙ leads;
  tally_is =
      ap (λ (stage : Staged). tallied state.tally (state.lines + 1) (refusal (staged stage state.heading reading).1)) here.stage_is
      ∙ ap (tallied state.tally (state.lines + 1)) free ∙ here.tally_is;
}

-- ---- the relations

named_apart : (name : List ℕ) (done : List Declaration) (d : Declaration) (rest : List Declaration) → AllByRecursion (λ (y : List ℕ). bytes_eq name y ≡ false) (map relation_of (done ++ d ∷ rest)) → bytes_eq name d.relation ≡ false
named_apart name [] d rest h = h.0
named_apart name (x ∷ done) d rest h = named_apart name done d rest h.1

-- no relation before one of a catalog has its name
not_yet : (done : List Declaration) (d : Declaration) (rest : List Declaration) → IsDistinct bytes_eq (map relation_of (done ++ d ∷ rest)) → arity_in done d.relation ≡ None
unfolding IsDistinct
not_yet [] d rest h = refl
not_yet (x ∷ done) d rest h =
    let other : bytes_eq d.relation x.relation ≡ false = nat_list_eq_equiv.symm d.relation x.relation ∙ named_apart x.relation done d rest h.0 in
    rw other (not_yet done d rest h.1)

good_at : (done : List Declaration) (d : Declaration) (rest : List Declaration) → AllByRecursion (λ (x : Declaration). arity_fault x.relation x.arity ≡ None) (done ++ d ∷ rest) → arity_fault d.relation d.arity ≡ None
good_at [] d rest h = h.0
good_at (x ∷ done) d rest h = good_at done d rest h.1

no_fault : (name few : Bool) (known : Option ℕ) (room : Bool) → (if name then (if few then None else Some bad.BadArity) else Some bad.BadName) ≡ None → known ≡ None → room ≡ true
    → (if not name then Some BadName else (if not few then Some BadArity else elim known [ Some n ↦ Some Declared | None ↦ (if room then None else Some CatalogFull) ])) ≡ None
no_fault false few known room good new free = absurd cc
no_fault true false known room good new free = absurd cc
no_fault true true (Some n) room good new free = absurd cc
no_fault true true None false good new free = absurd cc
no_fault true true None true good new free = refl

can_declare : (done : List Declaration) (d : Declaration) (rest : List Declaration) → IsCatalog (done ++ d ∷ rest) → declare_fault done d.relation d.arity ≡ None
can_declare done d rest is =
    let good = good_at done d rest (recursion_from_All (λ (x : Declaration). arity_fault x.relation x.arity ≡ None) (done ++ d ∷ rest) is.good) in
    let room : length done < max_relations = omega (arith, is.few, length-append done (d ∷ rest)) in
    no_fault (is_relation_name d.relation) (is_arity d.arity) (arity_in done d.relation) (nat_lt (length done) max_relations) good (not_yet done d rest is.distinct) (lt-ltb (length done) max_relations room)

-- The setup with these relations, under the limits of a script that names none.
abbrev setup_of : List Declaration → SetupRecord
setup_of catalog = record { catalog = catalog; limits = begin_setup.limits }

-- all relations of a catalog are declared
relations_come : (state : State) (done todo : List Declaration) → IsCatalog (done ++ todo) → IsAt (Setup (setup_of done)) state → IsAt (Setup (setup_of (done ++ todo))) (run state (map relation_command todo))
relations_come state done [] is here = subst (λ (catalog : List Declaration). IsAt (Setup (setup_of catalog)) state) (sym (append-nil done)) here
relations_come state done (d ∷ todo) is here =
    let free = can_declare done d todo is in
    let one : (done ++ d ∷ []) ++ todo ≡ done ++ d ∷ todo = append_assoc done (d ∷ []) todo in
    let more = next state (Reads (relation_command d)) in
    let there : IsAt (Setup (setup_of (done ++ d ∷ []))) more =
    goes state (Setup (setup_of done)) (Setup (setup_of (done ++ d ∷ []))) (Reads (relation_command d)) here
    (ap (λ (fault : Option CatalogFault). let stage : Staged = Setup (declared fault (setup_of done) (declaration d.relation d.arity)).0 in stage) free)
    (ap (λ (fault : Option CatalogFault). refusal (declared fault (setup_of done) (declaration d.relation d.arity)).1) free) in
    subst (λ (catalog : List Declaration). IsAt (Setup (setup_of catalog)) (run more (map relation_command todo))) one
    (relations_come more (done ++ d ∷ []) todo (subst IsCatalog (sym one) is) there)

-- ---- the edits

-- The entry of an edit of the one session.
abbrev entry_of : Edit → Entry Edit
entry_of edit = record { author = 0; edit = edit }

-- The floor under this limit, after these edits of the one session.
abbrev floor_of : PoolRecord → ℕ → List Edit → ServingRecord
floor_of opening limit done = record (opening_machine opening limit 1) { journal = entries_by 0 done }

edits_of : (done : List Edit) → journal_edits (entries_by 0 done) ≡ done
edits_of [] = refl
edits_of (edit ∷ done) = ap (λ (edits : List Edit). edit ∷ edits) (edits_of done)

-- The floor serves the script, and no line was refused.
record HasFloor (floor : ServingRecord) (state : State) : Type 0 where
  floor_is : serving_of state.stage ≡ floor
  tally_is : state.tally ≡ no_refusal

-- an edit that is entered
enters : (state : State) (old new : ServingRecord) (edit : Edit) → HasFloor old state → after old (events.Enter 0 edit) ≡ new → refusal (outcome old (events.Enter 0 edit)) ≡ None → HasFloor new (next state (Reads (commands.Edit edit)))
enters state old new edit here leads free = record {
  floor_is = ap (λ (floor : ServingRecord). after floor (events.Enter 0 edit)) here.floor_is ∙ leads;
  tally_is =
      ap (λ (floor : ServingRecord). tallied state.tally (state.lines + 1) (refusal (outcome floor (events.Enter 0 edit)))) here.floor_is
      ∙ ap (tallied state.tally (state.lines + 1)) free ∙ here.tally_is;
}

-- what was entered is published
publishes : (state : State) (old new : ServingRecord) → HasFloor old state → after old events.Publish ≡ new → refusal (outcome old events.Publish) ≡ None → HasFloor new (next state (Reads commands.Publish))
publishes state old new here leads free = record {
  floor_is = ap (λ (floor : ServingRecord). after floor events.Publish) here.floor_is ∙ leads;
  tally_is =
      ap (λ (floor : ServingRecord). tallied state.tally (state.lines + 1) (refusal (outcome floor events.Publish))) here.floor_is
      ∙ ap (tallied state.tally (state.lines + 1)) free ∙ here.tally_is;
}

module _ (opening : PoolRecord) (limit : ℕ) where
  entered : (done : List Edit) (edit : Edit) → length done < limit → why (fold pool_after opening done) edit ≡ None → reply_to pool_after why (floor_of opening limit done) edit ≡ Entered (0 + length (entries_by 0 done) + 1)
  entered done edit room free =
      let count : length (entries_by 0 done) ≡ length done = length-map done entry_of in
      let low : nat_le limit (length (entries_by 0 done)) ≡ false = lt-leb limit (length (entries_by 0 done)) (omega (arith, count, room)) in
      let here : why (working_content pool_after (floor_of opening limit done)) edit ≡ None = ap (λ (edits : List Edit). why (fold pool_after opening edits) edit) (edits_of done) ∙ free in
      ap (λ (full : Bool). let reply : Reply Why = if full then JournalFull else admitted (0 + length (entries_by 0 done)) (why (working_content pool_after (floor_of opening limit done)) edit) in reply) low
      ∙ ap (admitted (0 + length (entries_by 0 done))) here

  edit_comes : (done : List Edit) (edit : Edit) (state : State) → length done < limit → why (fold pool_after opening done) edit ≡ None → HasFloor (floor_of opening limit done) state
      → HasFloor (floor_of opening limit (done ++ edit ∷ [])) (next state (Reads (commands.Edit edit)))
  edit_comes done edit state room free here =
      let floor = floor_of opening limit done in
      let reply = entered done edit room free in
      enters state floor (floor_of opening limit (done ++ edit ∷ [])) edit here
      (ap (λ (r : Reply Why). unless_refused (Ok (Replied r)) floor (moved pool_after floor (events.Enter 0 edit))) reply
      ∙ ap (λ (journal : List (Entry Edit)). let made : ServingRecord = record floor { journal = journal } in made) (sym (map_push entry_of done edit)))
      (ap (λ (r : Reply Why). refusal (event_outcome (Ok (Replied r)))) reply)

  -- all edits are entered
  edits_come : (done todo : List Edit) (state : State) → length done + length todo ≤ limit → AreAccepted pool_after why (fold pool_after opening done) todo → HasFloor (floor_of opening limit done) state
      → HasFloor (floor_of opening limit (done ++ todo)) (run state (map commands.Edit todo))
  edits_come done [] state room free here = subst (λ (edits : List Edit). HasFloor (floor_of opening limit edits) state) (sym (append-nil done)) here
  edits_come done (edit ∷ todo) state room free here =
      let one : (done ++ edit ∷ []) ++ todo ≡ done ++ edit ∷ todo = append_assoc done (edit ∷ []) todo in
      let more = next state (Reads (commands.Edit edit)) in
      subst (λ (edits : List Edit). HasFloor (floor_of opening limit edits) (run more (map commands.Edit todo))) one
      (edits_come (done ++ edit ∷ []) todo more (omega (arith, length-append done (edit ∷ []), room))
      (subst (λ (pool : PoolRecord). AreAccepted pool_after why pool todo) (sym (fold_push pool_after opening done edit)) free.1)
      (edit_comes done edit state (omega (arith, room)) free.0 here))

  -- The floor after that, with all published.
  abbrev published_floor : List Edit → ServingRecord
  published_floor done = moved pool_after (floor_of opening limit done) events.Publish

  shown_is : (done : List Edit) → shown (published_floor done) ≡ fold pool_after opening done
  shown_is done =
      ap (λ (journal : List (Entry Edit)). fold pool_after opening (journal_edits journal)) (take_all (length (entries_by 0 done)) (entries_by 0 done) (omega arith))
      ∙ ap (fold pool_after opening) (edits_of done)

-- ---- the whole dump

-- Good pools result from their content.
abbrev pub IsContent : Type 0
IsContent = (pool : PoolRecord) → IsPool pool → fold pool_after (opening_pool pool.tables.catalog pool.limits) (content_edits pool) ≡ pool

-- No edit of that is refused.
abbrev pub HasAccepted : Type 0
HasAccepted = (pool : PoolRecord) → IsPool pool → AreAccepted pool_after why (opening_pool pool.tables.catalog pool.limits) (content_edits pool)

-- The pool under the limits of its dump.
abbrev limited : ℕ → PoolRecord → PoolRecord
limited journal pool = record pool { limits = record { pool = pool.limits.pool; journal = dump_journal journal pool } }

limited_good : (journal : ℕ) (pool : PoolRecord) → IsPool pool → IsPool (limited journal pool)
limited_good journal pool good = record { tables = good.tables; few = good.few; distinct = good.distinct; fit = good.fit }

abbrev inserts : RowRecord → Edit
inserts row = Insert row

abbrev posts : PendingQuery → Edit
posts query = Post query.name query.query

-- a journal has room for the edits of its dump
has_room : (journal : ℕ) (pool : PoolRecord) → length (content_edits pool) ≤ dump_journal journal pool
has_room journal pool =
    omega (arith, length-append (map inserts pool.tables.rows) (map posts pool.pending), length-map pool.tables.rows inserts, length-map pool.pending posts)

module _ (content : IsContent) (free : HasAccepted) (form : Form) (journal : ℕ) (pool : PoolRecord) (good : IsPool pool) where
  abbrev catalog : List Declaration
  catalog = pool.tables.catalog

  abbrev most : ℕ
  most = dump_journal journal pool

  abbrev edits : List Edit
  edits = content_edits pool

  abbrev opening : PoolRecord
  opening = opening_pool catalog (limited journal pool).limits

  -- the states after the form, the relations, the limits, the edits
  abbrev headed_state : State
  headed_state = next (begin_state Plain) (Reads (commands.Setup (setups.Board form)))

  abbrev declared_state : State
  declared_state = run headed_state (map relation_command catalog)

  abbrev limited_state : State
  limited_state = next declared_state (Reads (commands.Setup (setups.Limits pool.limits.pool most)))

  abbrev edited_state : State
  edited_state = run limited_state (map commands.Edit edits)

  headed_at : IsAt (Setup (setup_of [])) headed_state
  headed_at = record { stage_is = refl; tally_is = refl }

  declared_at : IsAt (Setup (setup_of catalog)) declared_state
  declared_at = relations_come headed_state [] catalog good.tables.catalog headed_at

  limited_at : IsAt (Setup (record { catalog = catalog; limits = (limited journal pool).limits })) limited_state
  limited_at = goes declared_state (Setup (setup_of catalog)) _ (Reads (commands.Setup (setups.Limits pool.limits.pool most))) declared_at refl refl

  limited_floor : HasFloor (floor_of opening most []) limited_state
  limited_floor = record { floor_is = ap serving_of limited_at.stage_is; tally_is = limited_at.tally_is }

  edited_floor : HasFloor (floor_of opening most edits) edited_state
  edited_floor = edits_come opening most [] edits limited_state (omega (arith, has_room journal pool)) (free (limited journal pool) (limited_good journal pool good)) limited_floor

  dump_floor : HasFloor (published_floor opening most edits) (run (begin_state Plain) (dump_commands form journal pool))
  dump_floor =
      let last : List CommandContent = commands.Publish ∷ [] in
      let limits : List CommandContent = commands.Setup (setups.Limits pool.limits.pool most) ∷ [] in
      let whole : run (begin_state Plain) (dump_commands form journal pool) ≡ run edited_state last =
      run_append headed_state (map relation_command catalog ++ limits) (map commands.Edit edits ++ last)
      ∙ ap (λ (state : State). run state (map commands.Edit edits ++ last)) (run_append headed_state (map relation_command catalog) limits)
      ∙ run_append limited_state (map commands.Edit edits) last in
      subst (HasFloor (published_floor opening most edits)) (sym whole) (publishes edited_state (floor_of opening most edits) (published_floor opening most edits) edited_floor refl refl)

  pub dump_accepted : (left_after (map Reads (dump_commands form journal pool))).tally ≡ no_refusal
  dump_accepted = dump_floor.tally_is

  pub dump_made : pool_left (map Reads (dump_commands form journal pool)) ≡ limited journal pool
  dump_made = ap shown dump_floor.floor_is ∙ shown_is opening most edits ∙ content (limited journal pool) (limited_good journal pool good)

  -- a report does not depend on the limits
  pub dump_shown : report (pool_left (map Reads (dump_commands form journal pool))) ≡ report pool
  dump_shown = ap report dump_made
