-- What holds of the floor machine after any events.
use Rattle.std.proofs.Common.{◌≡◌, ℕ, zero, suc, ◌≤◌, max, Bool, true, false, nat_le, ◌+◌, if◌then◌else◌, IfSome, is_some, ltb, Some, None, Bor, List, [], ◌∷◌, ◌++◌, length, get_or, set, Option, Result, Ok, Err, refl, sym, subst, arith, length-append}
use Rattle.std.proofs.Math.Nat.{le-max_left, max-le}
use Rattle.std.proofs.lemmas.Bool.{leb-true, ltb-true}
use Rattle.std.specs.Option.{option_copied}
use Rattle.cq_desk.specs.Plain.{AreWithin}
use Rattle.cq_desk.specs.declared.event.Event.{Event}
use Rattle.cq_desk.specs.declared.event.Event.TheVariants.{Enter, Publish, Look, Hear, Checkpoint}
use Rattle.cq_desk.specs.declared.event.Answer.{Answer}
use Rattle.cq_desk.specs.declared.event.Answer.TheVariants.{Replied, Published, Looked, Heard, Checkpointed}
use Rattle.cq_desk.specs.declared.event.StepFault.{StepFault}
use Rattle.cq_desk.specs.declared.event.StepFault.TheVariants.{NoSession, Ahead}
use Rattle.cq_desk.specs.declared.reply.Reply.TheVariants.{Entered, JournalFull, Not}
use Rattle.cq_desk.specs.Machine.{MachineRecord, opening_machine, entry_count, published_count, seen_by, moved, unless_refused, answer_to, machine_after, machine_run}
use Rattle.cq_desk.proofs.Cutting.{within-more}
use Rattle.cq_desk.proofs.Counting.{within-get, within-set, within-replicate}

pub within-seen : (most : ℕ) (counts : List ℕ) (i : ℕ) → AreWithin most counts → get_or counts i 0 ≤ most
within-seen most [] i w = omega arith
within-seen most (m ∷ counts) zero w = w.0
within-seen most (m ∷ counts) (suc i) w = within-seen most counts i w.1

pub within-got : (most : ℕ) (counts : List ℕ) (i : ℕ) (r : Option (Bor ℕ)) → AreWithin most counts → is_some r ≡ ltb i (length counts) → IfSome r (λ x. x.now ≡ get_or counts i x.now) → IfSome (option_copied r) (λ n. n ≤ most)
within-got most counts i None w l at = tt
within-got most counts i (Some x) w l at = subst (λ n. n ≤ most) (sym at) (within-get most counts i x.now (ltb-true i (length counts) (sym l)) w)

set-grows : (counts : List ℕ) (i n k : ℕ) → get_or counts i 0 ≤ n → get_or counts k 0 ≤ get_or (set counts i n) k 0
set-grows [] i n k l = omega arith
set-grows (m ∷ counts) zero n zero l = l
set-grows (m ∷ counts) zero n (suc k) l = omega arith
set-grows (m ∷ counts) (suc i) n zero l = omega arith
set-grows (m ∷ counts) (suc i) n (suc k) l = set-grows counts i n k l

-- counts are within what is published, and that is a front
record IsSound {C E : Type 0} (m : MachineRecord C E) : Type 0 where
  pub seen : AreWithin (published_count m) m.seen
  pub front : m.published ≤ length m.journal

pub either : {C E W : Type 0} (P : MachineRecord C E → Type 0) (r : Result (Answer W) StepFault) (m n : MachineRecord C E) → P m → P n → P (unless_refused r m n)
either P (Ok (Replied (Entered k))) m n p q = q
either P (Ok (Replied JournalFull)) m n p q = p
either P (Ok (Replied (Not w))) m n p q = p
either P (Ok (Published k)) m n p q = q
either P (Ok (Looked k)) m n p q = q
either P (Ok (Heard k)) m n p q = q
either P (Ok (Checkpointed k)) m n p q = q
either P (Err e) m n p q = p

-- where a test that fails refuses
tested : {C E : Type 0} (W : Type 0) (P : MachineRecord C E → Type 0) (none short : Bool) (heard : ℕ) (f g : StepFault) (m n : MachineRecord C E) → P m → (short ≡ true → P n) → P (unless_refused {C = C} {E = E} {W = W} (if none then Err f else (if short then Ok (Heard heard) else Err g)) m n)
tested W P true short heard f g m n p q = p
tested W P false true heard f g m n p q = q refl
tested W P false false heard f g m n p q = p

is_short : (n m : ℕ) → nat_le n m ≡ true → n ≤ m
is_short n m is = leb-true n m is

module _ {C E W : Type 0} (after : C → E → C) (why : C → E → Option W) where
  sound_after : (m : MachineRecord C E) (e : Event E) → IsSound m → IsSound (machine_after after why m e)
  sound_after m (Enter author edit) s =
      either IsSound (answer_to after why m (Enter author edit)) m (moved after m (Enter author edit)) s
      record { seen = s.seen; front = let n = length-append m.journal (record { author = author; edit = edit } ∷ []) in let f = s.front in omega (arith, n, f) }
  sound_after m Publish s = record { seen = within-more (published_count m) (entry_count m) m.seen s.seen (let f = s.front in omega (arith, f)); front = omega arith }
  sound_after m (Look session) s =
      either IsSound (answer_to after why m (Look session)) m (moved after m (Look session)) s
      record { seen = within-set (published_count m) m.seen session (published_count m) s.seen (omega arith); front = s.front }
  sound_after m (Hear session count) s =
      tested W IsSound (nat_le (length m.seen) session) (nat_le count (published_count m)) (max (seen_by m session) count) NoSession Ahead m (moved after m (Hear session count)) s
      (λ l. record { seen = within-set (published_count m) m.seen session (max (seen_by m session) count) s.seen (max-le (within-seen (published_count m) m.seen session s.seen) (is_short count (published_count m) l)); front = s.front })
  sound_after m Checkpoint s =
      either IsSound (answer_to after why m Checkpoint) m (moved after m Checkpoint) s
      record { seen = within-more (published_count m) (entry_count m + 0) m.seen s.seen (let f = s.front in omega (arith, f)); front = omega arith }

  grows_after : (m : MachineRecord C E) (e : Event E) (k : ℕ) → IsSound m → seen_by m k ≤ seen_by (machine_after after why m e) k
  grows_after m (Enter author edit) k s = either (λ n. seen_by m k ≤ seen_by n k) (answer_to after why m (Enter author edit)) m (moved after m (Enter author edit)) (omega arith) (omega arith)
  grows_after m Publish k s = omega arith
  grows_after m (Look session) k s =
      either (λ n. seen_by m k ≤ seen_by n k) (answer_to after why m (Look session)) m (moved after m (Look session)) (omega arith)
      (set-grows m.seen session (published_count m) k (within-seen (published_count m) m.seen session s.seen))
  grows_after m (Hear session count) k s =
      either (λ n. seen_by m k ≤ seen_by n k) (answer_to after why m (Hear session count)) m (moved after m (Hear session count)) (omega arith)
      (set-grows m.seen session (max (seen_by m session) count) k (le-max_left (seen_by m session) count))
  grows_after m Checkpoint k s = either (λ n. seen_by m k ≤ seen_by n k) (answer_to after why m Checkpoint) m (moved after m Checkpoint) (omega arith) (omega arith)

  sound_run : (m : MachineRecord C E) (es : List (Event E)) → IsSound m → IsSound (machine_run after why m es)
  sound_run m [] s = s
  sound_run m (e ∷ es) s = sound_run (machine_after after why m e) es (sound_after m e s)

  grows_run : (m : MachineRecord C E) (es : List (Event E)) (k : ℕ) → IsSound m → seen_by m k ≤ seen_by (machine_run after why m es) k
  grows_run m [] k s = omega arith
  grows_run m (e ∷ es) k s = let one = grows_after m e k s in let rest = grows_run (machine_after after why m e) es k (sound_after m e s) in omega (arith, one, rest)

  run-append : (m : MachineRecord C E) (es more : List (Event E)) → machine_run after why m (es ++ more) ≡ machine_run after why (machine_run after why m es) more
  run-append m [] more = refl
  run-append m (e ∷ es) more = run-append (machine_after after why m e) es more

  opens : (opening : C) (limit sessions : ℕ) → IsSound (opening_machine {C = C} {E = E} opening limit sessions)
  opens opening limit sessions = record { seen = within-replicate 0 sessions; front = omega arith }

  pub seen_grows : (opening : C) (limit sessions k : ℕ) (es more : List (Event E)) → seen_by (machine_run after why (opening_machine opening limit sessions) es) k ≤ seen_by (machine_run after why (opening_machine opening limit sessions) (es ++ more)) k
  seen_grows opening limit sessions k es more =
      let first = opening_machine opening limit sessions in let m = machine_run after why first es in
      subst (λ n. seen_by m k ≤ seen_by n k) (sym (run-append first es more)) (grows_run m more k (sound_run first es (opens opening limit sessions)))

  pub published_front : (opening : C) (limit sessions : ℕ) (es : List (Event E)) → (machine_run after why (opening_machine opening limit sessions) es).published ≤ length (machine_run after why (opening_machine opening limit sessions) es).journal
  published_front opening limit sessions es = (sound_run (opening_machine opening limit sessions) es (opens opening limit sessions)).front

  abbrev look_none : Result (Answer W) StepFault
  look_none = Err NoSession

  look_count : (m : MachineRecord C E) (k count : ℕ) → answer_to after why m (Look k) ≡ Ok (Looked count) → published_count m ≡ count
  look_count m k count is = elim (nat_le (length m.seen) k) as (λ b. (if b then look_none else Ok (Looked (published_count m))) ≡ Ok (Looked count) → published_count m ≡ count) [ true ↦ λ p. cc | false ↦ λ p. cc ] is

  pub looked_on : (opening : C) (limit sessions k count : ℕ) (es : List (Event E)) → answer_to after why (machine_run after why (opening_machine opening limit sessions) es) (Look k) ≡ Ok (Looked count) → seen_by (machine_run after why (opening_machine opening limit sessions) es) k ≤ count
  looked_on opening limit sessions k count es is =
      let first = opening_machine opening limit sessions in let m = machine_run after why first es in
      subst (λ n. seen_by m k ≤ n) (look_count m k count is) (within-seen (published_count m) m.seen k (sound_run first es (opens opening limit sessions)).seen)
