use Rattle.std.proofs.Common.{◌≡◌, ◌++◌, ◌∷◌, [], refl, inl, inr, sym, arith, drop, Some, ℕ, ◌-◌, ◌⊎◌, length-append}
use Rattle.std.proofs.lemmas.List.{drop_all}
use Rattle.csv.specs.Reading.{Reached, records, strip_bom}
use Rattle.csv.specs.Records.{fields_of}
use Rattle.csv.proofs.ReadFacts.{rows-end, rows-more}
use Rattle.csv.specs.declared.parser.State.TheVariants as st
use Rattle.cq_csv.specs.declared.fault.Wrong.TheVariants.{NoMemory}
use Rattle.cq_csv.specs.Csv.{CsvRecord, config_of, header_count, records_fault, row_of_record}
use Rattle.cq_csv.specs.Steps.Csv.{bytes_of, fault_at, text_left}
use Rattle.cq_csv.proofs.Csv.{are_all, are_all_by_count, are_first, bad_behind, place_behind, read_more, strip_bom-length, told_fault}
use Rattle.cq_csv.proofs.records.push_rows.Goals as goal

pub loop-place-init : goal.loop-place-init
unfolding Reached
loop-place-init g c =
    let s = c.requires.start in
    record {
      read = [];
      behind = record { plain = s.plain; rest = text_left c.args.reader.now; source = s.source; reached = (sym s.state, sym c.requires.text) };
      count = refl;
      good = rw (drop_all {X = CsvRecord} (header_count c.args.layout) [] (omega arith)) (λ line. refl);
      rows = rw (drop_all {X = CsvRecord} (header_count c.args.layout) [] (omega arith)) c.requires.rows;
    }

pub returns-then-not-branch-clause-good : goal.returns-then-not-branch-clause-good
returns-then-not-branch-clause-good g c =
    let i = c.loop-place.invariant in
    let cfg = config_of c.args.layout in
    let none = rows-end bytes_of c.loop-place.reader c.next_record.new.reader (fields_of c.next_record.new.fields) cfg i.behind.rest i.behind.plain.config i.behind.source (rw c.if-not-branch.true at c.in_ok-next_record.ensures.read) in
    rw (are_all cfg (strip_bom c.args.bytes.now) i.read _ i.behind.rest i.behind.reached none) i.good

pub returns-then-not-branch-clause-rows : goal.returns-then-not-branch-clause-rows
returns-then-not-branch-clause-rows g c =
    let i = c.loop-place.invariant in
    let cfg = config_of c.args.layout in
    let none = rows-end bytes_of c.loop-place.reader c.next_record.new.reader (fields_of c.next_record.new.fields) cfg i.behind.rest i.behind.plain.config i.behind.source (rw c.if-not-branch.true at c.in_ok-next_record.ensures.read) in
    rw (are_all cfg (strip_bom c.args.bytes.now) i.read _ i.behind.rest i.behind.reached none) i.rows

pub fault_of-requires : goal.fault_of-requires
fault_of-requires g c =
    let i = c.loop-place.invariant in
    let cfg = config_of c.args.layout in
    let h = header_count c.args.layout in
    let text = strip_bom c.args.bytes.now in
    let f = fields_of c.next_record.new.fields in
    let m = rows-more bytes_of c.loop-place.reader c.next_record.new.reader f cfg st.StartRecord text i.behind.rest i.read i.behind.plain.config i.behind.source i.behind.reached (rw c.if-not-branch.false at c.in_ok-next_record.ensures.read) in
    let first = are_first cfg text (i.read ++ (f ∷ [])) _ m.0 m.2 in
    let low = rw c.header_count-first.ensures at c.in-Err.ensures.behind in
    rw (c.header_count-first.ensures, first.whole) (place_behind h i.read first.more f c.loop-place.place i.count low)

pub returns-in-Err-clause-fault : goal.returns-in-Err-clause-fault
returns-in-Err-clause-fault g c =
    let i = c.loop-place.invariant in
    let cfg = config_of c.args.layout in
    let h = header_count c.args.layout in
    let text = strip_bom c.args.bytes.now in
    let f = fields_of c.next_record.new.fields in
    let m = rows-more bytes_of c.loop-place.reader c.next_record.new.reader f cfg st.StartRecord text i.behind.rest i.read i.behind.plain.config i.behind.source i.behind.reached (rw c.if-not-branch.false at c.in_ok-next_record.ensures.read) in
    let first = are_first cfg text (i.read ++ (f ∷ [])) _ m.0 m.2 in
    let low = rw c.header_count-first.ensures at c.in-Err.ensures.behind in
    let index = c.loop-place.place - h in
    let w = c.in-Err.wrong in
    let is : (w ≡ NoMemory) ⊎ ((line : ℕ) → records_fault line c.args.arity (drop h (records cfg text)) ≡ Some (fault_at line index w)) = elim c.in-Err.ensures.wrong [
      | inl e ↦ inl e
      | inr e ↦ inr (λ line. rw first.whole (bad_behind line c.args.arity h i.read first.more f c.loop-place.place w i.good i.count low e))
    ]
    in
    told_fault c.args.arity c.args.layout c.args.bytes.now index w c.fault_of.result is (rw c.header_count-first.ensures at c.fault_of.ensures)

pub loop-place-preserved : goal.loop-place-preserved
loop-place-preserved g c =
    let i = c.loop-place.invariant in
    let cfg = config_of c.args.layout in
    let h = header_count c.args.layout in
    let text = strip_bom c.args.bytes.now in
    let f = fields_of c.next_record.new.fields in
    let m = rows-more bytes_of c.loop-place.reader c.next_record.new.reader f cfg st.StartRecord text i.behind.rest i.read i.behind.plain.config i.behind.source i.behind.reached (rw c.if-not-branch.false at c.in_ok-next_record.ensures.read) in
    let row = rw c.header_count-first.ensures at c.in_default.ensures.row in
    let header = rw c.header_count-first.ensures at c.in_default.ensures.header in
    let more = read_more c.args.arity (row_of_record c.args.relation.now) h i.read f c.loop-place.place c.loop-place.rows.items c.push_row.new.rows.items i.count i.good i.rows row header in
    record {
      read = i.read ++ (f ∷ []);
      behind = record { plain = rw i.behind.plain.config at (c.in_ok-next_record.ensures.plain c.if-not-branch.false); rest = m.0; source = m.1; reached = m.2 };
      count = omega (arith, i.count, length-append i.read (f ∷ []));
      good = more.0;
      rows = more.1;
    }

pub returns-clause-good : goal.returns-clause-good
returns-clause-good g c =
    let i = c.loop-place.invariant in
    rw (are_all_by_count (config_of c.args.layout) (strip_bom c.args.bytes.now) i.read _ i.behind.rest i.behind.reached (omega (arith, i.count, strip_bom-length c.args.bytes.now))) i.good

pub returns-clause-rows : goal.returns-clause-rows
returns-clause-rows g c =
    let i = c.loop-place.invariant in
    rw (are_all_by_count (config_of c.args.layout) (strip_bom c.args.bytes.now) i.read _ i.behind.rest i.behind.reached (omega (arith, i.count, strip_bom-length c.args.bytes.now))) i.rows
