use Rattle.std.proofs.Common.{◌≡◌, ◌<◌, ◌++◌, ◌∷◌, [], refl, sym, arith, length, length-append}
use Rattle.csv.specs.Reading.{Reached, reader_config}
use Rattle.csv.specs.Records.{fields_of}
use Rattle.csv.proofs.ReadFacts.{rows-end, rows-more}
use Rattle.csv.specs.declared.parser.State.TheVariants as st
use Rattle.cq_csv.specs.Steps.Csv.{bytes_of, text_left}
use Rattle.cq_csv.proofs.Csv.{are_all, are_all_by_count}
use Rattle.cq_csv.proofs.lines.count_left.Goals as goal

pub loop-place-init : goal.loop-place-init
unfolding Reached
loop-place-init c =
    let s = c.requires.start in
    record { read = []; behind = record { plain = s.plain; rest = text_left c.args.reader.now; source = s.source; reached = (sym s.state, refl) }; count = refl }

pub returns-then-not-branch-clause-count : goal.returns-then-not-branch-clause-count
returns-then-not-branch-clause-count c =
    let i = c.loop-place.invariant in
    let cfg = reader_config c.args.reader.now in
    let none = rows-end bytes_of c.loop-place.reader c.next_record.new.reader (fields_of c.next_record.new.fields) cfg i.behind.rest i.behind.plain.config i.behind.source (rw c.if-not-branch.true at c.in_ok-next_record.ensures.read) in
    rw (are_all cfg (text_left c.args.reader.now) i.read _ i.behind.rest i.behind.reached none) (sym i.count)

pub loop-place-preserved : goal.loop-place-preserved
loop-place-preserved c =
    let i = c.loop-place.invariant in
    let cfg = reader_config c.args.reader.now in
    let f = fields_of c.next_record.new.fields in
    let m = rows-more bytes_of c.loop-place.reader c.next_record.new.reader f cfg st.StartRecord (text_left c.args.reader.now) i.behind.rest i.read i.behind.plain.config i.behind.source i.behind.reached (rw c.if-not-branch.false at c.in_ok-next_record.ensures.read) in
    record {
      read = i.read ++ (f ∷ []);
      behind = record { plain = rw i.behind.plain.config at (c.in_ok-next_record.ensures.plain c.if-not-branch.false); rest = m.0; source = m.1; reached = m.2 };
      count = omega (arith, i.count, length-append i.read (f ∷ []));
    }

pub returns-clause-count : goal.returns-clause-count
returns-clause-count c =
    let i = c.loop-place.invariant in
    let at : c.loop-place.place ≡ c.args.most = omega (arith, c.loop-place-test.false, c.loop-place.auto.place-end) in
    let text = text_left c.args.reader.now in
    let many : length text < length i.read = omega (arith, i.count, at, c.requires.most) in
    rw (are_all_by_count (reader_config c.args.reader.now) text i.read _ i.behind.rest i.behind.reached many) (omega (arith, i.count, at))
