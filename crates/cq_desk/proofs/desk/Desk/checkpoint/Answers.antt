use Rattle.std.proofs.Common.{◌≡◌, ◌+◌, ◌<◌, ◌≤◌, length, ap, sym, ◌∙◌, subst, arith}
use Rattle.cq_desk.specs.Desk.{whole_journal}
use Rattle.cq_desk.specs.History.{edits_of}
use Rattle.cq_desk.proofs.Basing.{all_shown, checked, desk_checked, shown_all, whole_count, whole_new}
use Rattle.cq_desk.proofs.desk.Desk.checkpoint.Goals as goal

pub returns-then-self-len-clause-unpublished : goal.returns-then-self-len-clause-unpublished
returns-then-self-len-clause-unpublished g c = let d = c.self.inside in let w = whole_count d.journal.items c.self.invariant in let n = c.self.invariant.counts in
    let short = c.if-self-len.true in let is = c.len.ensures in let len = d.journal.ok.0 in
    let less : length (edits_of (g.P.Publisher.shown d.publisher)) < length (whole_journal d.base (g.P.Publisher.history d.publisher) d.journal.items) = omega (arith, w, n, short, is, len) in
    subst (λ v. length (edits_of (g.P.Publisher.shown v.publisher)) < length v.journal) c.self.view_is less

pub invariant_of-self : goal.invariant_of-self
invariant_of-self g c = let d = c.self.inside in let h = g.P.Publisher.history d.publisher in let w = whole_count d.journal.items c.self.invariant in
    let past = c.if-self-len.false in let is = c.len.ensures in let len = d.journal.ok.0 in
    let all : length (whole_journal d.base (g.P.Publisher.history d.publisher) d.journal.items) ≤ d.base + d.published = omega (arith, w, past, is, len) in
    let count = c.count-count.ensures ∙ sym (ap (λ v. length v.journal) c.self.view_is) in
    checked (whole_journal c.count-count.result h c.new.result.items) c.count-count.result (c.count-count.result + 0) (c.count-count.result + 0) all c.self.invariant
    (whole_new c.count-count.result h (whole_journal d.base (g.P.Publisher.history d.publisher) d.journal.items) c.new.result.items c.new.ensures.items count (all_shown all c.self.invariant)) count (omega arith) (omega arith)

pub returns-clause-ok : goal.returns-clause-ok
returns-clause-ok g c = let d = c.self.inside in let h = g.P.Publisher.history d.publisher in let w = whole_count d.journal.items c.self.invariant in
    let past = c.if-self-len.false in let is = c.len.ensures in let len = d.journal.ok.0 in
    let all : length (whole_journal d.base (g.P.Publisher.history d.publisher) d.journal.items) ≤ d.base + d.published = omega (arith, w, past, is, len) in
    let count = c.count-count.ensures ∙ sym (ap (λ v. length v.journal) c.self.view_is) in
    desk_checked d.publisher (whole_journal d.base (g.P.Publisher.history d.publisher) d.journal.items) (whole_journal c.count-count.result h c.new.result.items) d.limit d.base c.count-count.result c.args.self.now
    (whole_new c.count-count.result h (whole_journal d.base (g.P.Publisher.history d.publisher) d.journal.items) c.new.result.items c.new.ensures.items count (all_shown all c.self.invariant)) count c.self.view_is

pub returns-clause-published : goal.returns-clause-published
returns-clause-published g c = let d = c.self.inside in let w = whole_count d.journal.items c.self.invariant in
    let past = c.if-self-len.false in let is = c.len.ensures in let len = d.journal.ok.0 in
    let all : length (whole_journal d.base (g.P.Publisher.history d.publisher) d.journal.items) ≤ d.base + d.published = omega (arith, w, past, is, len) in
    subst (λ v. edits_of (g.P.Publisher.shown v.publisher) ≡ v.journal) c.self.view_is (shown_all all c.self.invariant)
