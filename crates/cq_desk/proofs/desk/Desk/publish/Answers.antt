use Rattle.std.proofs.Common.{◌≡◌, ◌+◌, ◌-◌, ◌<◌, ◌≤◌, ◌^◌, ◌++◌, length, take, refl, ap, sym, ◌∙◌, subst, arith, length-take}
use Rattle.std.proofs.lemmas.Result.{IfOk-from_err}
use Rattle.cq_desk.specs.Desk.{whole_journal}
use Rattle.cq_desk.specs.History.{edits_of, BeginsWith}
use Rattle.cq_desk.proofs.Admitting.{on_error}
use Rattle.cq_desk.proofs.Handing.{all_told, rest_told, handed_none, handed_on, published_all, published_none}
use Rattle.cq_desk.proofs.Histories.{told_length, same_told, begins_same, told_front}
use Rattle.cq_desk.proofs.Basing.{based_within, step_as, whole_as, whole_at, whole_count, whole_on}
use Rattle.cq_desk.proofs.desk.Desk.publish.Goals as goal

pub loop-self-init : goal.loop-self-init
loop-self-init g c = (c.self.invariant, refl, refl, refl, refl, refl, refl)

pub index-entry-requires : goal.index-entry-requires
index-entry-requires g c = let short = c.loop-self-test.true in let len = c.len.ensures in omega (arith, short, len)

pub append-requires : goal.append-requires
append-requires g c = let d = c.loop-self.self-inside in
    let h = edits_of (g.P.Publisher.history d.publisher) in
    let p = g.P.Publisher.pending d.publisher in
    let inv = c.loop-self.invariant.0 in let js = (whole_journal d.base (g.P.Publisher.history d.publisher) d.journal.items) in
    let n : length h + length p ≡ length (take (d.base + d.handed) js) = told_length h p (take (d.base + d.handed) js) inv.told in
    let m = length-take (d.base + d.handed) js in let w = whole_count d.journal.items inv in let most = inv.numbers in let len = d.journal.ok.0 in let is = c.len.ensures in
    let o : c.len.result < 2 ^ 64 = c.len.type_inv in
    let t : d.handed < c.len.result = c.loop-self-test.true in
    let u : d.base + d.handed < 2 ^ 64 - 1 = omega (arith, t, w, most, len, is) in
    let v : length h + length p ≤ d.base + d.handed = omega (arith, n, m) in
    omega (arith, u, v)

pub loop-self-smaller : goal.loop-self-smaller
loop-self-smaller g c = let d = c.loop-self.self-inside in let short = c.loop-self-test.true in let is = c.len.ensures in let len = d.journal.ok.0 in
    let less : length d.journal.items - (d.handed + 1) < length d.journal.items - d.handed = omega (arith, short, is, len) in less

pub loop-self-preserved : goal.loop-self-preserved
loop-self-preserved g c = let d = c.loop-self.self-inside in let inv = c.loop-self.invariant in let kept = c.in_ok-append.ensures in
    let short = c.loop-self-test.true in let is = c.len.ensures in let len = d.journal.ok.0 in (
      step_as (whole_journal d.base (g.P.Publisher.history c.append.new.self) d.journal.items) (d.base + (d.handed + 1)) (ap (λ k. whole_journal d.base k d.journal.items) kept.history) (omega arith) (
          handed_on g.L.Live.after g.L.Live.why (g.L.Live.content d.working) (g.P.Publisher.opening d.publisher) (g.P.Publisher.opening c.append.new.self) (g.P.Publisher.history d.publisher) (g.P.Publisher.history c.append.new.self) (g.P.Publisher.shown d.publisher) (g.P.Publisher.shown c.append.new.self) (g.P.Publisher.pending d.publisher) (g.P.Publisher.pending c.append.new.self) (whole_journal d.base (g.P.Publisher.history d.publisher) d.journal.items) d.limit d.base (d.base + d.handed) (d.base + d.published) c.index-entry.result.now c.in_ok-edit.edit
          kept.opening kept.history kept.shown kept.ok c.in_ok-edit.ensures (c.index-entry.ensures ∙ sym (whole_at d.base (g.P.Publisher.history d.publisher) d.journal.items d.handed c.index-entry.result.now (based_within inv.0))) (let w = whole_count d.journal.items inv.0 in omega (arith, short, is, len, w)) inv.0),
      inv.1,
      inv.2,
      kept.opening ∙ inv.3,
      kept.history ∙ inv.4,
      kept.shown ∙ inv.5,
      inv.6,
    )

pub invariant_of-self : goal.invariant_of-self
invariant_of-self g c = c.loop-self.invariant.0

pub invariant_of-self-in_err-append : goal.invariant_of-self-in_err-append
invariant_of-self-in_err-append g c = let d = c.loop-self.self-inside in let inv = c.loop-self.invariant in let kept = c.in_err-append.ensures in
    step_as (whole_journal d.base (g.P.Publisher.history c.append.new.self) d.journal.items) (d.base + d.handed) (ap (λ k. whole_journal d.base k d.journal.items) kept.history) refl (
    handed_none g.L.Live.after g.L.Live.why (g.L.Live.content d.working) (g.P.Publisher.opening d.publisher) (g.P.Publisher.opening c.append.new.self) (g.P.Publisher.history d.publisher) (g.P.Publisher.history c.append.new.self) (g.P.Publisher.shown d.publisher) (g.P.Publisher.shown c.append.new.self) (g.P.Publisher.pending d.publisher) (g.P.Publisher.pending c.append.new.self) (whole_journal d.base (g.P.Publisher.history d.publisher) d.journal.items) d.limit d.base (d.base + d.handed) (d.base + d.published) kept.opening kept.history kept.shown kept.err inv.0)

pub invariant_of-self-in_err-publish : goal.invariant_of-self-in_err-publish
invariant_of-self-in_err-publish g c = let d = c.loop-self.self-inside in let inv = c.loop-self.invariant in let kept = c.in_err-publish.ensures in
    step_as (whole_journal d.base (g.P.Publisher.history c.publish.new.self) d.journal.items) (d.base + d.handed) (whole_on d.base (g.P.Publisher.history d.publisher) (g.P.Publisher.history c.publish.new.self) d.journal.items kept.begins (based_within inv.0)) refl (
    published_none g.L.Live.after g.L.Live.why (g.L.Live.content d.working) (g.P.Publisher.opening d.publisher) (g.P.Publisher.opening c.publish.new.self) (g.P.Publisher.history d.publisher) (g.P.Publisher.history c.publish.new.self) (g.P.Publisher.shown d.publisher) (g.P.Publisher.shown c.publish.new.self) (g.P.Publisher.pending d.publisher) (g.P.Publisher.pending c.publish.new.self) (whole_journal d.base (g.P.Publisher.history d.publisher) d.journal.items) d.limit d.base (d.base + d.handed) (d.base + d.published) kept.opening kept.together kept.begins kept.refused inv.0)

pub invariant_of-self-2 : goal.invariant_of-self-2
invariant_of-self-2 g c = let d = c.loop-self.self-inside in let inv = c.loop-self.invariant in let kept = c.in_ok-publish.ensures in
    let past = c.loop-self-test.false in let is = c.len.ensures in let len = d.journal.ok.0 in let within = inv.0.handed_within in
    let w = whole_count d.journal.items inv.0 in let all : d.base + d.handed ≡ length (whole_journal d.base (g.P.Publisher.history d.publisher) d.journal.items) = omega (arith, past, is, len, within, w) in
    step_as (whole_journal d.base (g.P.Publisher.history c.publish.new.self) d.journal.items) (d.base + d.handed) (whole_on d.base (g.P.Publisher.history d.publisher) (g.P.Publisher.history c.publish.new.self) d.journal.items kept.begins (based_within inv.0)) refl (
    published_all g.L.Live.after g.L.Live.why (g.L.Live.content d.working) (g.P.Publisher.opening d.publisher) (g.P.Publisher.opening c.publish.new.self) (g.P.Publisher.history d.publisher) (g.P.Publisher.history c.publish.new.self) (g.P.Publisher.shown d.publisher) (g.P.Publisher.shown c.publish.new.self) (g.P.Publisher.pending d.publisher) (g.P.Publisher.pending c.publish.new.self) (whole_journal d.base (g.P.Publisher.history d.publisher) d.journal.items) d.limit d.base (d.base + d.handed) (d.base + d.published) kept.opening kept.together kept.none kept.all all inv.0)

pub returns-in_err-edit-clause-journal : goal.returns-in_err-edit-clause-journal
returns-in_err-edit-clause-journal g c = let inv = c.loop-self.invariant in whole_as inv.6 inv.4 (ap (λ v. v.items) inv.1) ∙ ap (λ v. v.journal) c.self.view_is

pub returns-in_err-edit-clause-limit : goal.returns-in_err-edit-clause-limit
returns-in_err-edit-clause-limit g c = c.loop-self.invariant.2 ∙ ap (λ v. v.limit) c.self.view_is

pub returns-in_err-edit-clause-base : goal.returns-in_err-edit-clause-base
returns-in_err-edit-clause-base g c = c.loop-self.invariant.6 ∙ ap (λ v. v.base) c.self.view_is

pub returns-in_err-edit-clause-opening : goal.returns-in_err-edit-clause-opening
returns-in_err-edit-clause-opening g c = c.loop-self.invariant.3 ∙ ap (λ v. g.P.Publisher.opening v.publisher) c.self.view_is

pub returns-in_err-edit-clause-count : goal.returns-in_err-edit-clause-count
returns-in_err-edit-clause-count g c = IfOk-from_err c.from_residual.result _ c.from_residual.ensures.0

pub returns-in_err-edit-clause-history : goal.returns-in_err-edit-clause-history
returns-in_err-edit-clause-history g c = IfOk-from_err c.from_residual.result _ c.from_residual.ensures.0

pub returns-in_err-edit-clause-all : goal.returns-in_err-edit-clause-all
returns-in_err-edit-clause-all g c = IfOk-from_err c.from_residual.result _ c.from_residual.ensures.0

pub returns-in_err-edit-clause-shown : goal.returns-in_err-edit-clause-shown
returns-in_err-edit-clause-shown g c = IfOk-from_err c.from_residual.result _ c.from_residual.ensures.0

pub returns-in_err-edit-clause-refused : goal.returns-in_err-edit-clause-refused
returns-in_err-edit-clause-refused g c = on_error c.from_residual.result (c.loop-self.invariant.5 ∙ ap (λ v. g.P.Publisher.shown v.publisher) c.self.view_is)

pub returns-in_err-edit-clause-begins : goal.returns-in_err-edit-clause-begins
returns-in_err-edit-clause-begins g c = let d = c.loop-self.self-inside in
    begins_same (g.P.Publisher.history c.args.self.now.publisher) (g.P.Publisher.history d.publisher) (c.loop-self.invariant.4 ∙ ap (λ v. g.P.Publisher.history v.publisher) c.self.view_is)

pub returns-in_err-edit-clause-told : goal.returns-in_err-edit-clause-told
returns-in_err-edit-clause-told g c = let d = c.loop-self.self-inside in let inv = c.loop-self.invariant in
    let t = edits_of (g.P.Publisher.history d.publisher) ++ g.P.Publisher.pending d.publisher in
    told_front t t (whole_journal d.base (g.P.Publisher.history d.publisher) d.journal.items) c.args.self.now.journal (d.base + d.handed) refl inv.0.told (whole_as inv.6 inv.4 (ap (λ v. v.items) inv.1) ∙ ap (λ v. v.journal) c.self.view_is)

pub returns-in_err-append-clause-journal : goal.returns-in_err-append-clause-journal
returns-in_err-append-clause-journal g c = let inv = c.loop-self.invariant in whole_as inv.6 (c.in_err-append.ensures.history ∙ inv.4) (ap (λ v. v.items) inv.1) ∙ ap (λ v. v.journal) c.self.view_is

pub returns-in_err-append-clause-limit : goal.returns-in_err-append-clause-limit
returns-in_err-append-clause-limit g c = c.loop-self.invariant.2 ∙ ap (λ v. v.limit) c.self.view_is

pub returns-in_err-append-clause-base : goal.returns-in_err-append-clause-base
returns-in_err-append-clause-base g c = c.loop-self.invariant.6 ∙ ap (λ v. v.base) c.self.view_is

pub returns-in_err-append-clause-opening : goal.returns-in_err-append-clause-opening
returns-in_err-append-clause-opening g c = c.in_err-append.ensures.opening ∙ (c.loop-self.invariant.3 ∙ ap (λ v. g.P.Publisher.opening v.publisher) c.self.view_is)

pub returns-in_err-append-clause-count : goal.returns-in_err-append-clause-count
returns-in_err-append-clause-count g c = IfOk-from_err c.from_residual-in_err-append.result _ c.from_residual-in_err-append.ensures.0

pub returns-in_err-append-clause-history : goal.returns-in_err-append-clause-history
returns-in_err-append-clause-history g c = IfOk-from_err c.from_residual-in_err-append.result _ c.from_residual-in_err-append.ensures.0

pub returns-in_err-append-clause-all : goal.returns-in_err-append-clause-all
returns-in_err-append-clause-all g c = IfOk-from_err c.from_residual-in_err-append.result _ c.from_residual-in_err-append.ensures.0

pub returns-in_err-append-clause-shown : goal.returns-in_err-append-clause-shown
returns-in_err-append-clause-shown g c = IfOk-from_err c.from_residual-in_err-append.result _ c.from_residual-in_err-append.ensures.0

pub returns-in_err-append-clause-refused : goal.returns-in_err-append-clause-refused
returns-in_err-append-clause-refused g c = on_error c.from_residual-in_err-append.result (c.in_err-append.ensures.shown ∙ (c.loop-self.invariant.5 ∙ ap (λ v. g.P.Publisher.shown v.publisher) c.self.view_is))

pub returns-in_err-append-clause-begins : goal.returns-in_err-append-clause-begins
returns-in_err-append-clause-begins g c =
    begins_same (g.P.Publisher.history c.args.self.now.publisher) (g.P.Publisher.history c.append.new.self) (c.in_err-append.ensures.history ∙ (c.loop-self.invariant.4 ∙ ap (λ v. g.P.Publisher.history v.publisher) c.self.view_is))

pub returns-in_err-append-clause-told : goal.returns-in_err-append-clause-told
returns-in_err-append-clause-told g c = let d = c.loop-self.self-inside in let inv = c.loop-self.invariant in let now = c.append.new.self in
    told_front (edits_of (g.P.Publisher.history d.publisher) ++ g.P.Publisher.pending d.publisher) (edits_of (g.P.Publisher.history now) ++ g.P.Publisher.pending now) (whole_journal d.base (g.P.Publisher.history d.publisher) d.journal.items) c.args.self.now.journal (d.base + d.handed)
    (ap (λ h. edits_of h ++ g.P.Publisher.pending now) c.in_err-append.ensures.history ∙ ap (λ q. edits_of (g.P.Publisher.history d.publisher) ++ q) c.in_err-append.ensures.err) inv.0.told (whole_as inv.6 inv.4 (ap (λ v. v.items) inv.1) ∙ ap (λ v. v.journal) c.self.view_is)

pub returns-in_err-publish-clause-journal : goal.returns-in_err-publish-clause-journal
returns-in_err-publish-clause-journal g c = let d = c.loop-self.self-inside in let inv = c.loop-self.invariant in whole_on d.base (g.P.Publisher.history d.publisher) (g.P.Publisher.history c.publish.new.self) d.journal.items c.publish.ensures.begins (based_within inv.0) ∙ whole_as inv.6 inv.4 (ap (λ v. v.items) inv.1) ∙ ap (λ v. v.journal) c.self.view_is

pub returns-in_err-publish-clause-limit : goal.returns-in_err-publish-clause-limit
returns-in_err-publish-clause-limit g c = c.loop-self.invariant.2 ∙ ap (λ v. v.limit) c.self.view_is

pub returns-in_err-publish-clause-base : goal.returns-in_err-publish-clause-base
returns-in_err-publish-clause-base g c = c.loop-self.invariant.6 ∙ ap (λ v. v.base) c.self.view_is

pub returns-in_err-publish-clause-opening : goal.returns-in_err-publish-clause-opening
returns-in_err-publish-clause-opening g c = c.in_err-publish.ensures.opening ∙ (c.loop-self.invariant.3 ∙ ap (λ v. g.P.Publisher.opening v.publisher) c.self.view_is)

pub returns-in_err-publish-clause-count : goal.returns-in_err-publish-clause-count
returns-in_err-publish-clause-count g c = IfOk-from_err c.from_residual-in_err-publish.result _ c.from_residual-in_err-publish.ensures.0

pub returns-in_err-publish-clause-history : goal.returns-in_err-publish-clause-history
returns-in_err-publish-clause-history g c = IfOk-from_err c.from_residual-in_err-publish.result _ c.from_residual-in_err-publish.ensures.0

pub returns-in_err-publish-clause-all : goal.returns-in_err-publish-clause-all
returns-in_err-publish-clause-all g c = IfOk-from_err c.from_residual-in_err-publish.result _ c.from_residual-in_err-publish.ensures.0

pub returns-in_err-publish-clause-shown : goal.returns-in_err-publish-clause-shown
returns-in_err-publish-clause-shown g c = IfOk-from_err c.from_residual-in_err-publish.result _ c.from_residual-in_err-publish.ensures.0

pub returns-in_err-publish-clause-refused : goal.returns-in_err-publish-clause-refused
returns-in_err-publish-clause-refused g c = on_error c.from_residual-in_err-publish.result (c.in_err-publish.ensures.refused ∙ (c.loop-self.invariant.5 ∙ ap (λ v. g.P.Publisher.shown v.publisher) c.self.view_is))

pub returns-in_err-publish-clause-begins : goal.returns-in_err-publish-clause-begins
returns-in_err-publish-clause-begins g c = subst (BeginsWith (g.P.Publisher.history c.publish.new.self)) (c.loop-self.invariant.4 ∙ ap (λ v. g.P.Publisher.history v.publisher) c.self.view_is) c.publish.ensures.begins

pub returns-in_err-publish-clause-told : goal.returns-in_err-publish-clause-told
returns-in_err-publish-clause-told g c = let d = c.loop-self.self-inside in let inv = c.loop-self.invariant in let now = c.publish.new.self in
    told_front (edits_of (g.P.Publisher.history d.publisher) ++ g.P.Publisher.pending d.publisher) (edits_of (g.P.Publisher.history now) ++ g.P.Publisher.pending now) (whole_journal d.base (g.P.Publisher.history d.publisher) d.journal.items) c.args.self.now.journal (d.base + d.handed)
    (same_told (g.P.Publisher.history d.publisher) (g.P.Publisher.history now) (g.P.Publisher.pending d.publisher) (g.P.Publisher.pending now) c.publish.ensures.together) inv.0.told (whole_as inv.6 inv.4 (ap (λ v. v.items) inv.1) ∙ ap (λ v. v.journal) c.self.view_is)

pub returns-clause-journal : goal.returns-clause-journal
returns-clause-journal g c = let d = c.loop-self.self-inside in let inv = c.loop-self.invariant in whole_on d.base (g.P.Publisher.history d.publisher) (g.P.Publisher.history c.publish.new.self) d.journal.items c.publish.ensures.begins (based_within inv.0) ∙ whole_as inv.6 inv.4 (ap (λ v. v.items) inv.1) ∙ ap (λ v. v.journal) c.self.view_is

pub returns-clause-limit : goal.returns-clause-limit
returns-clause-limit g c = c.loop-self.invariant.2 ∙ ap (λ v. v.limit) c.self.view_is

pub returns-clause-base : goal.returns-clause-base
returns-clause-base g c = c.loop-self.invariant.6 ∙ ap (λ v. v.base) c.self.view_is

pub returns-clause-opening : goal.returns-clause-opening
returns-clause-opening g c = c.in_ok-publish.ensures.opening ∙ (c.loop-self.invariant.3 ∙ ap (λ v. g.P.Publisher.opening v.publisher) c.self.view_is)

pub returns-clause-begins : goal.returns-clause-begins
returns-clause-begins g c = subst (BeginsWith (g.P.Publisher.history c.publish.new.self)) (c.loop-self.invariant.4 ∙ ap (λ v. g.P.Publisher.history v.publisher) c.self.view_is) c.publish.ensures.begins

pub returns-clause-told : goal.returns-clause-told
returns-clause-told g c = let d = c.loop-self.self-inside in let inv = c.loop-self.invariant in let now = c.publish.new.self in
    told_front (edits_of (g.P.Publisher.history d.publisher) ++ g.P.Publisher.pending d.publisher) (edits_of (g.P.Publisher.history now) ++ g.P.Publisher.pending now) (whole_journal d.base (g.P.Publisher.history d.publisher) d.journal.items) c.args.self.now.journal (d.base + d.handed)
    (same_told (g.P.Publisher.history d.publisher) (g.P.Publisher.history now) (g.P.Publisher.pending d.publisher) (g.P.Publisher.pending now) c.publish.ensures.together) inv.0.told (whole_as inv.6 inv.4 (ap (λ v. v.items) inv.1) ∙ ap (λ v. v.journal) c.self.view_is)

pub returns-clause-count : goal.returns-clause-count
returns-clause-count g c = let d = c.loop-self.self-inside in let inv = c.loop-self.invariant in
    let past = c.loop-self-test.false in let is = c.len.ensures in let len = d.journal.ok.0 in let within = inv.0.handed_within in
    let w = whole_count d.journal.items inv.0 in let all : d.base + d.handed ≡ length (whole_journal d.base (g.P.Publisher.history d.publisher) d.journal.items) = omega (arith, past, is, len, within, w) in
    all ∙ ap length (whole_as inv.6 inv.4 (ap (λ v. v.items) inv.1) ∙ ap (λ v. v.journal) c.self.view_is)

pub returns-clause-history : goal.returns-clause-history
returns-clause-history g c = let d = c.loop-self.self-inside in let inv = c.loop-self.invariant in let now = c.publish.new.self in let kept = c.in_ok-publish.ensures in
    let past = c.loop-self-test.false in let is = c.len.ensures in let len = d.journal.ok.0 in let within = inv.0.handed_within in
    let w = whole_count d.journal.items inv.0 in let all : d.base + d.handed ≡ length (whole_journal d.base (g.P.Publisher.history d.publisher) d.journal.items) = omega (arith, past, is, len, within, w) in
    rest_told (g.P.Publisher.history d.publisher) (g.P.Publisher.history c.args.self.now.publisher) (g.P.Publisher.history now) (g.P.Publisher.pending d.publisher) (g.P.Publisher.pending now) (whole_journal d.base (g.P.Publisher.history d.publisher) d.journal.items) c.args.self.now.journal (d.base + d.handed)
    kept.together kept.none all inv.0.told (inv.4 ∙ ap (λ v. g.P.Publisher.history v.publisher) c.self.view_is) (whole_as inv.6 inv.4 (ap (λ v. v.items) inv.1) ∙ ap (λ v. v.journal) c.self.view_is)

pub returns-clause-all : goal.returns-clause-all
returns-clause-all g c = let d = c.loop-self.self-inside in let inv = c.loop-self.invariant in let now = c.publish.new.self in let kept = c.in_ok-publish.ensures in
    let past = c.loop-self-test.false in let is = c.len.ensures in let len = d.journal.ok.0 in let within = inv.0.handed_within in
    let w = whole_count d.journal.items inv.0 in let all : d.base + d.handed ≡ length (whole_journal d.base (g.P.Publisher.history d.publisher) d.journal.items) = omega (arith, past, is, len, within, w) in
    all_told (g.P.Publisher.history d.publisher) (g.P.Publisher.history now) (g.P.Publisher.pending d.publisher) (g.P.Publisher.pending now) (whole_journal d.base (g.P.Publisher.history d.publisher) d.journal.items) c.args.self.now.journal (d.base + d.handed) kept.together kept.none all inv.0.told (whole_as inv.6 inv.4 (ap (λ v. v.items) inv.1) ∙ ap (λ v. v.journal) c.self.view_is)

pub returns-clause-shown : goal.returns-clause-shown
returns-clause-shown g c = c.in_ok-publish.ensures.all
