use Rattle.std.proofs.Common.{◌≡◌, ◌<◌, ◌+◌, [], ◌∷◌, ◌++◌, length, refl, ap, sym, ◌∙◌, subst, arith}
use Rattle.std.proofs.lemmas.Result.{IfOk-from_err}
use Rattle.cq_desk.specs.Desk.{whole_journal}
use Rattle.cq_desk.specs.Replies.{journal_edits, reply_at}
use Rattle.cq_desk.specs.declared.journal.Entry.{Entry}
use Rattle.cq_desk.specs.declared.reply.Reply.TheVariants.{Entered, JournalFull, Not}
use Rattle.cq_desk.proofs.Accepting.{entered}
use Rattle.cq_desk.proofs.Admitting.{on_error, reply_full, reply_not, reply_entered, desk_as, desk_same, desk_more, in_step_as}
use Rattle.cq_desk.proofs.Basing.{whole_count, whole_more}
use Rattle.cq_desk.proofs.desk.Desk.enter.Goals as goal

pub returns-then-len-self-clause-reply : goal.returns-then-len-self-clause-reply
returns-then-len-self-clause-reply g c = let d = c.self.inside in let full = c.if-len-self.true in let is = c.len.ensures in let len = d.journal.ok.0 in
    subst (λ v. JournalFull ≡ reply_at g.L.Live.after g.L.Live.why (g.P.Publisher.opening v.publisher) (v.base + v.limit) (journal_edits v.journal) c.args.edit) c.self.view_is
    (reply_full g.L.Live.after g.L.Live.why (g.P.Publisher.opening d.publisher) (d.base + d.limit) (whole_journal d.base (g.P.Publisher.history d.publisher) d.journal.items) c.args.edit (let w = whole_count d.journal.items c.self.invariant in omega (arith, full, is, len, w)))

pub returns-then-len-self-clause-after : goal.returns-then-len-self-clause-after
returns-then-len-self-clause-after g c = desk_same c.args.self.now c.args.self.now refl

pub invariant_of-self : goal.invariant_of-self
invariant_of-self g c = let d = c.self.inside in let w = g.L.Live.content d.working in
    in_step_as g.L.Live.after g.L.Live.why w w (g.P.Publisher.opening d.publisher) (g.P.Publisher.history d.publisher) (g.P.Publisher.shown d.publisher) (g.P.Publisher.pending d.publisher) d.journal.items c.reserve.new.self.items d.limit d.base (d.base + d.handed) (d.base + d.published) refl c.reserve.ensures.items c.self.invariant

pub returns-in_err-reserve-clause-reply : goal.returns-in_err-reserve-clause-reply
returns-in_err-reserve-clause-reply g c = IfOk-from_err c.from_residual.result _ c.from_residual.ensures.0

pub returns-in_err-reserve-clause-after : goal.returns-in_err-reserve-clause-after
returns-in_err-reserve-clause-after g c = IfOk-from_err c.from_residual.result _ c.from_residual.ensures.0

pub returns-in_err-reserve-clause-err : goal.returns-in_err-reserve-clause-err
returns-in_err-reserve-clause-err g c = let d = c.self.inside in
    on_error c.from_residual.result (desk_as d.publisher d.journal.items c.reserve.new.self.items d.limit d.base (g.P.Publisher.history d.publisher) c.args.self.now c.reserve.ensures.items c.self.view_is)

pub returns-in_err-reserve-clause-room : goal.returns-in_err-reserve-clause-room
returns-in_err-reserve-clause-room g c = let d = c.self.inside in let short = c.if-len-self.false in let is = c.len.ensures in let len = d.journal.ok.0 in
    on_error c.from_residual.result (subst (λ v. length v.journal < v.base + v.limit) c.self.view_is (let w = whole_count d.journal.items c.self.invariant in omega (arith, short, is, len, w)))

pub invariant_of-self-in_err-why : goal.invariant_of-self-in_err-why
invariant_of-self-in_err-why g c = let d = c.self.inside in
    in_step_as g.L.Live.after g.L.Live.why (g.L.Live.content d.working) (g.L.Live.content c.admit.new.self) (g.P.Publisher.opening d.publisher) (g.P.Publisher.history d.publisher) (g.P.Publisher.shown d.publisher) (g.P.Publisher.pending d.publisher) d.journal.items c.reserve.new.self.items d.limit d.base (d.base + d.handed) (d.base + d.published) c.in_err-why.ensures.err c.reserve.ensures.items c.self.invariant

pub returns-in_err-why-clause-reply : goal.returns-in_err-why-clause-reply
returns-in_err-why-clause-reply g c = IfOk-from_err c.from_residual-in_err-why.result _ c.from_residual-in_err-why.ensures.0

pub returns-in_err-why-clause-after : goal.returns-in_err-why-clause-after
returns-in_err-why-clause-after g c = IfOk-from_err c.from_residual-in_err-why.result _ c.from_residual-in_err-why.ensures.0

pub returns-in_err-why-clause-err : goal.returns-in_err-why-clause-err
returns-in_err-why-clause-err g c = let d = c.self.inside in
    on_error c.from_residual-in_err-why.result (desk_as d.publisher d.journal.items c.reserve.new.self.items d.limit d.base (g.P.Publisher.history d.publisher) c.args.self.now c.reserve.ensures.items c.self.view_is)

pub returns-in_err-why-clause-room : goal.returns-in_err-why-clause-room
returns-in_err-why-clause-room g c = let d = c.self.inside in let short = c.if-len-self.false in let is = c.len.ensures in let len = d.journal.ok.0 in
    on_error c.from_residual-in_err-why.result (subst (λ v. length v.journal < v.base + v.limit) c.self.view_is (let w = whole_count d.journal.items c.self.invariant in omega (arith, short, is, len, w)))

pub invariant_of-self-in-Some-1 : goal.invariant_of-self-in-Some-1
invariant_of-self-in-Some-1 g c = let d = c.self.inside in let ok = c.in_ok-why.ensures in
    let same = g.met.L.Live.refused (g.L.Live.content d.working) c.args.edit c.in-Some.why (sym ok.answer ∙ c.in-Some.is) in
    in_step_as g.L.Live.after g.L.Live.why (g.L.Live.content d.working) (g.L.Live.content c.admit.new.self) (g.P.Publisher.opening d.publisher) (g.P.Publisher.history d.publisher) (g.P.Publisher.shown d.publisher) (g.P.Publisher.pending d.publisher) d.journal.items c.reserve.new.self.items d.limit d.base (d.base + d.handed) (d.base + d.published) (ok.ok ∙ same) c.reserve.ensures.items c.self.invariant

pub push_reserved-requires : goal.push_reserved-requires
push_reserved-requires g c = let room = c.in_ok-reserve.ensures.ok in omega (arith, room)

pub invariant_of-self-in-None : goal.invariant_of-self-in-None
invariant_of-self-in-None g c = let d = c.self.inside in let js = d.journal.items in let ok = c.in_ok-why.ensures in
    let e : Entry g.row.L-Edit.Denot = record { author = c.args.author; edit = c.args.edit } in
    let short = c.if-len-self.false in let is = c.len.ensures in let len = d.journal.ok.0 in
    entered g.L.Live.after g.L.Live.why (g.L.Live.content d.working) (g.L.Live.content c.admit.new.self) (g.P.Publisher.opening d.publisher) (g.P.Publisher.history d.publisher) (g.P.Publisher.shown d.publisher) (g.P.Publisher.pending d.publisher) (whole_journal d.base (g.P.Publisher.history d.publisher) js) (whole_journal d.base (g.P.Publisher.history d.publisher) c.push_reserved.new.self.items) e d.limit d.base (d.base + d.handed) (d.base + d.published) c.self.invariant
    (whole_more d.base (g.P.Publisher.history d.publisher) js c.push_reserved.new.self.items e (c.push_reserved.ensures.items ∙ ap (λ z. z ++ e ∷ []) c.reserve.ensures.items)) (let w = whole_count js c.self.invariant in omega (arith, short, is, len, w)) (let told = c.count-count.ensures in let view = ap (λ v. length v.journal) c.self.view_is in let left = c.if-count.false in let most = c.self.invariant.numbers in omega (arith, told, view, left, most)) (sym ok.answer ∙ c.in-None.is) ok.ok

pub returns-in-Some-clause-reply : goal.returns-in-Some-clause-reply
returns-in-Some-clause-reply g c = let d = c.self.inside in let short = c.if-len-self.false in let is = c.len.ensures in let len = d.journal.ok.0 in
    subst (λ v. Not c.in-Some.why ≡ reply_at g.L.Live.after g.L.Live.why (g.P.Publisher.opening v.publisher) (v.base + v.limit) (journal_edits v.journal) c.args.edit) c.self.view_is
    (reply_not g.L.Live.after g.L.Live.why (g.P.Publisher.opening d.publisher) (d.base + d.limit) (whole_journal d.base (g.P.Publisher.history d.publisher) d.journal.items) c.args.edit (g.L.Live.content d.working) c.in_ok-why.field-0 c.in-Some.why (let w = whole_count d.journal.items c.self.invariant in omega (arith, short, is, len, w)) c.self.invariant.works c.in_ok-why.ensures.answer c.in-Some.is)

pub returns-in-Some-clause-after : goal.returns-in-Some-clause-after
returns-in-Some-clause-after g c = let d = c.self.inside in
    desk_same c.args.self.now _ (desk_as d.publisher d.journal.items c.reserve.new.self.items d.limit d.base (g.P.Publisher.history d.publisher) c.args.self.now c.reserve.ensures.items c.self.view_is)

pub returns-in-None-clause-reply : goal.returns-in-None-clause-reply
returns-in-None-clause-reply g c = let d = c.self.inside in let short = c.if-len-self.false in let is = c.len.ensures in let len = d.journal.ok.0 in
    subst (λ v. Entered (c.count-count.result + 1) ≡ reply_at g.L.Live.after g.L.Live.why (g.P.Publisher.opening v.publisher) (v.base + v.limit) (journal_edits v.journal) c.args.edit) c.self.view_is
    (reply_entered g.L.Live.after g.L.Live.why (g.P.Publisher.opening d.publisher) (d.base + d.limit) (whole_journal d.base (g.P.Publisher.history d.publisher) d.journal.items) c.args.edit (g.L.Live.content d.working) c.in_ok-why.field-0 (c.count-count.result + 1) (let w = whole_count d.journal.items c.self.invariant in omega (arith, short, is, len, w)) c.self.invariant.works c.in_ok-why.ensures.answer c.in-None.is (ap (λ n. n + 1) (c.count-count.ensures ∙ sym (ap (λ v. length v.journal) c.self.view_is))))

pub returns-in-None-clause-after : goal.returns-in-None-clause-after
returns-in-None-clause-after g c = let d = c.self.inside in let e : Entry g.row.L-Edit.Denot = record { author = c.args.author; edit = c.args.edit } in
    desk_more d.publisher d.journal.items c.push_reserved.new.self.items d.limit d.base (g.P.Publisher.history d.publisher) e c.args.self.now (c.push_reserved.ensures.items ∙ ap (λ z. z ++ e ∷ []) c.reserve.ensures.items) c.self.view_is
