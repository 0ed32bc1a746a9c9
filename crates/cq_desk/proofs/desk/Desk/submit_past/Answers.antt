use Rattle.std.proofs.Common.{◌≡◌, ◌+◌, [], ◌∷◌, ◌++◌, length, drop, refl, ap, sym, ◌∙◌, subst, append_assoc, arith, length-append}
use Rattle.std.proofs.lemmas.List.{append-nil}
use Rattle.std.proofs.lemmas.Result.{IfOk-from_err}
use Rattle.std.specs.Vec.Iter.{into_iter_items}
use mathlib.Core.List.{IsPrefix}
use Rattle.cq_desk.specs.History.{edits_of, grown, BeginsWith, StandsLast}
use Rattle.cq_desk.specs.Replies.{journal_edits, accepted, entries_by, replies_at, reply_at}
use Rattle.cq_desk.proofs.Admitting.{on_error, desk_same}
use Rattle.cq_desk.proofs.Histories.{begins_same}
use Rattle.cq_desk.proofs.Replying.{accepted-more, edits_entered, nothing_left, published_last, replied_on, taken_in, tried_first}
use Rattle.cq_desk.proofs.desk.Desk.submit_past.Goals as goal

pub loop-edit-preserved : goal.loop-edit-preserved
loop-edit-preserved g c = let at = c.loop-edit in let inv = at.invariant in let a = c.args.self.now in
    let e = c.in-Some.edit in let r = c.in-Ok.reply in let new = c.push_reserved.new.self in
    let steps : into_iter_items at.edit-iterator ≡ e ∷ into_iter_items c.next.new.self = c.in-Some.ensures.steps.0 in
    let gone = c.in-Some.ensures.steps.1 in
    let is : new.items ≡ at.replies.items ++ r ∷ [] = c.push_reserved.ensures.items in
    let journal : at.self.journal ≡ a.journal ++ entries_by c.args.author (accepted at.yielded at.replies.items) = ap (λ v. v.journal) inv.5 in
    let kept = c.in-Ok.ensures in
    let short : length (into_iter_items at.edit-iterator) ≡ length (into_iter_items c.next.new.self) + 1 = ap length steps ∙ omega arith in
    let more : length new.items ≡ length at.replies.items + 1 = ap length is ∙ omega (arith, length-append at.replies.items (r ∷ [])) in
    let whole : length (at.yielded ++ e ∷ []) ≡ length at.yielded + 1 = omega (arith, length-append at.yielded (e ∷ [])) in
    let was = inv.1 in let same = inv.2 in let room = inv.3 in let len = c.push_reserved.ensures.len in let cap = c.push_reserved.ensures.capacity in (
      append_assoc at.yielded (e ∷ []) _ ∙ (ap (λ z. at.yielded ++ z) (sym steps) ∙ inv.0),
      omega (arith, was, gone, short),
      omega (arith, more, whole, same),
      omega (arith, room, short, len, cap),
      replied_on g.L.Live.after g.L.Live.why (g.P.Publisher.opening a.publisher) (a.base + a.limit) (journal_edits a.journal) (journal_edits at.self.journal) at.yielded at.replies.items new.items e r inv.4 (edits_entered c.args.author a.journal at.self.journal (accepted at.yielded at.replies.items) journal)
          (kept.reply ∙ ap (λ v. reply_at g.L.Live.after g.L.Live.why (g.P.Publisher.opening v.publisher) (v.base + v.limit) (journal_edits at.self.journal) e) inv.5) is,
      taken_in c.args.author a at.self c.enter.new.self at.yielded at.replies.items new.items e r inv.2 inv.5 kept.after is,
    )

pub returns-in_default-clause-submission : goal.returns-in_default-clause-submission
returns-in_default-clause-submission g c = let at = c.loop-edit in let inv = at.invariant in let a = c.args.self.now in let rs = at.replies.items in
    let rest = into_iter_items at.edit-iterator in
    let whole : at.yielded ++ rest ≡ c.args.asked.items = inv.0 ∙ c.into_iter-edit-iterator.ensures.into_iter_gives.0 in
    let one : length rest ≡ length (into_iter_items c.next.new.self) + 1 = ap length c.in-Some.ensures.steps.0 ∙ omega arith in
    let both = ap length whole in let n = length-append at.yielded rest in let same = inv.2 in
    let is = c.in_default.ensures.err ∙ inv.5 in
    record {
      limit = ap (λ v. v.limit) is;
      base = ap (λ v. v.base) is;
      opening = ap (λ v. g.P.Publisher.opening v.publisher) is;
      replies = inv.4 ∙ ap (replies_at g.L.Live.after g.L.Live.why (g.P.Publisher.opening a.publisher) (a.base + a.limit) (journal_edits a.journal)) (tried_first at.yielded rest c.args.asked.items rs whole inv.2);
      journal = ap (λ v. v.journal) is ∙ ap (λ z. a.journal ++ entries_by c.args.author z) (sym (accepted-more at.yielded rest rs inv.2) ∙ ap (λ z. accepted z rs) whole);
      tried = omega (arith, one, both, n, same);
      count = tt;
      shown = ap (λ v. v.publisher) is;
      last = tt;
      history = tt;
      all = tt;
      begins = begins_same (g.P.Publisher.history a.publisher) (g.P.Publisher.history c.enter.new.self.publisher) (ap (λ v. g.P.Publisher.history v.publisher) is);
    }

pub returns-in-Err-clause-submission : goal.returns-in-Err-clause-submission
returns-in-Err-clause-submission g c = let at = c.loop-edit in let inv = at.invariant in let a = c.args.self.now in let rs = at.replies.items in let kept = c.publish.ensures in
    let none : into_iter_items at.edit-iterator ≡ [] = nothing_left (into_iter_items at.edit-iterator) (sym inv.1 ∙ c.in-None.ensures.steps.0) in
    let every : at.yielded ≡ c.args.asked.items = sym (append-nil at.yielded) ∙ (ap (λ z. at.yielded ++ z) (sym none) ∙ (inv.0 ∙ c.into_iter-edit-iterator.ensures.into_iter_gives.0)) in
    record {
      limit = kept.limit ∙ ap (λ v. v.limit) inv.5;
      base = kept.base ∙ ap (λ v. v.base) inv.5;
      opening = kept.opening ∙ ap (λ v. g.P.Publisher.opening v.publisher) inv.5;
      replies = inv.4 ∙ ap (replies_at g.L.Live.after g.L.Live.why (g.P.Publisher.opening a.publisher) (a.base + a.limit) (journal_edits a.journal)) (tried_first at.yielded [] c.args.asked.items rs (append-nil at.yielded ∙ every) inv.2);
      journal = kept.journal ∙ (ap (λ v. v.journal) inv.5 ∙ ap (λ z. a.journal ++ entries_by c.args.author (accepted z rs)) every);
      tried = inv.2 ∙ ap length every;
      count = tt;
      shown = c.in-Err.ensures.refused ∙ ap (λ v. g.P.Publisher.shown v.publisher) inv.5;
      last = tt;
      history = tt;
      all = tt;
      begins = subst (BeginsWith (g.P.Publisher.history c.publish.new.self.publisher)) (ap (λ v. g.P.Publisher.history v.publisher) inv.5) kept.begins;
    }

pub returns-in-Ok-publish-clause-submission : goal.returns-in-Ok-publish-clause-submission
returns-in-Ok-publish-clause-submission g c = let at = c.loop-edit in let inv = at.invariant in let a = c.args.self.now in let rs = at.replies.items in let kept = c.publish.ensures in let now = c.publish.new.self in let done = c.in-Ok-publish.ensures in
    let none : into_iter_items at.edit-iterator ≡ [] = nothing_left (into_iter_items at.edit-iterator) (sym inv.1 ∙ c.in-None.ensures.steps.0) in
    let every : at.yielded ≡ c.args.asked.items = sym (append-nil at.yielded) ∙ (ap (λ z. at.yielded ++ z) (sym none) ∙ (inv.0 ∙ c.into_iter-edit-iterator.ensures.into_iter_gives.0)) in
    let es = entries_by c.args.author (accepted c.args.asked.items rs) in
    let taken : at.self.journal ≡ a.journal ++ es = ap (λ v. v.journal) inv.5 ∙ ap (λ z. a.journal ++ entries_by c.args.author (accepted z rs)) every in
    let h = g.P.Publisher.history a.publisher in
    let was : g.P.Publisher.history at.self.publisher ≡ h = ap (λ v. g.P.Publisher.history v.publisher) inv.5 in
    let told : IsPrefix (edits_of h ++ g.P.Publisher.pending a.publisher) a.journal = subst (λ p. IsPrefix (edits_of (g.P.Publisher.history p) ++ g.P.Publisher.pending p) a.journal) c.publisher.ensures.same c.publisher.ensures.told in
    let grew : g.P.Publisher.history now.publisher ≡ grown h (drop (length (edits_of h)) at.self.journal) = done.history ∙ ap (λ k. grown k (drop (length (edits_of k)) at.self.journal)) was in
    record {
      limit = kept.limit ∙ ap (λ v. v.limit) inv.5;
      base = kept.base ∙ ap (λ v. v.base) inv.5;
      opening = kept.opening ∙ ap (λ v. g.P.Publisher.opening v.publisher) inv.5;
      replies = inv.4 ∙ ap (replies_at g.L.Live.after g.L.Live.why (g.P.Publisher.opening a.publisher) (a.base + a.limit) (journal_edits a.journal)) (tried_first at.yielded [] c.args.asked.items rs (append-nil at.yielded ∙ every) inv.2);
      journal = kept.journal ∙ taken;
      tried = inv.2 ∙ ap length every;
      count = done.count ∙ ap length (sym kept.journal);
      shown = ap edits_of done.shown ∙ (done.all ∙ sym kept.journal);
      last = subst (StandsLast es) (sym done.shown) (published_last h (g.P.Publisher.history now.publisher) (g.P.Publisher.pending a.publisher) a.journal at.self.journal es told taken grew);
      history = grew ∙ ap (λ js. grown h (drop (length (edits_of h)) js)) (sym kept.journal);
      all = done.shown;
      begins = subst (BeginsWith (g.P.Publisher.history now.publisher)) was kept.begins;
    }

pub returns-in_err-reserve-clause-submission : goal.returns-in_err-reserve-clause-submission
returns-in_err-reserve-clause-submission g c = IfOk-from_err c.from_residual.result _ c.from_residual.ensures.0

pub returns-in_err-reserve-clause-passed : goal.returns-in_err-reserve-clause-passed
returns-in_err-reserve-clause-passed g c = IfOk-from_err c.from_residual.result _ c.from_residual.ensures.0

pub returns-in_err-reserve-clause-err : goal.returns-in_err-reserve-clause-err
returns-in_err-reserve-clause-err g c = on_error c.from_residual.result refl

pub returns-in_err-reserve-clause-unpassed : goal.returns-in_err-reserve-clause-unpassed
returns-in_err-reserve-clause-unpassed g c = on_error c.from_residual.result refl

pub loop-edit-init : goal.loop-edit-init
loop-edit-init g c = let gives = c.into_iter-edit-iterator.ensures.into_iter_gives in
    let none : c.reserve.new.self.items ≡ [] = c.reserve.ensures.items ∙ c.new-replies.ensures.items in
    let room = c.in_ok-reserve.ensures.ok in let count = c.len.ensures in let len = c.args.asked.ok.0 in let n = ap length gives.0 in
    (refl, gives.1 ∙ (len ∙ sym n), ap length none, omega (arith, room, count, len, n), none, desk_same c.args.self.now c.args.self.now refl)

pub push_reserved-requires : goal.push_reserved-requires
push_reserved-requires g c = let at = c.loop-edit in let room = at.invariant.3 in
    let one : length (into_iter_items at.edit-iterator) ≡ length (into_iter_items c.next.new.self) + 1 = ap length c.in-Some.ensures.steps.0 ∙ omega arith in omega (arith, room, one)

pub returns-in-Ok-publish-clause-passed : goal.returns-in-Ok-publish-clause-passed
returns-in-Ok-publish-clause-passed g c = let at = c.loop-edit in let a = c.args.self.now in let gate = c.let_pass.new.self in
    subst (λ n. g.G.Checkpoint.passed c.args.gate.now n (length (edits_of (g.P.Publisher.shown a.publisher))) gate) (sym (ap length c.publish.ensures.journal))
    (subst (λ v. g.G.Checkpoint.passed c.args.gate.now (length at.self.journal) (length (edits_of (g.P.Publisher.shown v.publisher))) gate) at.invariant.5 c.let_pass.ensures)

pub returns-in-Err-clause-passed : goal.returns-in-Err-clause-passed
returns-in-Err-clause-passed g c = let at = c.loop-edit in let a = c.args.self.now in let gate = c.let_pass.new.self in
    subst (λ n. g.G.Checkpoint.passed c.args.gate.now n (length (edits_of (g.P.Publisher.shown a.publisher))) gate) (sym (ap length c.publish.ensures.journal))
    (subst (λ v. g.G.Checkpoint.passed c.args.gate.now (length at.self.journal) (length (edits_of (g.P.Publisher.shown v.publisher))) gate) at.invariant.5 c.let_pass.ensures)
