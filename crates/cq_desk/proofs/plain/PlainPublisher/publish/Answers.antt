use Rattle.std.proofs.Common.{◌≡◌, ◌+◌, ◌-◌, [], ◌∷◌, ◌++◌, ◌<◌, length, drop, vec_len, vec_capacity, refl, ap, sym, ◌∙◌, subst, arith}
use Rattle.std.proofs.lemmas.List.{drop_all}
use Rattle.std.proofs.lemmas.Result.{IfOk-from_err}
use Rattle.cq_desk.specs.History.{grown}
use Rattle.cq_desk.specs.Plain.{IsPublished, cut_at}
use Rattle.cq_desk.proofs.Admitting.{on_error}
use Rattle.cq_desk.proofs.Cutting.{changed_over, cut_grown, cut_off}
use Rattle.cq_desk.proofs.Histories.{begins_itself, begins_same}
use Rattle.cq_desk.proofs.Taking.{published_on}
use Rattle.cq_desk.proofs.plain.PlainPublisher.publish.Goals as goal

pub returns-then-self-len-clause-begins : goal.returns-then-self-len-clause-begins
returns-then-self-len-clause-begins g c = begins_itself c.args.self.now.history

pub returns-then-self-len-clause-none : goal.returns-then-self-len-clause-none
returns-then-self-len-clause-none g c = let d = c.self.inside in let same = c.if-self-len.true in let is = c.len.ensures in let len = d.entries.ok.0 in
    sym (ap (λ v. v.pending) c.self.view_is) ∙ drop_all d.published d.entries.items (omega (arith, same, is, len))

pub invariant_of-self : goal.invariant_of-self
invariant_of-self g c = let d = c.self.inside in
    subst (λ ls. IsPublished g.L.Live.after (g.L.Live.content d.opening) (g.L.Live.content d.shown) (g.L.Live.content d.next) d.entries.items ls d.published d.taken) (sym c.reserve.ensures.items) c.self.invariant

pub returns-in_err-reserve-clause-opening : goal.returns-in_err-reserve-clause-opening
returns-in_err-reserve-clause-opening g c = ap (λ v. v.opening) c.self.view_is

pub returns-in_err-reserve-clause-begins : goal.returns-in_err-reserve-clause-begins
returns-in_err-reserve-clause-begins g c = let d = c.self.inside in
    let was : cut_at 0 c.reserve.new.self.items d.entries.items ≡ c.args.self.now.history = ap (λ z. cut_at 0 z d.entries.items) c.reserve.ensures.items ∙ ap (λ v. v.history) c.self.view_is in
    begins_same c.args.self.now.history (cut_at 0 c.reserve.new.self.items d.entries.items) was

pub returns-in_err-reserve-clause-together : goal.returns-in_err-reserve-clause-together
returns-in_err-reserve-clause-together g c = let d = c.self.inside in
    let was : cut_at 0 c.reserve.new.self.items d.entries.items ≡ c.args.self.now.history = ap (λ z. cut_at 0 z d.entries.items) c.reserve.ensures.items ∙ ap (λ v. v.history) c.self.view_is in
    ap (λ h. grown h (drop d.published d.entries.items)) was ∙ ap (λ v. grown c.args.self.now.history v.pending) c.self.view_is

pub returns-in_err-reserve-clause-none : goal.returns-in_err-reserve-clause-none
returns-in_err-reserve-clause-none g c = IfOk-from_err c.from_residual.result _ c.from_residual.ensures.0

pub returns-in_err-reserve-clause-all : goal.returns-in_err-reserve-clause-all
returns-in_err-reserve-clause-all g c = IfOk-from_err c.from_residual.result _ c.from_residual.ensures.0

pub returns-in_err-reserve-clause-refused : goal.returns-in_err-reserve-clause-refused
returns-in_err-reserve-clause-refused g c = let d = c.self.inside in
    let was : cut_at 0 c.reserve.new.self.items d.entries.items ≡ c.args.self.now.history = ap (λ z. cut_at 0 z d.entries.items) c.reserve.ensures.items ∙ ap (λ v. v.history) c.self.view_is in
    on_error c.from_residual.result was

pub loop-self-init : goal.loop-self-init
loop-self-init g c = let d = c.self.inside in
    (subst (λ ls. IsPublished g.L.Live.after (g.L.Live.content d.opening) (g.L.Live.content d.shown) (g.L.Live.content d.next) d.entries.items ls d.published d.taken) (sym c.reserve.ensures.items) c.self.invariant, refl, refl, refl, refl, refl)

pub index-requires : goal.index-requires
index-requires g c = let short = c.loop-self-test.true in let is = c.len-in-loop-self.ensures in omega (arith, short, is)

pub invariant_of-self-in_err-admit : goal.invariant_of-self-in_err-admit
invariant_of-self-in_err-admit g c = let d = c.loop-self.self-inside in let inv = c.loop-self.invariant in
    subst (λ o. IsPublished g.L.Live.after (g.L.Live.content d.opening) (g.L.Live.content d.shown) o d.entries.items d.lengths.items d.published d.taken) (sym c.in_err-admit.ensures.err) inv.0

pub returns-in_err-admit-clause-opening : goal.returns-in_err-admit-clause-opening
returns-in_err-admit-clause-opening g c = ap g.L.Live.content c.loop-self.invariant.1 ∙ ap (λ v. v.opening) c.self.view_is

pub returns-in_err-admit-clause-begins : goal.returns-in_err-admit-clause-begins
returns-in_err-admit-clause-begins g c = let d = c.loop-self.self-inside in let inv = c.loop-self.invariant in
    let was : cut_at 0 d.lengths.items d.entries.items ≡ c.args.self.now.history =
    ap (λ v. cut_at 0 v.items d.entries.items) inv.4 ∙ (ap (λ z. cut_at 0 z d.entries.items) c.reserve.ensures.items
    ∙ (ap (λ v. cut_at 0 c.self.inside.lengths.items v.items) inv.3 ∙ ap (λ v. v.history) c.self.view_is)) in
    begins_same c.args.self.now.history (cut_at 0 d.lengths.items d.entries.items) was

pub returns-in_err-admit-clause-together : goal.returns-in_err-admit-clause-together
returns-in_err-admit-clause-together g c = let d = c.loop-self.self-inside in let inv = c.loop-self.invariant in
    let was : cut_at 0 d.lengths.items d.entries.items ≡ c.args.self.now.history =
    ap (λ v. cut_at 0 v.items d.entries.items) inv.4 ∙ (ap (λ z. cut_at 0 z d.entries.items) c.reserve.ensures.items
    ∙ (ap (λ v. cut_at 0 c.self.inside.lengths.items v.items) inv.3 ∙ ap (λ v. v.history) c.self.view_is)) in
    let left : drop d.published d.entries.items ≡ c.args.self.now.pending =
    ap (λ n. drop n d.entries.items) inv.5 ∙ (ap (λ v. drop c.self.inside.published v.items) inv.3 ∙ ap (λ v. v.pending) c.self.view_is) in
    ap (λ h. grown h (drop d.published d.entries.items)) was ∙ ap (grown c.args.self.now.history) left

pub returns-in_err-admit-clause-none : goal.returns-in_err-admit-clause-none
returns-in_err-admit-clause-none g c = IfOk-from_err c.from_residual-in_err-admit.result _ c.from_residual-in_err-admit.ensures.0

pub returns-in_err-admit-clause-all : goal.returns-in_err-admit-clause-all
returns-in_err-admit-clause-all g c = IfOk-from_err c.from_residual-in_err-admit.result _ c.from_residual-in_err-admit.ensures.0

pub returns-in_err-admit-clause-refused : goal.returns-in_err-admit-clause-refused
returns-in_err-admit-clause-refused g c = let d = c.loop-self.self-inside in let inv = c.loop-self.invariant in
    let was : cut_at 0 d.lengths.items d.entries.items ≡ c.args.self.now.history =
    ap (λ v. cut_at 0 v.items d.entries.items) inv.4 ∙ (ap (λ z. cut_at 0 z d.entries.items) c.reserve.ensures.items
    ∙ (ap (λ v. cut_at 0 c.self.inside.lengths.items v.items) inv.3 ∙ ap (λ v. v.history) c.self.view_is)) in
    on_error c.from_residual-in_err-admit.result was

pub loop-self-smaller : goal.loop-self-smaller
loop-self-smaller g c = let d = c.loop-self.self-inside in let short = c.loop-self-test.true in let is = c.len-in-loop-self.ensures in let len = d.entries.ok.0 in
    let less : length d.entries.items - (d.taken + 1) < length d.entries.items - d.taken = omega (arith, short, is, len) in less

pub loop-self-preserved : goal.loop-self-preserved
loop-self-preserved g c = let d = c.loop-self.self-inside in let inv = c.loop-self.invariant in let short = c.loop-self-test.true in let is = c.len-in-loop-self.ensures in let len = d.entries.ok.0 in (
  published_on g.L.Live.after (g.L.Live.content d.opening) (g.L.Live.content d.shown) (g.L.Live.content d.next) (g.L.Live.content c.admit.new.self) d.entries.items d.lengths.items d.published d.taken c.index.result.now (omega (arith, short, is, len)) c.index.ensures c.in_ok-admit.ensures.ok inv.0,
  inv.1,
  inv.2,
  inv.3,
  inv.4,
  inv.5,
)

pub push_reserved-requires : goal.push_reserved-requires
push_reserved-requires g c = let room = c.in_ok-reserve.ensures.ok in subst (λ v. vec_len v < vec_capacity v) (sym c.loop-self.invariant.4) (omega (arith, room))

pub invariant_of-self-2 : goal.invariant_of-self-2
invariant_of-self-2 g c = let d = c.loop-self.self-inside in let inv = c.loop-self.invariant in
    let all : c.len-self-inside.result ≡ length d.entries.items = c.len-self-inside.ensures ∙ d.entries.ok.0 in
    let past = c.loop-self-test.false in let is = c.len-in-loop-self.ensures in let len = d.entries.ok.0 in let within = inv.0.taken_within in
    changed_over g.L.Live.after (g.L.Live.content d.opening) (g.L.Live.content d.shown) (g.L.Live.content d.next) (g.L.Live.content c.swap.new.x) (g.L.Live.content c.swap.new.y) d.entries.items d.lengths.items c.push_reserved.new.self.items d.published d.taken c.len-self-inside.result
    c.push_reserved.ensures.items all (omega (arith, past, is, len, within)) (ap g.L.Live.content c.swap.ensures.x_after) (ap g.L.Live.content c.swap.ensures.y_after) inv.0

pub returns-clause-opening : goal.returns-clause-opening
returns-clause-opening g c = ap g.L.Live.content c.loop-self.invariant.1 ∙ ap (λ v. v.opening) c.self.view_is

pub returns-clause-none : goal.returns-clause-none
returns-clause-none g c = let d = c.loop-self.self-inside in let inv = c.loop-self.invariant in
    let all : c.len-self-inside.result ≡ length d.entries.items = c.len-self-inside.ensures ∙ d.entries.ok.0 in
    drop_all c.len-self-inside.result d.entries.items (omega (arith, all))

pub returns-clause-begins : goal.returns-clause-begins
returns-clause-begins g c = let d = c.loop-self.self-inside in let inv = c.loop-self.invariant in
    let all : c.len-self-inside.result ≡ length d.entries.items = c.len-self-inside.ensures ∙ d.entries.ok.0 in
    let was : cut_at 0 d.lengths.items d.entries.items ≡ c.args.self.now.history =
    ap (λ v. cut_at 0 v.items d.entries.items) inv.4 ∙ (ap (λ z. cut_at 0 z d.entries.items) c.reserve.ensures.items
    ∙ (ap (λ v. cut_at 0 c.self.inside.lengths.items v.items) inv.3 ∙ ap (λ v. v.history) c.self.view_is)) in (
      drop d.published d.entries.items ∷ [],
      ap (λ z. z ++ drop d.published d.entries.items ∷ []) (sym was)
          ∙ sym (cut_off d.entries.items d.lengths.items c.push_reserved.new.self.items d.published c.len-self-inside.result c.push_reserved.ensures.items inv.0.last all),
    )

pub returns-clause-together : goal.returns-clause-together
returns-clause-together g c = let d = c.loop-self.self-inside in let inv = c.loop-self.invariant in
    let all : c.len-self-inside.result ≡ length d.entries.items = c.len-self-inside.ensures ∙ d.entries.ok.0 in
    let was : cut_at 0 d.lengths.items d.entries.items ≡ c.args.self.now.history =
    ap (λ v. cut_at 0 v.items d.entries.items) inv.4 ∙ (ap (λ z. cut_at 0 z d.entries.items) c.reserve.ensures.items
    ∙ (ap (λ v. cut_at 0 c.self.inside.lengths.items v.items) inv.3 ∙ ap (λ v. v.history) c.self.view_is)) in
    let left : drop d.published d.entries.items ≡ c.args.self.now.pending =
    ap (λ n. drop n d.entries.items) inv.5 ∙ (ap (λ v. drop c.self.inside.published v.items) inv.3 ∙ ap (λ v. v.pending) c.self.view_is) in
    let some = c.if-self-len.false in let is = c.len.ensures in let len = c.self.inside.entries.ok.0 in let same = inv.5 in let n = ap (λ v. length v.items) inv.3 in let within = inv.0.published_within in
    let short : d.published < length d.entries.items = omega (arith, some, is, len, same, n, within) in
    cut_grown d.entries.items d.lengths.items c.push_reserved.new.self.items d.published c.len-self-inside.result c.push_reserved.ensures.items inv.0.last all short
    ∙ (ap (λ h. grown h (drop d.published d.entries.items)) was ∙ ap (grown c.args.self.now.history) left)
