use Rattle.std.proofs.Common.{◌≡◌, ◌+◌, [], ◌∷◌, ◌++◌, length, take, refl, ap, sym, ◌∙◌, subst, append_assoc, arith, length-append}
use Rattle.std.proofs.lemmas.List.{append-nil}
use mathlib.Core.Logic.{inl, inr}
use Rattle.std.specs.Vec.Iter.{into_iter_items}
use Rattle.cq_desk.specs.Machine.{answers_to, machine_run}
use Rattle.cq_desk.proofs.Admitting.{no_error, an_error}
use Rattle.cq_desk.proofs.Replying.{nothing_left, tried_first}
use Rattle.cq_desk.proofs.Playing.{answered_on, stepped_on, stops_at}
use Rattle.cq_desk.proofs.floor.Floor.play.Goals as goal

pub loop-event-preserved : goal.loop-event-preserved
loop-event-preserved g c = let at = c.loop-event in let inv = at.invariant in let a = c.args.self.now in
    let e = c.in-Some.event in let told = c.in-Some-take_step.told in let new = c.push_reserved.new.self in
    let steps : into_iter_items at.event-iterator ≡ e ∷ into_iter_items c.next.new.self = c.in-Some.ensures.steps.0 in
    let gone = c.in-Some.ensures.steps.1 in
    let is : new.items ≡ at.answers.items ++ told ∷ [] = c.push_reserved.ensures.items in
    let kept = c.in-Some-take_step.ensures in
    let short : length (into_iter_items at.event-iterator) ≡ length (into_iter_items c.next.new.self) + 1 = ap length steps ∙ omega arith in
    let more : length new.items ≡ length at.answers.items + 1 = ap length is ∙ omega (arith, length-append at.answers.items (told ∷ [])) in
    let whole : length (at.yielded ++ e ∷ []) ≡ length at.yielded + 1 = omega (arith, length-append at.yielded (e ∷ [])) in
    let was = inv.1 in let same = inv.2 in let room = inv.3 in let len = c.push_reserved.ensures.len in let cap = c.push_reserved.ensures.capacity in (
      append_assoc at.yielded (e ∷ []) _ ∙ (ap (λ z. at.yielded ++ z) (sym steps) ∙ inv.0),
      omega (arith, was, gone, short),
      omega (arith, more, whole, same),
      omega (arith, room, short, len, cap),
      answered_on g.L.Live.after g.L.Live.why a at.self at.yielded e at.answers.items new.items told inv.5 inv.4 kept.0 is,
      stepped_on g.L.Live.after g.L.Live.why a at.self c.take_step.new.self at.yielded e inv.5 kept.1,
    )

pub returns-in_default-clause-stop : goal.returns-in_default-clause-stop
returns-in_default-clause-stop g c = let at = c.loop-event in let inv = at.invariant in let e = c.in-Some.event in let kept = c.in_default.ensures in
    let all = ap (λ z. at.yielded ++ z) (sym c.in-Some.ensures.steps.0) ∙ (inv.0 ∙ c.into_iter-event-iterator.ensures.into_iter_gives.0) in
    inr (stops_at g.L.Live.after g.L.Live.why at.self c.take_step.new.self at.yielded (into_iter_items c.next.new.self) c.args.events.items e at.answers.items kept.0 kept.1 all inv.2)

pub returns-then-is_err-clause-front : goal.returns-then-is_err-clause-front
returns-then-is_err-clause-front g c = let a = c.args.self.now in
    let none : c.reserve.new.self.items ≡ [] = c.reserve.ensures.items ∙ c.new-answers.ensures.items in
    subst (λ z. z ≡ answers_to g.L.Live.after g.L.Live.why a (take (length z) c.args.events.items)) (sym none) refl

pub returns-then-is_err-clause-after_front : goal.returns-then-is_err-clause-after_front
returns-then-is_err-clause-after_front g c = let a = c.args.self.now in
    let none : c.reserve.new.self.items ≡ [] = c.reserve.ensures.items ∙ c.new-answers.ensures.items in
    subst (λ z. a ≡ machine_run g.L.Live.after g.L.Live.why a (take (length z) c.args.events.items)) (sym none) refl

pub returns-then-is_err-clause-stop : goal.returns-then-is_err-clause-stop
returns-then-is_err-clause-stop g c = inl (c.reserve.ensures.items ∙ c.new-answers.ensures.items)

pub returns-in_default-clause-front : goal.returns-in_default-clause-front
returns-in_default-clause-front g c = let at = c.loop-event in let inv = at.invariant in let a = c.args.self.now in
    let rest = into_iter_items at.event-iterator in
    let whole : at.yielded ++ rest ≡ c.args.events.items = inv.0 ∙ c.into_iter-event-iterator.ensures.into_iter_gives.0 in
    inv.4 ∙ ap (answers_to g.L.Live.after g.L.Live.why a) (tried_first at.yielded rest c.args.events.items at.answers.items whole inv.2)

pub returns-in_default-clause-after_front : goal.returns-in_default-clause-after_front
returns-in_default-clause-after_front g c = let at = c.loop-event in let inv = at.invariant in let a = c.args.self.now in
    let rest = into_iter_items at.event-iterator in
    let whole : at.yielded ++ rest ≡ c.args.events.items = inv.0 ∙ c.into_iter-event-iterator.ensures.into_iter_gives.0 in
    c.in_default.ensures.0 ∙ (inv.5 ∙ ap (machine_run g.L.Live.after g.L.Live.why a) (tried_first at.yielded rest c.args.events.items at.answers.items whole inv.2))

pub returns-in_default-clause-rest : goal.returns-in_default-clause-rest
returns-in_default-clause-rest g c = let at = c.loop-event in let inv = at.invariant in
    let rest = into_iter_items at.event-iterator in
    let whole : at.yielded ++ rest ≡ c.args.events.items = inv.0 ∙ c.into_iter-event-iterator.ensures.into_iter_gives.0 in
    let one : length rest ≡ length (into_iter_items c.next.new.self) + 1 = ap length c.in-Some.ensures.steps.0 ∙ omega arith in
    let both = ap length whole in let n = length-append at.yielded rest in let same = inv.2 in omega (arith, one, both, n, same)

pub push_reserved-requires : goal.push_reserved-requires
push_reserved-requires g c = let at = c.loop-event in let room = at.invariant.3 in
    let one : length (into_iter_items at.event-iterator) ≡ length (into_iter_items c.next.new.self) + 1 = ap length c.in-Some.ensures.steps.0 ∙ omega arith in omega (arith, room, one)

pub returns-clause-answers : goal.returns-clause-answers
returns-clause-answers g c = let at = c.loop-event in let inv = at.invariant in let a = c.args.self.now in
    let none : into_iter_items at.event-iterator ≡ [] = nothing_left (into_iter_items at.event-iterator) (sym inv.1 ∙ c.in-None.ensures.steps.0) in
    let every : at.yielded ≡ c.args.events.items = sym (append-nil at.yielded) ∙ (ap (λ z. at.yielded ++ z) (sym none) ∙ (inv.0 ∙ c.into_iter-event-iterator.ensures.into_iter_gives.0)) in
    inv.4 ∙ ap (answers_to g.L.Live.after g.L.Live.why a) every

pub returns-clause-after : goal.returns-clause-after
returns-clause-after g c = let at = c.loop-event in let inv = at.invariant in let a = c.args.self.now in
    let none : into_iter_items at.event-iterator ≡ [] = nothing_left (into_iter_items at.event-iterator) (sym inv.1 ∙ c.in-None.ensures.steps.0) in
    let every : at.yielded ≡ c.args.events.items = sym (append-nil at.yielded) ∙ (ap (λ z. at.yielded ++ z) (sym none) ∙ (inv.0 ∙ c.into_iter-event-iterator.ensures.into_iter_gives.0)) in
    inv.5 ∙ ap (machine_run g.L.Live.after g.L.Live.why a) every

pub returns-then-is_err-clause-rest : goal.returns-then-is_err-clause-rest
returns-then-is_err-clause-rest g c = let none = ap length (c.reserve.ensures.items ∙ c.new-answers.ensures.items) in let fresh = c.new-answers.ensures.len in
    let full = an_error c.reserve.result c.if-is_err.ensures.value c.reserve.ensures.full in
    let count = c.len.ensures in let len = c.args.events.ok.0 in omega (arith, none, fresh, full, count, len)

pub loop-event-init : goal.loop-event-init
loop-event-init g c = let gives = c.into_iter-event-iterator.ensures.into_iter_gives in
    let none : c.reserve.new.self.items ≡ [] = c.reserve.ensures.items ∙ c.new-answers.ensures.items in
    let room = no_error c.reserve.result c.if-is_err.ensures.value c.reserve.ensures.ok in
    let count = c.len.ensures in let len = c.args.events.ok.0 in let n = ap length gives.0 in
    (refl, gives.1 ∙ (len ∙ sym n), ap length none, omega (arith, room, count, len, n), none, refl)
