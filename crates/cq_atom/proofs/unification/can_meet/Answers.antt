use Rattle.std.proofs.Common.{rules, ◌≡◌, sym, ◌∙◌, true, false}
use Rattle.cq_atom.proofs.Meets.{IsClosed, meets_agree_left, meets_agree_across}
use Rattle.cq_atom.proofs.Closes.{closes, third_tells}
use Rattle.cq_atom.proofs.Glue.{false_case}
use Rattle.cq_atom.proofs.Never.{never, meet-even}
use Rattle.cq_atom.specs.Steps.Meets.{CanMeet}
use Rattle.cq_atom.proofs.unification.can_meet.Goals as goal
use Rattle.cq_atom.proofs.unification.can_meet.Goals.{then-agree, else-agree}

pub returns-then-agree-2 : goal.returns-then-agree-2
returns-then-agree-2 g c =
    let xs = c.args.a.now in
    let ys = c.args.b.now in
    let ls = c.tie-2.new.labels in
    let closed : IsClosed ls xs ys = closes xs ys c.number.new.labels c.tie.new.labels ls c.if-a-b.false (search rules) c.number.ensures c.tie.ensures c.tie-2.ensures in
    elim c.if-agree.branch [
      | then-agree w ↦ third_tells xs ys ls closed c.agree-then-agree-2.result (c.agree.ensures.valid w.if-agree.true) c.agree-then-agree-2.ensures.valid (c.agree.ensures.tells.0 w.if-agree.true) (w.agree-then-agree.ensures.tells.0 (sym w.value-is ∙ c.if-agree-2.true)) c.agree-then-agree-2.ensures.tells
      | else-agree w ↦ let e : false ≡ true = sym w.if-agree.false ∙ sym w.value-is ∙ c.if-agree-2.true in cc
    ]

pub returns-else-agree-2 : goal.returns-else-agree-2
returns-else-agree-2 g c =
    let xs = c.args.a.now in
    let ys = c.args.b.now in
    let ls = c.tie-2.new.labels in
    let closed : IsClosed ls xs ys = closes xs ys c.number.new.labels c.tie.new.labels ls c.if-a-b.false (search rules) c.number.ensures c.tie.ensures c.tie-2.ensures in (
      λ e. let k : false ≡ true = sym c.if-agree-2.false ∙ e in cc,
      λ m. elim c.if-agree.branch [
        | then-agree w ↦ w.value-is ∙ w.agree-then-agree.ensures.tells.1 (meets_agree_across ls xs ys closed m)
        | else-agree w ↦ let e : false ≡ true = sym w.if-agree.false ∙ c.agree.ensures.tells.1 (meets_agree_left ls xs ys closed m) in cc
      ],
    )

pub returns-then-a-b : goal.returns-then-a-b
returns-then-a-b g c =
    false_case (CanMeet c.args.a.now c.args.b.now) (λ m. c.if-a-b.true (meet-even c.args.a.now c.args.b.now m))

pub returns-then-not-may_meet_all : goal.returns-then-not-may_meet_all
returns-then-not-may_meet_all g c =
    never (CanMeet c.args.a.now c.args.b.now) (λ m. sym c.if-not-may_meet_all.true ∙ c.may_meet_all.ensures m)
