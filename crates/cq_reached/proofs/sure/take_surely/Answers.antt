use Rattle.std.proofs.Common.{map, arith}
use Rattle.std.proofs.lemmas.Bool.{true≢false, false≢true}
use Rattle.std.proofs.lemmas.List.{drop_all}
use Rattle.cq_reached.proofs.Taking.{leads-begin, leads-more, leads-end}
use Rattle.cq_reached.proofs.sure.take_surely.Goals as goal

pub loop-name-preserved : goal.loop-name-preserved
loop-name-preserved g c =
    let pool = c.args.board.now in
    let names = c.args.names.now in
    record {
      within = c.in_ok-take_next.ensures.within;
      choice = c.in_ok-take_next.ensures.choice c.if-not-branch.false;
      leads = leads-more (λ name. name.now) pool (map (λ name. name.now) names) c.loop-name.reach.taken.items c.take_next.new.reach.taken.items names c.loop-name.name-index c.name-item.result (omega arith) c.name-item.is
          (c.in_ok-take_next.ensures.next c.if-not-branch.false) c.loop-name.invariant.leads;
    }

pub loop-name-init : goal.loop-name-init
loop-name-init g c = record {
  within = c.requires.within;
  choice = c.requires.choice;
  leads = leads-begin c.args.board.now (map (λ name. name.now) c.args.names.now) c.args.reach.now.taken.items c.requires.none;
}

pub take_next-requires-clause-choice : goal.take_next-requires-clause-choice
take_next-requires-clause-choice g c = c.loop-name.invariant.choice

pub returns-then-not-branch-clause-undecided : goal.returns-then-not-branch-clause-undecided
returns-then-not-branch-clause-undecided g c told = c.in_ok-take_next.ensures.undecided c.if-not-branch.true

pub returns-then-not-branch-clause-taken : goal.returns-then-not-branch-clause-taken
returns-then-not-branch-clause-taken g c told = absurd (false≢true told)

pub returns-then-not-branch-clause-choice : goal.returns-then-not-branch-clause-choice
returns-then-not-branch-clause-choice g c told = absurd (false≢true told)

pub returns-clause-undecided : goal.returns-clause-undecided
returns-clause-undecided g c told = absurd (true≢false told)

pub returns-clause-taken : goal.returns-clause-taken
returns-clause-taken g c told =
    let names = c.args.names.now in
    let i = c.loop-name.name-index in
    leads-end (λ name. name.now) c.args.board.now (map (λ name. name.now) names) c.loop-name.reach.taken.items names i (drop_all i names c.loop-name-test.false) c.loop-name.invariant.leads

pub returns-clause-choice : goal.returns-clause-choice
returns-clause-choice g c told = c.loop-name.invariant.choice
