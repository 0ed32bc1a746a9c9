use Rattle.std.proofs.Common.{ℕ, Bool, nat_eq, List, sym, ap, ◌∙◌}
use Rattle.std.specs.Set.{is_member}
use Rattle.std.proofs.lemmas.Result.{on_ok_weaker}
use Rattle.cq_match.specs.Matched.{numbers}
use Rattle.cq_match.specs.Matcher.{without, with_number}
use Rattle.cq_match.specs.Steps.Kept.{is_able}
use Rattle.cq_match.proofs.Adding.{placed-there, placed-unable, ends-in, flagged-node, flagged-others, refused}
use Rattle.cq_match.proofs.matcher.Matcher.add.Goals as goal

pub fill-filled-requires-clause-there : goal.fill-filled-requires-clause-there
fill-filled-requires-clause-there g c =
    placed-there c.args.node c.args.posts c.put.new.self.nodes c.args.self.now.nodes c.in_ok-put.ensures.node c.in_ok-put.ensures.others

pub fill-filled-requires-clause-unable : goal.fill-filled-requires-clause-unable
fill-filled-requires-clause-unable g c =
    placed-unable c.args.node c.args.posts c.put.new.self.nodes c.args.self.now.nodes c.in_ok-put.ensures.node c.in_ok-put.ensures.others

pub fill-filled-requires-clause-ends : goal.fill-filled-requires-clause-ends
fill-filled-requires-clause-ends g c =
    ends-in c.args.node c.args.posts c.put.new.self.nodes c.args.self.now.nodes c.in_ok-put.ensures.node c.in_ok-put.ensures.others c.args.able c.args.edges.now c.requires.ends

pub erase-requires-clause-there : goal.erase-requires-clause-there
erase-requires-clause-there g c =
    let same = refused c.fill-filled.result (sym c.is_err.ensures.value ∙ c.if-is_err.true) c.fill-filled.ensures.err_nodes in
    ap (λ (ns : List (ℕ × ℕ × Bool)). is_member nat_eq (numbers ns) c.args.node) same
    ∙ placed-there c.args.node c.args.posts c.put.new.self.nodes c.args.self.now.nodes c.in_ok-put.ensures.node c.in_ok-put.ensures.others

pub erase-requires-clause-unable : goal.erase-requires-clause-unable
erase-requires-clause-unable g c =
    let same = refused c.fill-filled.result (sym c.is_err.ensures.value ∙ c.if-is_err.true) c.fill-filled.ensures.err_nodes in
    ap (is_able c.args.node) same ∙ placed-unable c.args.node c.args.posts c.put.new.self.nodes c.args.self.now.nodes c.in_ok-put.ensures.node c.in_ok-put.ensures.others

pub returns-else-is_err-clause-node : goal.returns-else-is_err-clause-node
returns-else-is_err-clause-node g c =
    on_ok_weaker c.fill-filled.result
    (λ same. ap (with_number c.args.node) same ∙ flagged-node c.args.node c.args.posts c.put.new.self.nodes c.args.self.now.nodes c.in_ok-put.ensures.node c.in_ok-put.ensures.others c.args.able)
    c.fill-filled.ensures.nodes

pub returns-else-is_err-clause-others : goal.returns-else-is_err-clause-others
returns-else-is_err-clause-others g c =
    on_ok_weaker c.fill-filled.result
    (λ same. ap (without c.args.node) same ∙ flagged-others c.args.node c.args.posts c.put.new.self.nodes c.args.self.now.nodes c.in_ok-put.ensures.node c.in_ok-put.ensures.others c.args.able)
    c.fill-filled.ensures.nodes
