use Rattle.std.proofs.Common.{◌≡◌, ◌+◌, min, sym, ℕ, false, List, nat_eq, ap, ◌∙◌}
use Rattle.std.specs.Set.{is_member}
use Rattle.cq_match.specs.Matched.{numbers}
use Rattle.cq_match.specs.Matcher.{without, lost}
use Rattle.cq_match.specs.Steps.Kept.{is_able}
use Rattle.cq_match.proofs.Going.{flag-unable, flag-without, flag-numbers}
use Rattle.cq_match.proofs.matcher.Matcher.remove.Goals as goal

pub erase-requires-clause-there : goal.erase-requires-clause-there
erase-requires-clause-there g c =
    ap (λ (ns : List ℕ). is_member nat_eq ns c.args.node) (ap numbers c.disable.ensures.nodes ∙ flag-numbers c.args.node false c.args.self.now.nodes) ∙ c.requires

pub erase-requires-clause-unable : goal.erase-requires-clause-unable
erase-requires-clause-unable g c = ap (is_able c.args.node) c.disable.ensures.nodes ∙ flag-unable c.args.node c.args.self.now.nodes

pub returns-clause-nodes : goal.returns-clause-nodes
returns-clause-nodes g c = c.erase.ensures.nodes ∙ ap (without c.args.node) c.disable.ensures.nodes ∙ flag-without c.args.node false c.args.self.now.nodes

pub returns-clause-counted : goal.returns-clause-counted
returns-clause-counted g c =
    let old = c.args.self.now in
    let same : lost old c.erase.new.self ≡ lost old c.disable.new.self = ap (λ (ns : List ℕ). lost old (record c.disable.new.self { matched = ns })) c.erase.ensures.kept in
    c.disable.ensures.counted ∙ ap (λ (n : ℕ). min (c.args.meter.now + n) 18446744073709551615) (sym same)
