use Rattle.std.proofs.Common.{◌∙◌, sym}
use Rattle.cq_report.proofs.Finds.{gives_none, gives_wanted}
use Rattle.cq_report.proofs.finding.find_next.Goals as goal

pub returns-then-is_enough : goal.returns-then-is_enough
returns-then-is_enough g c = gives_none c.args.left c.args.finder.now.values c.args.finder.now.to_come c.args.finder.now.to_come (sym c.is_enough.ensures ∙ c.if-is_enough.true)

pub returns : goal.returns
returns g c =
    gives_wanted c.args.left c.advance.result c.advance.new.self.values c.advance.new.self.to_come c.args.finder.now.to_come (sym c.is_enough.ensures ∙ c.if-is_enough.false) c.advance.ensures
