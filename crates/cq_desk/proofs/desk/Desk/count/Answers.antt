use Rattle.std.proofs.Common.{◌≡◌, ◌+◌, length, ap, ◌∙◌, arith}
use Rattle.cq_desk.specs.Desk.{whole_journal}
use Rattle.cq_desk.proofs.Basing.{whole_count}
use Rattle.cq_desk.proofs.desk.Desk.count.Goals as goal

pub overflow_add-result : goal.overflow_add-result
overflow_add-result g c = let d = c.self.inside in let w = whole_count d.journal.items c.self.invariant in let most = c.self.invariant.numbers in let is = c.len.ensures in let len = d.journal.ok.0 in
    omega (arith, w, most, is, len)

pub returns : goal.returns
returns g c = let d = c.self.inside in let w = whole_count d.journal.items c.self.invariant in let is = c.len.ensures in let len = d.journal.ok.0 in
    let all : d.base + c.len.result ≡ length (whole_journal d.base (g.P.Publisher.history d.publisher) d.journal.items) = omega (arith, w, is, len) in
    all ∙ ap (λ v. length v.journal) c.self.view_is
