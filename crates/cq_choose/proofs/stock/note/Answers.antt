use Rattle.std.proofs.Common.{◌<◌, length, sym, arith}
use Rattle.std.proofs.lemmas.Bool.Decides.{nat_tests}
use Rattle.cq_choose.proofs.Kept.{noted-at}
use Rattle.cq_choose.proofs.stock.note.Goals as goal

pub returns-in_ok-push : goal.returns-in_ok-push
returns-in_ok-push g c =
    let low : c.args.number < length c.args.suppliers.now.items = grind (arith, nat_tests, c.in-Some.ensures.variant) in
    noted-at (λ members. members.items) c.args.suppliers.now.items c.args.number c.args.member c.in-Some.members.now c.push.new.self low (sym c.in-Some.ensures.value) c.in_ok-push.ensures.items
