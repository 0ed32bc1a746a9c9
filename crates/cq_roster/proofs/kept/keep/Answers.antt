use Rattle.cq_roster.proofs.Added.{kept_with, added_last, put_named, updates_made, from_ok}
use Rattle.cq_roster.proofs.kept.keep.Goals as goal

pub returns-clause-kept : goal.returns-clause-kept
returns-clause-kept g c =
    kept_with c.args.name.now c.args.place c.args.kept.now.order.entries c.insert.new.self.entries c.args.kept.now.numbers.entries c.insert-2.new.self.entries c.args.kept.now.next
    c.requires.kept
    (put_named c.in_ok-name.name c.args.name.now c.args.place c.args.kept.now.next c.args.kept.now.order.entries c.insert.new.self.entries c.in_ok-name.ensures c.in_ok-insert.ensures.entries)
    c.requires.absent c.requires.free c.in_ok-insert.ensures.ordered
    (updates_made c.in_ok-key.key c.args.name.now c.args.kept.now.numbers.entries c.reserve.new.self.entries c.insert-2.new.self.entries c.args.kept.now.next c.in_ok-key.ensures
    c.reserve.ensures.entries (from_ok c.insert-2.result c.unwrap-none.result c.unwrap-none.ensures c.insert-2.ensures.updates).0)

pub returns-clause-ok : goal.returns-clause-ok
returns-clause-ok g c =
    added_last c.args.name.now c.args.place c.args.kept.now.order.entries c.insert.new.self.entries c.args.kept.now.numbers.entries c.insert-2.new.self.entries c.args.kept.now.next
    c.requires.kept
    (put_named c.in_ok-name.name c.args.name.now c.args.place c.args.kept.now.next c.args.kept.now.order.entries c.insert.new.self.entries c.in_ok-name.ensures c.in_ok-insert.ensures.entries)
