use Rattle.std.proofs.Common.{◌≡◌, [], ◌∷◌, ◌++◌, ap, ◌∙◌}
use Rattle.cq_desk.specs.Plain.{cut_at}
use Rattle.cq_desk.proofs.Cutting.{appended, cut-append}
use Rattle.cq_desk.proofs.plain.PlainPublisher.append.Goals as goal

pub invariant_of-self-2 : goal.invariant_of-self-2
invariant_of-self-2 g c = let d = c.self.inside in
    let is : c.push.new.self.items ≡ d.entries.items ++ record { author = c.args.author; edit = c.args.edit } ∷ [] = c.in_ok-push.ensures.items in
    appended g.L.Live.after (g.L.Live.content d.opening) (g.L.Live.content d.shown) (g.L.Live.content d.next) d.entries.items c.push.new.self.items _ d.lengths.items d.published d.taken is c.self.invariant

pub returns-clause-history : goal.returns-clause-history
returns-clause-history g c = let d = c.self.inside in
    let is : c.push.new.self.items ≡ d.entries.items ++ record { author = c.args.author; edit = c.args.edit } ∷ [] = c.in_ok-push.ensures.items in
    ap (cut_at 0 d.lengths.items) is ∙ (cut-append 0 d.lengths.items d.entries.items _ c.self.invariant.lengths_within ∙ ap (λ v. v.history) c.self.view_is)

pub returns-clause-shown : goal.returns-clause-shown
returns-clause-shown g c = returns-clause-history g c
