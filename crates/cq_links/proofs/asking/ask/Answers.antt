use Rattle.std.proofs.Common.{◌∙◌, ◌++◌, map, ap, arith}
use Rattle.std.proofs.lemmas.List.{take_all}
use Rattle.cq_links.specs.Steps.Asking.{edge_of}
use Rattle.cq_links.proofs.Adding.{adds_answers, one_key}
use Rattle.cq_links.proofs.asking.ask.Goals as goal

pub returns-clause-edges : goal.returns-clause-edges
returns-clause-edges g c =
    let make = edge_of c.args.side c.args.place c.args.number in
    let all = take_all c.loop-key.key-index c.deref-key-items.result.now (omega arith) ∙ c.deref-key-items.ensures.value in
    adds_answers make c.args.index.now c.args.atom.now c.in_ok-partners.partners.items c.args.edges.now.items c.loop-key.edges.items
    (one_key c.args.side c.args.place c.args.number) c.in_ok-partners.ensures.exact c.in_ok-partners.ensures.rising
    (c.loop-key.invariant ∙ ap (λ ks. c.args.edges.now.items ++ map make ks) all)
