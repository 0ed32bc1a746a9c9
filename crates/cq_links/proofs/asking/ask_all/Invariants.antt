use Rattle.std.proofs.Common.{◌≡◌, ◌+◌, length, take, min}
use Rattle.std.specs.List.{sum_by}
use Rattle.cq_index.specs.Index.{candidates_of}
use Rattle.cq_links.specs.Steps.Asking.{edge_of, Adds}
use Rattle.cq_links.proofs.Adding.{IsAnswerBefore}
use Rattle.cq_links.proofs.asking.ask_all.Given as goal

abbrev pub invariant-loop-number : goal.invariant-loop-number
invariant-loop-number g l = record {
  grown : Adds (IsAnswerBefore (edge_of l.side l.place) l.index l.atoms l.number) l.fn.edges.items l.edges.items;
  counted : l.tests ≡ min (l.fn.tests + sum_by (λ atom. length (candidates_of l.index atom)) (take l.number l.atoms)) 18446744073709551615;
}
