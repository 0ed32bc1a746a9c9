use Rattle.std.proofs.Common.{◌≡◌, ◌++◌, true, List, length}
use Rattle.cq_atom.specs.Value.{ValueContent}
use Rattle.cq_ask.specs.Find.{wanted}
use Rattle.cq_report.specs.Find.{find_pieces}
use Rattle.cq_report.specs.Steps.Finds.{is_first_after}
use Rattle.cq_report.specs.Steps.Written.{Puts}
use Rattle.cq_report.proofs.finding.put_found.Given as goal

-- the groundings that were put so far, and those that are still wanted
abbrev pub invariant-loop-alloc : goal.invariant-loop-alloc
invariant-loop-alloc g l = record {
  done : List (List ValueContent);
  put : Puts g.W.Sink.taken g.W.Sink.write_failures l.initial.output l.output (find_pieces l.numbering true done);
  cut : wanted l.fn.most l.initial.finder.to_come ≡ done ++ wanted l.left l.finder.to_come;
  first : l.is_first ≡ is_first_after done;
}

-- how many are still wanted
abbrev pub decreases-loop-alloc : goal.decreases-loop-alloc
decreases-loop-alloc g l = length (wanted l.left l.finder.to_come)
