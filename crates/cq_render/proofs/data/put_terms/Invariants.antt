use Rattle.std.proofs.Common.{◌≡◌, ◌++◌, drop}
use Rattle.cq_render.proofs.Arrays.{listed}
use Rattle.cq_render.specs.Json.{term_json}
use Rattle.cq_render.proofs.data.put_terms.Given as goal

abbrev pub invariant-loop-term : goal.invariant-loop-term
invariant-loop-term g l = l.sheet ++ listed term_json (drop l.term-index l.terms) ≡ l.initial.sheet ++ listed term_json l.terms
