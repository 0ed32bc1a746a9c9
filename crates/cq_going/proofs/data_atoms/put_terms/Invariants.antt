use Rattle.std.proofs.Common.{◌≡◌, ◌++◌, map, drop}
use Rattle.cq_atom.specs.Valuation.{term_under}
use Rattle.cq_board.specs.Choice.{bound}
use Rattle.cq_render.specs.Json.{term_json}
use Rattle.cq_render.proofs.CallerLemmas.{listed}
use Rattle.cq_going.proofs.data_atoms.put_terms.Given as goal

-- the tokens, and the terms that are left
abbrev pub invariant-loop-term : goal.invariant-loop-term
invariant-loop-term g l =
    l.sheet ++ listed term_json (map (term_under (bound l.query l.values)) (drop l.term-index l.terms)) ≡ l.initial.sheet ++ listed term_json (map (term_under (bound l.query l.values)) l.terms)
