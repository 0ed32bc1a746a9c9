use Rattle.std.proofs.Common.{◌+◌, ◌++◌, List, map, drop, ap, arith}
use Rattle.json.specs.Tree.{json_tokens}
use Rattle.cq_atom.specs.Atom.{TermContent}
use Rattle.cq_atom.specs.Valuation.{term_under}
use Rattle.cq_board.specs.Choice.{bound}
use Rattle.cq_board.proofs.CallerLemmas.{read_at}
use Rattle.cq_render.specs.Json.{term_json}
use Rattle.cq_render.proofs.CallerLemmas.{nothing_left, put_on, listed, listed_of, put_array}
use Rattle.cq_going.proofs.data_atoms.put_terms.Goals as goal

pub loop-term-preserved : goal.loop-term-preserved
loop-term-preserved g c =
    let i = c.loop-term.term-index in
    let terms = c.args.terms.now in
    let h : TermContent → TermContent = term_under (bound c.args.query.now c.args.values.now) in
    let item = c.term-item.result in
    put_on c.loop-term.sheet c.put_term.new.sheet (json_tokens (term_json (h item))) (listed term_json (map h (drop i terms))) (listed term_json (map h (drop (i + 1) terms)))
    (c.begin_array.new.self ++ listed term_json (map h terms))
    (listed_of term_json h terms i item (read_at terms i item (omega arith) c.term-item.is)) c.loop-term.invariant c.in_ok-put_term.ensures

pub returns : goal.returns
returns g c =
    let h : TermContent → TermContent = term_under (bound c.args.query.now c.args.values.now) in
    put_array _ _ c.loop-term.sheet c.end_array.new.self (listed term_json (map h c.args.terms.now)) (listed term_json (map h (drop c.loop-term.term-index c.args.terms.now))) c.end_array.result
    c.in_ok-begin_array.ensures c.loop-term.invariant
    (ap (λ (terms : List TermContent). listed term_json (map h terms)) (nothing_left c.args.terms.now c.loop-term.term-index (omega arith))) c.end_array.ensures
