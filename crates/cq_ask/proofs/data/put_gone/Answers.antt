use Rattle.std.proofs.Common.{◌+◌, ◌∙◌, ℕ, List, map, drop, ap, arith}
use Rattle.std.specs.List.{flat_map}
use Rattle.json.specs.Json.{Json}
use Rattle.cq_board.specs.Named.{matched_named}
use Rattle.cq_render.proofs.CallerLemmas.{mapped_at, nothing_left, put_on, put_end, read_at}
use Rattle.cq_ask.specs.Data.{went_json}
use Rattle.cq_ask.specs.Steps.Several.{all_tokens}
use Rattle.cq_ask.proofs.Members.{all_append}
use Rattle.cq_ask.proofs.data.put_gone.Goals as goal

pub loop-name-preserved : goal.loop-name-preserved
loop-name-preserved g c =
    let i = c.loop-name.name-index in
    let names = c.args.names.now in
    let name = c.name-item.result in
    let f : List ℕ → List Json = λ (name : List ℕ). went_json c.args.now.now name (matched_named name c.args.now.now) in
    let rest = flat_map f (map (λ name. name.now) (drop (i + 1) names)) in
    put_on c.loop-name.sheet c.put_if_gone.new.sheet (all_tokens (f name.now)) _ (all_tokens rest) _
    (ap all_tokens (mapped_at f (λ name. name.now) names i name (read_at names i name c.loop-name-test.true c.name-item.is)) ∙ all_append (f name.now) rest) c.loop-name.invariant c.in_ok-put_if_gone.ensures

pub returns : goal.returns
returns g c =
    let f : List ℕ → List Json = λ (name : List ℕ). went_json c.args.now.now name (matched_named name c.args.now.now) in
    put_end _ (all_tokens (flat_map f (map (λ name. name.now) (drop c.loop-name.name-index c.args.names.now)))) _
    (ap (λ left. all_tokens (flat_map f (map (λ name. name.now) left))) (nothing_left c.args.names.now c.loop-name.name-index (omega arith))) c.loop-name.invariant
