use Rattle.std.proofs.Common.{◌≡◌, ◌+◌, ◌++◌, ◌∷◌, [], ℕ, List, drop, subst, ap, arith}
use Rattle.json.specs.Json.{string}
use Rattle.json.specs.Token as token
use Rattle.json.specs.Tree.{json_tokens}
use Rattle.cq_board.proofs.CallerLemmas.{read_at}
use Rattle.cq_render.proofs.CallerLemmas.{nothing_left, put_on, listed, listed_at, put_array}
use Rattle.cq_going.proofs.data_groups.put_names.Goals as goal

pub loop-name-preserved : goal.loop-name-preserved
loop-name-preserved g c =
    let i = c.loop-name.name-index in
    let names = c.args.names.now in
    let name = c.name-item.result in
    let put = subst (λ (name : List ℕ). c.string.new.self ≡ c.loop-name.sheet ++ token.string name ∷ []) c.as_str.ensures.bytes c.in_ok-string.ensures in
    put_on c.loop-name.sheet c.string.new.self (json_tokens (string name)) _ (listed string (drop (i + 1) names)) _
    (listed_at string names i name (read_at names i name c.loop-name-test.true c.name-item.is)) c.loop-name.invariant put

pub returns : goal.returns
returns g c =
    put_array _ _ c.loop-name.sheet c.end_array.new.self _ (listed string (drop c.loop-name.name-index c.args.names.now)) c.end_array.result
    c.in_ok-begin_array.ensures c.loop-name.invariant (ap (listed string) (nothing_left c.args.names.now c.loop-name.name-index (omega arith))) c.end_array.ensures
