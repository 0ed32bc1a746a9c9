use Rattle.std.proofs.Common.{◌≡◌, ◌+◌, ◌++◌, ◌∷◌, [], ℕ, List, map, drop, subst, ap, arith}
use Rattle.std.specs.Prelude.{string_bytes}
use Rattle.json.specs.Json.{string}
use Rattle.json.specs.Token as token
use Rattle.json.specs.Tree.{json_tokens}
use Rattle.cq_render.proofs.Pieces.{read_at, nothing_left}
use Rattle.cq_render.proofs.Arrays.{listed, listed_of, put_array}
use Rattle.cq_render.proofs.Pages.{put_on}
use Rattle.cq_render.proofs.data.put_variables.Goals as goal

pub loop-variable-preserved : goal.loop-variable-preserved
loop-variable-preserved g c =
    let i = c.loop-variable.variable-index in
    let names = c.args.variables.now in
    let item = c.variable-item.result in
    let put = subst (λ (name : List ℕ). c.string.new.self ≡ c.loop-variable.sheet ++ token.string name ∷ []) c.as_str.ensures.value c.in_ok-string.ensures in
    put_on c.loop-variable.sheet c.string.new.self (json_tokens (string (string_bytes item))) _ (listed string (map string_bytes (drop (i + 1) names))) _
    (listed_of string string_bytes names i item (read_at names i item (omega arith) c.variable-item.is)) c.loop-variable.invariant put

pub returns : goal.returns
returns g c =
    put_array _ _ c.loop-variable.sheet c.end_array.new.self _ (listed string (map string_bytes (drop c.loop-variable.variable-index c.args.variables.now))) c.end_array.result
    c.in_ok-begin_array.ensures c.loop-variable.invariant (ap (λ names. listed string (map string_bytes names)) (nothing_left c.args.variables.now c.loop-variable.variable-index (omega arith))) c.end_array.ensures
