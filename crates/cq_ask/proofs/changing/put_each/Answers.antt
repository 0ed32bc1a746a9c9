use Rattle.std.proofs.Common.{◌+◌, ℕ, List, map, drop, ap, arith}
use Rattle.std.specs.Prelude.{string_bytes}
use Rattle.std.specs.List.{flat_map}
use Rattle.cq_board.specs.Named.{matched_named}
use Rattle.cq_board.proofs.CallerLemmas.{read_at}
use Rattle.cq_render.proofs.CallerLemmas.{mapped_at, nothing_left, put_on, put_end}
use Rattle.cq_ask.specs.Answer.{change_words, change_line}
use Rattle.cq_ask.proofs.changing.put_each.Goals as goal

pub loop-name-preserved : goal.loop-name-preserved
loop-name-preserved g c =
    let i = c.loop-name.name-index in
    let names = c.args.names.now in
    let name = c.name-item.result in
    let f : List ℕ → List ℕ = λ (name : List ℕ). change_line name (change_words (matched_named name c.args.before.now) (matched_named name c.args.now.now)) in
    put_on (string_bytes c.loop-name.page) (string_bytes c.put_change.new.page) (f name.now) _ (flat_map f (map (λ name. name.now) (drop (i + 1) names))) _
    (mapped_at f (λ name. name.now) names i name (read_at names i name c.loop-name-test.true c.name-item.is)) c.loop-name.invariant c.in_ok-put_change.ensures

pub returns : goal.returns
returns g c =
    let f : List ℕ → List ℕ = λ (name : List ℕ). change_line name (change_words (matched_named name c.args.before.now) (matched_named name c.args.now.now)) in
    put_end _ (flat_map f (map (λ name. name.now) (drop c.loop-name.name-index c.args.names.now))) _ (ap (λ left. flat_map f (map (λ name. name.now) left)) (nothing_left c.args.names.now c.loop-name.name-index (omega arith))) c.loop-name.invariant
