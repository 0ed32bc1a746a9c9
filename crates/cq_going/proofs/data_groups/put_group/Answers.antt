use Rattle.std.proofs.Common.{◌++◌, ◌∷◌, ◌∙◌, [], List, map, ap, sym, append-nil}
use Rattle.std.specs.Prelude.{codes}
use Rattle.json.specs.Json.{Json, string}
use Rattle.json.specs.Token.{Token}
use Rattle.json.specs.Tree.{json_tokens}
use Rattle.cq_render.specs.Json.{array_of, object_of}
use Rattle.cq_going.proofs.JsonTellings.{no_group, group_told}
use Rattle.cq_going.proofs.Tellings.{on_ok}
use Rattle.cq_going.proofs.data_groups.put_group.Goals as goal

pub returns-then-is_empty : goal.returns-then-is_empty
returns-then-is_empty g c = ([], no_group c.args.board.now c.args.names.now (sym c.is_empty.ensures ∙ c.if-is_empty.true), sym (append-nil c.args.sheet.now))

pub returns : goal.returns
returns g c =
    let names = c.args.names.now in
    let words = c.in_ok-words.words.now in
    let value : Json = object_of ((codes "queries", array_of (map string names)) ∷ (codes "verdict", string words) ∷ []) in
    on_ok c.put_told.result
    (λ is. (value ∷ [], group_told c.args.board.now names words (sym c.is_empty.ensures ∙ c.if-is_empty.false) c.in_ok-words.ensures, is ∙ ap (λ (z : List Token). c.args.sheet.now ++ z) (sym (append-nil (json_tokens value)))))
    c.put_told.ensures
