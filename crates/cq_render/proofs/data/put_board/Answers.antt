use Rattle.std.proofs.Common.{◌≡◌, ◌++◌, ◌∷◌, [], map, subst}
use Rattle.std.specs.Prelude.{codes, decimal}
use Rattle.std.specs.List.{enumerate_from}
use Rattle.json.specs.Token.{begin_object, end_object, key, number}
use Rattle.json.specs.Tree.{json_tokens}
use Rattle.cq_rel.specs.Tables.{TablesRecord}
use Rattle.cq_render.specs.Json.{array_of, relation_json, query_json}
use Rattle.cq_render.proofs.Pages.{put_both, put_then}
use Rattle.cq_render.proofs.data.put_board.Goals as goal

pub returns : goal.returns
returns g c =
    let old = c.args.sheet.now in
    let pool = c.args.board.now in
    let relations = json_tokens (array_of (map (relation_json pool.tables) pool.tables.catalog)) in
    let queries = json_tokens (array_of (map (query_json pool) (enumerate_from 0 pool.pending))) in
    let entries = key (codes "entries") ∷ number (decimal c.args.entries) ∷ [] in
    let front = (begin_object ∷ []) ++ entries in
    let one = front ++ key (codes "relations") ∷ [] in
    let told = subst (λ (t : TablesRecord). c.put_relations.new.sheet ≡ c.key.new.self ++ json_tokens (array_of (map (relation_json t) t.catalog))) c.tables.ensures c.in_ok-put_relations.ensures in
    put_then old c.put_relations.new.sheet c.end_object.new.self (one ++ relations) (key (codes "queries") ∷ (queries ++ end_object ∷ [])) c.end_object.result
    (put_both old c.key.new.self c.put_relations.new.sheet one relations
    (put_both old c.entries_member.new.self c.key.new.self front (key (codes "relations") ∷ [])
    (put_both old c.begin_object.new.self c.entries_member.new.self (begin_object ∷ []) entries c.in_ok-begin_object.ensures c.in_ok-entries_member.ensures) c.in_ok-key.ensures) told)
    (put_then c.put_relations.new.sheet c.key-2.new.self c.end_object.new.self (key (codes "queries") ∷ []) (queries ++ end_object ∷ []) c.end_object.result c.in_ok-key-2.ensures
    (put_then c.key-2.new.self c.put_queries.new.sheet c.end_object.new.self queries (end_object ∷ []) c.end_object.result c.in_ok-put_queries.ensures c.end_object.ensures))
