use Rattle.std.proofs.Common.{◌≡◌, refl, map}
use Rattle.std.specs.Prelude.{string_bytes, codes}
use Rattle.cq_render.specs.Json.{array_of}
use Rattle.cq_render.specs.Data.{named_json}
use Rattle.cq_ask.proofs.Members.{told_as}
use Rattle.cq_ask.proofs.data.query_member.Goals as goal

pub returns : goal.returns
returns g c = told_as (λ told. told ≡ (codes "query", array_of (map (named_json c.args.board.now) c.args.names.now))) string_bytes c.member.result _ (array_of (map (named_json c.args.board.now) c.args.names.now)) _ _ c.begin-sheet.ensures c.in_ok-put_queries.ensures refl c.member.ensures
