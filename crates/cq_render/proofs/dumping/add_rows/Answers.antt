use Rattle.std.proofs.Common.{◌≡◌, ◌++◌, ◌∙◌, List, [], ◌∷◌, map, ap}
use Rattle.cq_atom.specs.Atom.{RowRecord}
use Rattle.cq_rel.specs.Tables.{arity_in}
use Rattle.cq_render.proofs.ByRelation.{shown_rows}
use Rattle.cq_render.proofs.Walked.{map_behind}
use Rattle.cq_render.proofs.Pages.{put_on, put_end}
use Rattle.cq_render.proofs.dumping.add_rows.Goals as goal

pub loop-row-preserved : goal.loop-row-preserved
loop-row-preserved g c =
    put_on (map (λ row. row.now) c.loop-row.rows.items) (map (λ row. row.now) c.push.new.self.items) (c.in-Some-row.row.now ∷ []) c.loop-row.row-iterator c.next.new.self _
    c.in-Some-row.ensures.steps c.loop-row.invariant
    (ap (map (λ row. row.now)) c.in_ok-push.ensures.items ∙ map_behind (λ row. row.now) c.loop-row.rows.items c.in-Some-row.row)

pub returns : goal.returns
returns g c =
    put_end (map (λ row. row.now) c.loop-row.rows.items) c.loop-row.row-iterator _ c.in-None.ensures.steps.0 c.loop-row.invariant
    ∙ ap (λ (rows : List RowRecord). map (λ row. row.now) c.args.rows.now.items ++ rows) (c.into_iter-row-iterator.ensures.into_iter_gives ∙ shown_rows (arity_in c.args.tables.now.catalog c.args.relation.now) _ c.in-Some.found c.in-Some.ensures.value)
