use Rattle.std.proofs.Common.{◌≡◌, ◌∙◌, List, ap, sym}
use Rattle.std.proofs.lemmas.Result.{on_ok_weaker, on_err_weaker}
use Rattle.cq_atom.specs.Atom.{AtomRecord}
use Rattle.cq_atom.specs.Query.{QueryRecord, variables_of}
use Rattle.cq_rel.specs.Tables.{TablesRecord}
use Rattle.cq_ground.specs.Grounding.{groundings_of}
use Rattle.cq_ask.specs.Find.{wanted}
use Rattle.cq_report.specs.Find.{find_head}
use Rattle.cq_report.proofs.Finds.{BreaksReply-weaker, PutsReply-weaker, found_by}
use Rattle.cq_report.proofs.finding.put_search.Goals as goal

pub begin-requires : goal.begin-requires
begin-requires g c = c.variables.ensures ∙ ap variables_of (sym c.body.ensures.value)

pub returns-clause-ok : goal.returns-clause-ok
returns-clause-ok g c =
    let n = c.args.numbering in
    let search = c.args.search.now in
    let rows = c.args.board.now.tables.rows in
    let head : c.as_str.result.now ≡ find_head n search.query = c.as_str.ensures.value ∙ c.in_ok-head.ensures ∙ ap (find_head n) c.query-query.ensures in
    let lists : wanted c.most-most.result c.in_ok-finder.finder.to_come ≡ wanted search.most (groundings_of search.query.body rows) =
    ap (wanted c.most-most.result) (c.in_ok-finder.ensures ∙ ap (λ (body : List AtomRecord). groundings_of body c.tables.result.now.rows) (c.body.ensures.value ∙ ap (λ (q : QueryRecord). q.body) c.query-query.ensures)
    ∙ ap (λ (t : TablesRecord). groundings_of search.query.body t.rows) c.tables.ensures)
    ∙ ap (λ most. wanted most (groundings_of search.query.body rows)) c.most-most.ensures in
    on_ok_weaker c.put_answer.result (PutsReply-weaker _ _ n c.args.before _ _ (found_by n search.query _ _ _ head lists) _ _) c.put_answer.ensures.ok

pub returns-clause-breaks : goal.returns-clause-breaks
returns-clause-breaks g c =
    let n = c.args.numbering in
    let search = c.args.search.now in
    let rows = c.args.board.now.tables.rows in
    let head : c.as_str.result.now ≡ find_head n search.query = c.as_str.ensures.value ∙ c.in_ok-head.ensures ∙ ap (find_head n) c.query-query.ensures in
    let lists : wanted c.most-most.result c.in_ok-finder.finder.to_come ≡ wanted search.most (groundings_of search.query.body rows) =
    ap (wanted c.most-most.result) (c.in_ok-finder.ensures ∙ ap (λ (body : List AtomRecord). groundings_of body c.tables.result.now.rows) (c.body.ensures.value ∙ ap (λ (q : QueryRecord). q.body) c.query-query.ensures)
    ∙ ap (λ (t : TablesRecord). groundings_of search.query.body t.rows) c.tables.ensures)
    ∙ ap (λ most. wanted most (groundings_of search.query.body rows)) c.most-most.ensures in
    on_err_weaker c.put_answer.result (BreaksReply-weaker _ _ n c.args.before _ _ (found_by n search.query _ _ _ head lists) _ _) c.put_answer.ensures.err
