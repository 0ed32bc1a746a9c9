use Rattle.std.proofs.Common.{◌≡◌, List, [], ◌∷◌, ◌++◌, subst, sym, ap, ◌∙◌}
use Rattle.cq_rel.specs.Tables.{Declaration, TablesRecord, declaration}
use Rattle.cq_board.specs.Steps.Setup.{AreNew, rows_put, rows_of_all}
use Rattle.cq_board.proofs.Stored.{ok-given}
use Rattle.cq_board.proofs.Contents.{tables_of}
use Rattle.cq_board.proofs.Declaring.{tables_put_back}
use Rattle.cq_board.proofs.setup.declared_in.Goals as goal

pub insert_all-requires : goal.insert_all-requires
insert_all-requires g c =
    let tables = c.args.tables.now in
    let d = declaration c.args.relation.now c.args.arity in
    let same : c.in_ok-catalog.catalog ≡ tables.catalog = c.in_ok-catalog.ensures ∙ c.catalog.ensures.value in
    let more : c.declare.new.self ≡ tables.catalog ++ d ∷ [] =
    ok-given c.declare.result (c.declare.new.self ≡ c.in_ok-catalog.catalog ++ d ∷ []) (sym c.is_err.ensures.value ∙ c.if-is_err.false) c.declare.ensures.ok ∙ ap (λ (ds : List Declaration). ds ++ d ∷ []) same in
    let begun : c.in_ok-made.made ≡ tables_of (tables.catalog ++ d ∷ []) [] = c.in_ok-made.ensures ∙ ap (λ (ds : List Declaration). tables_of ds []) more in
    subst (λ (t : TablesRecord). AreNew t (rows_of_all tables tables.catalog)) (sym begun) (tables_put_back d tables c.catalog.ensures.valid).accepted

pub returns : goal.returns
returns g c =
    let tables = c.args.tables.now in
    let d = declaration c.args.relation.now c.args.arity in
    let same : c.in_ok-catalog.catalog ≡ tables.catalog = c.in_ok-catalog.ensures ∙ c.catalog.ensures.value in
    let more : c.declare.new.self ≡ tables.catalog ++ d ∷ [] =
    ok-given c.declare.result (c.declare.new.self ≡ c.in_ok-catalog.catalog ++ d ∷ []) (sym c.is_err.ensures.value ∙ c.if-is_err.false) c.declare.ensures.ok ∙ ap (λ (ds : List Declaration). ds ++ d ∷ []) same in
    let begun : c.in_ok-made.made ≡ tables_of (tables.catalog ++ d ∷ []) [] = c.in_ok-made.ensures ∙ ap (λ (ds : List Declaration). tables_of ds []) more in
    c.in_ok-insert_all.ensures ∙ ap (λ (t : TablesRecord). rows_put t (rows_of_all tables tables.catalog)) begun ∙ (tables_put_back d tables c.catalog.ensures.valid).made
