use Rattle.std.proofs.Common.{◌≡◌, ◌∙◌, ℕ, List, take, ap, sym, subst}
use Rattle.std.specs.Prelude.{string_bytes}
use Rattle.cq_report.specs.Lines.{lines_of}
use Rattle.cq_rel.specs.Tables.{Declaration, TablesRecord}
use Rattle.cq_board.specs.Pool.{PoolRecord}
use Rattle.cq_board.specs.declared.limits.Limits.{Limits}
use Rattle.cq_report.specs.declared.numbering.Numbering.TheVariants.{Plain}
use Rattle.cq_report.specs.Machine.{begin_state, shown}
use Rattle.cq_report.specs.Output.{Left, left_in}
use Rattle.cq_why.specs.Why.{AreWhys}
use Rattle.cq_cli.specs.Told.{limits_of, relations_of, told_lines}
use Rattle.cq_cli.proofs.replaying.told_text.Goals as goal

pub returns : goal.returns
returns g c =
    let script = c.args.script.now in
    let lines : c.told_lines.result ≡ told_lines c.args.ran.lines = c.told_lines.ensures ∙ ap told_lines (c.lines.ensures ∙ ap (λ (left : Left). left.lines) c.in_ok-played.ensures) in
    let left : c.in_ok-played.played ≡ left_in c.args.ran = c.in_ok-played.ensures in
    let catalog : c.catalog.result.now ≡ relations_of c.args.ran =
    c.catalog.ensures.value ∙ ap (λ (tables : TablesRecord). tables.catalog) (c.tables.ensures ∙ ap (λ (pool : PoolRecord). pool.tables) (c.board-board.ensures ∙ ap (λ (l : Left). shown l.floor) left)) in
    let limits : c.limits.result ≡ limits_of c.args.ran = c.limits.ensures ∙ ap (λ (pool : PoolRecord). pool.limits) (c.board-board.ensures ∙ ap (λ (l : Left). shown l.floor) left) in
    record {
      whys = string_bytes c.put_whys.new.page;
      are = subst (λ (n : ℕ). AreWhys c.args.origin.now (limits_of c.args.ran) (relations_of c.args.ran) (begin_state Plain) (take n (lines_of script)) (string_bytes c.put_whys.new.page)) lines
          (subst (λ (ds : List Declaration). AreWhys c.args.origin.now (limits_of c.args.ran) ds (begin_state Plain) (take c.told_lines.result (lines_of script)) (string_bytes c.put_whys.new.page)) catalog
          (subst (λ (l : Limits). AreWhys c.args.origin.now l c.catalog.result.now (begin_state Plain) (take c.told_lines.result (lines_of script)) (string_bytes c.put_whys.new.page)) limits (c.in_ok-put_whys.ensures c.new-text.ensures.bytes)));
      is = c.in_ok-put_summary_if.ensures c.args.ran (sym c.in_ok-played.ensures);
    }
