use Rattle.std.proofs.Common.{◌≡◌, ◌++◌, ◌∙◌, ℕ, List, ap}
use Rattle.std.specs.Prelude.{codes, decimal, string_bytes}
use Rattle.std.proofs.lemmas.Result.{on_ok_weaker}
use Rattle.cq_board.specs.Pool.{PoolRecord}
use Rattle.cq_report.specs.Machine.{shown}
use Rattle.cq_report.specs.Summary.{so_many, first_words, pool_words, unpublished, unpublished_words}
use Rattle.cq_report.proofs.Sums.{four_put, five_put}
use Rattle.cq_report.proofs.summary.put_summary.Goals as goal

pub returns : goal.returns
returns g c =
    let page = string_bytes c.args.page.now in
    let left = c.args.played.now in
    let count = so_many left.lines (codes "line, ") (codes "lines, ") in
    let refused = decimal left.tally.refused in
    let first = first_words left.tally.first in
    let lines = count ++ refused ++ codes " refused" ++ first in
    let pool = pool_words (shown left.floor) in
    let rest = unpublished_words (unpublished left.floor) in
    let begun : string_bytes c.put_lines.new.page ≡ page ++ lines = c.in_ok-put_lines.ensures ∙ four_put page count refused (codes " refused") first in
    let one : string_bytes c.push_str.new.self ≡ page ++ lines ++ codes "; " = c.in_ok-push_str.ensures.bytes ∙ ap (λ (l : List ℕ). l ++ codes "; ") begun in
    let two : string_bytes c.put_pool.new.page ≡ page ++ lines ++ codes "; " ++ pool =
    c.in_ok-put_pool.ensures ∙ ap (λ (p : PoolRecord). string_bytes c.push_str.new.self ++ pool_words p) c.board.ensures ∙ ap (λ (l : List ℕ). l ++ pool) one in
    let three : string_bytes c.push_str-2.new.self ≡ page ++ lines ++ codes "; " ++ pool ++ codes "; " = c.in_ok-push_str-2.ensures.bytes ∙ ap (λ (l : List ℕ). l ++ codes "; ") two in
    on_ok_weaker c.put_unpublished.result
    (λ is.
    is ∙ ap (λ (n : ℕ). string_bytes c.push_str-2.new.self ++ unpublished_words n) c.unpublished.ensures ∙ ap (λ (l : List ℕ). l ++ rest) three
    ∙ five_put page lines (codes "; ") pool rest)
    c.put_unpublished.ensures
