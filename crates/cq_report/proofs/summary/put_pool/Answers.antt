use Rattle.std.proofs.Common.{◌≡◌, ◌++◌, ◌∙◌, ℕ, List, length, ap, sym}
use Rattle.std.specs.Prelude.{codes, decimal, string_bytes, OnOk}
use Rattle.std.proofs.lemmas.List.{length-map}
use Rattle.std.proofs.lemmas.Result.{on_ok_weaker}
use Rattle.cq_board.specs.Named.{matched_names}
use Rattle.cq_report.specs.Summary.{so_many}
use Rattle.cq_report.proofs.Sums.{two_put}
use Rattle.cq_report.proofs.summary.put_pool.Goals as goal

pub returns : goal.returns
returns g c =
    let page = string_bytes c.args.page.now in
    let pool = c.args.board.now in
    let found = c.in_ok-matched.field-0 in
    let sized : length found.items ≡ length (matched_names pool) = sym (length-map found.items (λ name. name.now)) ∙ ap length c.in_ok-matched.ensures in
    let matched : c.len-matched.result ≡ length (matched_names pool) = c.len-matched.ensures ∙ found.ok.0 ∙ sized in
    let words = λ (n : ℕ). so_many n (codes "query pending, ") (codes "queries pending, ") in
    let begun : string_bytes c.put_so_many.new.page ≡ page ++ words (length pool.pending) = c.in_ok-put_so_many.ensures ∙ ap (λ (n : ℕ). page ++ words n) c.len-pending.ensures.value in
    let written : OnOk c.write.result (string_bytes c.write.new.self ≡ string_bytes c.put_so_many.new.page ++ (decimal c.len-matched.result ++ codes " matched")) = c.write.ensures.bytes in
    on_ok_weaker c.write.result
    (λ is.
    is ∙ ap (λ (l : List ℕ). l ++ (decimal c.len-matched.result ++ codes " matched")) begun
    ∙ ap (λ (n : ℕ). page ++ words (length pool.pending) ++ (decimal n ++ codes " matched")) matched
    ∙ two_put page (words (length pool.pending)) (decimal (length (matched_names pool))) (codes " matched"))
    written
