use Rattle.std.proofs.Common.{◌++◌, refl}
use Rattle.std.specs.Prelude.{string_bytes}
use Rattle.cq_render.proofs.CallerLemmas.{put_both}
use Rattle.cq_going.specs.Reasons.{barred_lines}
use Rattle.cq_going.proofs.Tellings.{on_ok}
use Rattle.cq_going.proofs.telling.put_why.Goals as goal

pub returns : goal.returns
returns g c =
    let barred = barred_lines c.args.board.now c.args.names.now in
    on_ok c.put_disagreement.result
    (λ lack. (barred ++ lack.0, (lack.0, lack.1, refl), put_both (string_bytes c.args.page.now) (string_bytes c.put_all_barred.new.page) (string_bytes c.put_disagreement.new.page) barred lack.0 c.in_ok-put_all_barred.ensures lack.2))
    c.put_disagreement.ensures
