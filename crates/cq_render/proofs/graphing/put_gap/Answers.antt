use Rattle.std.specs.Prelude.{string_bytes}
use Rattle.cq_text.specs.Print.{escaped, printed_atom}
use Rattle.cq_render.specs.Graph.{gap_box, gap_arrow}
use Rattle.cq_render.proofs.Pages.{put_then}
use Rattle.cq_render.proofs.graphing.put_gap.Goals as goal

pub returns : goal.returns
returns g c =
    let box = gap_box c.args.waiter c.args.post in
    let arrow = gap_arrow c.args.waiter c.args.post (escaped (printed_atom c.args.wanted.now)) in
    put_then (string_bytes c.args.page.now) (string_bytes c.put.new.page) (string_bytes c.put-2.new.page) box arrow c.put-2.result (c.in_ok-put.ensures box c.gap_box.ensures) (c.put-2.ensures arrow c.gap_arrow.ensures)
