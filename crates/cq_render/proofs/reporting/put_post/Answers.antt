use Rattle.std.proofs.Common.{length}
use Rattle.std.specs.Prelude.{string_bytes}
use Rattle.std.specs.List.{flat_map}
use Rattle.cq_render.specs.Report.{count_line, provider_line}
use Rattle.cq_render.proofs.Pages.{put_then}
use Rattle.cq_render.proofs.reporting.put_post.Goals as goal

pub returns : goal.returns
returns g c =
    let line = count_line c.args.post (length c.args.providers.now) in
    put_then (string_bytes c.args.page.now) (string_bytes c.put_count.new.page) (string_bytes c.put_providers.new.page) line (flat_map (provider_line c.args.listing.now.board.now.pending) c.args.providers.now) c.put_providers.result
    c.in_ok-put_count.ensures c.put_providers.ensures
