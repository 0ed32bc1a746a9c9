use Rattle.std.proofs.Common.{◌++◌, length}
use Rattle.std.specs.Prelude.{string_bytes}
use Rattle.std.specs.List.{flat_map, enumerate_from}
use Rattle.cq_atom.specs.Query.{variables_of}
use Rattle.cq_render.specs.Report.{name_line, text_line, post_lines, groundings_line, values_line}
use Rattle.cq_render.proofs.Pages.{put_both, put_then}
use Rattle.cq_render.proofs.reporting.put_query.Goals as goal

pub returns : goal.returns
returns g c =
    let shown = c.args.shown.now in
    let lists = shown.groundings.now in
    let heading = name_line shown.name.now shown.matched ++ text_line shown.query.now in
    let posts = flat_map (λ post. post_lines c.args.listing.now.board.now.pending shown.number post.0) (enumerate_from 0 shown.query.now.posts) in
    let found = groundings_line (variables_of shown.query.now.body) (length lists) ++ flat_map values_line lists in
    put_then (string_bytes c.args.page.now) (string_bytes c.put_posts.new.page) (string_bytes c.put_groundings.new.page) (heading ++ posts) found c.put_groundings.result
    (put_both (string_bytes c.args.page.now) (string_bytes c.put_heading.new.page) (string_bytes c.put_posts.new.page) heading posts c.in_ok-put_heading.ensures c.in_ok-put_posts.ensures) c.put_groundings.ensures
