use Rattle.std.proofs.Common.{map}
use Rattle.std.specs.Prelude.{string_bytes}
use Rattle.cq_sessions.proofs.Rooms.{ran, set_even}
use Rattle.cq_sessions.proofs.files.script_of.Goals as goal

pub serve_room-requires-clause-even : goal.serve_room-requires-clause-even
serve_room-requires-clause-even g c κs live = set_even c.args.setup.now _ _ _ _ c.in_ok-heading.ensures.set

pub returns : goal.returns
returns g c =
    ran c.args.setup.now _ _ _ _ _ _ (map (λ file. file.items) c.args.files.now) (string_bytes c.new-page.result) (string_bytes c.begin.new.page) (string_bytes c.serve_room.new.page)
    c.in_ok-heading.ensures.set c.in_ok-heading.ensures.behind c.in_ok-parts.ensures.opening c.in_ok-parts.ensures.limit c.new-page.ensures.bytes (rw c.form_of-form.ensures at c.in_ok-parts.ensures.put) (rw c.form_of-form.ensures at c.in_ok-serve_room.ensures)
