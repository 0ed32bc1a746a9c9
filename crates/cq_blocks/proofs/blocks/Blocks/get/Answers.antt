use Rattle.std.proofs.Common.{le_of_lt, sym, ap, ◌∙◌}
use Rattle.std.specs.List.{slice_get}
use Rattle.std.specs.Option.{option_copied}
use Rattle.std.proofs.lemmas.Option.{slice_get_past}
use Rattle.cq_blocks.specs.Blocks.{elements, flat}
use Rattle.cq_blocks.proofs.Vecs.{element-read}
use Rattle.cq_blocks.proofs.Within.{below-view, inside-view}
use Rattle.cq_blocks.proofs.blocks.Blocks.get.Goals as goal

pub returns : goal.returns
returns g c =
    sym
    (ap (λ n. slice_get (elements c.args.self.now) n) (sym c.in_ok-place.ensures.1)
    ∙ element-read c.blocks-blocks.result.now c.args.self.now c.in_ok-place.place.block c.in_ok-place.place.index c.index-blocks-place.result c.index.result.now c.blocks-blocks.ensures.blocks c.in_ok-place.ensures.0.0 c.in_ok-place.ensures.0.1
    c.index-blocks-place.is c.index.ensures)

pub returns-in_err-place : goal.returns-in_err-place
returns-in_err-place g c =
    ap option_copied c.from_residual.ensures ∙ sym (slice_get_past (elements c.args.self.now) (flat c.args.self.now c.args.place) c.in_err-place.ensures)

pub bounds-blocks-place : goal.bounds-blocks-place
bounds-blocks-place g c = below-view c.blocks-blocks.result.now c.args.self.now c.blocks-blocks.ensures.blocks c.in_ok-place.place.block c.in_ok-place.ensures.0.0

pub offset_bounds-blocks-place : goal.offset_bounds-blocks-place
offset_bounds-blocks-place g c =
    le_of_lt (below-view c.blocks-blocks.result.now c.args.self.now c.blocks-blocks.ensures.blocks c.in_ok-place.place.block c.in_ok-place.ensures.0.0)

pub index-requires : goal.index-requires
index-requires g c =
    inside-view c.blocks-blocks.result.now c.args.self.now c.blocks-blocks.ensures.blocks c.in_ok-place.place.block c.in_ok-place.place.index c.index-blocks-place.result c.in_ok-place.ensures.0.0 c.index-blocks-place.is
    c.in_ok-place.ensures.0.1
