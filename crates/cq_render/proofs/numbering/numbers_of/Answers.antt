use Rattle.std.proofs.Common.{◌≡◌, ℕ, ◌<◌, length, Bool, take, ap, ◌∙◌, sym, arith, bytes_eq, Some, None, if◌then◌else◌, get_or}
use Rattle.std.specs.List.{position}
use Rattle.std.specs.Prelude.{Option}
use Rattle.cq_render.specs.Steps.Numbering.{first_of}
use Rattle.std.proofs.lemmas.List.{take_all}
use Rattle.cq_render.proofs.Numbers.{number_is_place, position_more}
use Rattle.cq_render.proofs.Walked.{names_of_shown}
use Rattle.cq_render.specs.Steps.Walking.{shown_read}
use Rattle.cq_render.proofs.numbering.numbers_of.Goals as goal

pub loop-number-preserved : goal.loop-number-preserved
loop-number-preserved g c wanted =
    let items = c.args.listing.now.queries.items in
    let i = c.loop-number.number in
    let item = c.index.result.now in
    let low : i < length items = omega (arith, c.len-number-end.ensures, c.args.listing.now.queries.ok.0) in
    let word : bytes_eq wanted c.as_str.result.now ≡ bytes_eq wanted (get_or items i item).name.now = ap (bytes_eq wanted) c.as_str.ensures.bytes ∙ ap (λ shown. bytes_eq wanted shown.name.now) c.index.ensures in
    c.in_ok-number_name.ensures wanted
    ∙ ap (λ (found : Option ℕ). first_of found (if bytes_eq wanted c.as_str.result.now then Some i else None)) (c.loop-number.invariant wanted)
    ∙ ap (λ (b : Bool). first_of (position (λ shown. bytes_eq wanted shown.name.now) (take i items)) (if b then Some i else None)) word
    ∙ sym (position_more (λ shown. bytes_eq wanted shown.name.now) items i item low)

pub returns : goal.returns
returns g c wanted =
    let listing = c.args.listing.now in
    let items = c.args.listing.now.queries.items in
    let i = c.loop-number.number in
    c.loop-number.invariant wanted
    ∙ ap (position (λ shown. bytes_eq wanted shown.name.now)) (take_all i items (omega (arith, c.loop-number-test.false, c.len-number-end.ensures, c.args.listing.now.queries.ok.0)))
    ∙ number_is_place wanted (λ shown. shown.name.now) items listing.board.now.pending (names_of_shown shown_read items listing.board.now listing.walked)
