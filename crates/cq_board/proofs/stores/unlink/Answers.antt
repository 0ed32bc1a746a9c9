use Rattle.std.proofs.Common.{sym, ap, ◌∙◌, option_copied}
use Rattle.std.specs.FinMap as map
use Rattle.cq_board.proofs.Stored.{none-linked, remove-free}
use Rattle.cq_board.proofs.stores.unlink.Goals as goal

pub returns-in_default : goal.returns-in_default
returns-in_default g c =
    sym (remove-free c.args.links.now c.args.place
    (c.requires.linked ∙ none-linked (map.get c.args.grounded.now c.args.place) (sym c.query.ensures ∙ ap option_copied c.in_default.is)))
