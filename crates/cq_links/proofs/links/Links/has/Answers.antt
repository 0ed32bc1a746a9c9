use Rattle.std.proofs.Common.{◌≡◌, false, ltb, arith, sym, ◌∙◌}
use Rattle.std.proofs.lemmas.Bool.Decides.{nat_tests}
use Rattle.cq_links.specs.declared.block.TheConstants.{PLACES}
use Rattle.cq_links.proofs.Kept.{kept_of, first_there, too_great}
use Rattle.cq_links.proofs.links.Links.has.Goals as goal

pub returns-then-place-lt-PLACES : goal.returns-then-place-lt-PLACES
returns-then-place-lt-PLACES g c =
    let m = c.args.self.now in
    c.has.ensures ∙ first_there m c.self.inside.heads c.self.inside.posts (kept_of m c.self.inside.heads c.self.inside.posts c.self.view_is c.self.invariant) c.args.place

pub returns-else-place-lt-PLACES : goal.returns-else-place-lt-PLACES
returns-else-place-lt-PLACES g c =
    let m = c.args.self.now in
    let great = c.if-place-lt-PLACES.false in
    let test : ltb c.args.place PLACES ≡ false = grind (arith, nat_tests) in
    test ∙ sym (too_great m c.self.inside.heads c.self.inside.posts (kept_of m c.self.inside.heads c.self.inside.posts c.self.view_is c.self.invariant) c.args.place great)
