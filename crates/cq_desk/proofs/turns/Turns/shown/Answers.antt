use Rattle.std.proofs.Common.{◌≡◌, ◌∙◌, sym, subst}
use Rattle.cq_desk.specs.Steps.Turns.{shown_content}
use Rattle.cq_desk.proofs.Turning.{front}
use Rattle.cq_desk.proofs.turns.Turns.shown.Goals as goal

pub returns : goal.returns
returns g c = let d = c.self.inside in
    subst (λ v. g.L.Live.content d.shown ≡ shown_content g.L.Live.after v) c.self.view_is
    (c.self.invariant.0.shows ∙ sym (front g.L.Live.after (g.L.Live.content d.origin.value) d.skipped d.published d.entries.items c.self.invariant.1.skipped_within))
