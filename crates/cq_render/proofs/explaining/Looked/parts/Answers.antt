use Rattle.std.proofs.Common.{◌∙◌}
use Rattle.std.proofs.lemmas.Result.{IfOk-weaker}
use Rattle.cq_board.specs.Board.{nodes_of}
use Rattle.cq_board.proofs.CallerLemmas.{edges-grouped}
use Rattle.cq_render.proofs.explaining.Looked.parts.Goals as goal

pub begin-requires-clause-grouped : goal.begin-requires-clause-grouped
begin-requires-clause-grouped g c =
    let listing = c.args.self.now.listing in
    rw (c.deref.ensures.value, listing.listed) (edges-grouped listing.board.now.pending)

pub begin-requires-clause-falling : goal.begin-requires-clause-falling
begin-requires-clause-falling g c =
    let listing = c.args.self.now.listing in
    rw (c.deref.ensures.value, listing.listed, c.deref-2.ensures.value) (nodes_of listing.board.now, c.requires.falling)

pub begin-requires-clause-once : goal.begin-requires-clause-once
begin-requires-clause-once g c = rw c.deref-2.ensures.value c.requires.once

pub returns-clause-edges : goal.returns-clause-edges
returns-clause-edges g c = IfOk-weaker c.begin.result _ _ (λ parts is. is ∙ c.deref.ensures.value ∙ c.args.self.now.listing.listed) c.begin.ensures.edges

pub returns-clause-falls : goal.returns-clause-falls
returns-clause-falls g c = IfOk-weaker c.begin.result _ _ (λ parts is. is ∙ c.deref-2.ensures.value) c.begin.ensures.falls
