use Rattle.std.proofs.Common.{◌≡◌, ℕ, List, not, filter, sym, ap, subst, refl, ◌∙◌, arith}
use Rattle.std.specs.FinMap as map
use Rattle.cq_roster.specs.Roster.{SeatRecord, without}
use Rattle.cq_board.specs.Edits.{is_named}
use Rattle.cq_board.specs.Work.{raised}
use Rattle.cq_board.specs.Steps.Residents.{queries_of}
use Rattle.cq_board.specs.Steps.Stores.{StoresRecord, residents_at, pending_of}
use Rattle.cq_board.proofs.Stored.{none-without, none-withdrawn, leaver-node, leaver-found, content_of, withdrawn, withdrawn-stores, withdrawn-pending, same-content, same-stores}
use Rattle.cq_board.proofs.WorkLost.{lost-kept, lost-nobody}
use Rattle.cq_board.proofs.stores.Stores.withdraw.Goals as goal

pub returns-in_default-clause-stores : goal.returns-in_default-clause-stores
returns-in_default-clause-stores g c = λ rows stores.
    let old = content_of c.self.inside in
    let same = c.remove.ensures.others ∙ none-without c.args.name.now old.seats (sym c.remove.ensures.place ∙ c.in_default.is) in
    same-stores (same-content (record old { seats = c.remove.new.self }) old same refl refl refl ∙ c.self.view_is) stores

pub returns-in_default-clause-left : goal.returns-in_default-clause-left
returns-in_default-clause-left g c = λ rows stores.
    let name = c.args.name.now in
    let old = content_of c.self.inside in
    let none = sym c.remove.ensures.place ∙ c.in_default.is in
    ap (λ (seats : List SeatRecord). queries_of (residents_at seats old.grounded)) (c.remove.ensures.others ∙ none-without name old.seats none)
    ∙ sym (none-withdrawn name old.seats old.grounded none)
    ∙ ap (λ (s : StoresRecord). filter (λ other. not (is_named name other)) (pending_of s)) c.self.view_is

pub remove-requires-2 : goal.remove-requires-2
remove-requires-2 g c =
    leaver-node (content_of c.self.inside) c.requires.0 (same-stores c.self.view_is c.requires.1) c.args.name.now c.in-Some.place (sym c.remove.ensures.place ∙ c.in-Some.is)

pub remove-requires-3 : goal.remove-requires-3
remove-requires-3 g c =
    leaver-found (content_of c.self.inside) c.requires.0 (same-stores c.self.view_is c.requires.1) c.args.name.now c.in-Some.place (sym c.remove.ensures.place ∙ c.in-Some.is)

pub returns-clause-stores : goal.returns-clause-stores
returns-clause-stores g c = λ rows stores.
    let name = c.args.name.now in
    let place = c.in-Some.place in
    let old = content_of c.self.inside in
    let kept = same-stores c.self.view_is stores in
    let at = sym c.remove.ensures.place ∙ c.in-Some.is in
    let after = c.remove-2.new.self in
    let new : StoresRecord = record { seats = c.remove.new.self; grounded = c.remove-3.new.self; links = c.unlink.new.links; matcher = after } in
    same-stores (same-content new (withdrawn old rows kept name place at after) c.remove.ensures.others c.remove-3.ensures c.unlink.ensures refl)
    (withdrawn-stores old rows kept name place at after c.remove-2.ensures.nodes c.remove-2.ensures.edges c.remove-2.ensures.matched)

pub returns-clause-left : goal.returns-clause-left
returns-clause-left g c = λ rows stores.
    let name = c.args.name.now in
    let kept = same-stores c.self.view_is stores in
    (λ i. queries_of (residents_at (c.remove.ensures.others i) (c.remove-3.ensures i)))
    ∙ withdrawn-pending (content_of c.self.inside) rows kept name c.in-Some.place (sym c.remove.ensures.place ∙ c.in-Some.is) c.remove-2.new.self
    ∙ ap (λ (s : StoresRecord). filter (λ other. not (is_named name other)) (pending_of s)) c.self.view_is

pub returns-in_default-clause-changes : goal.returns-in_default-clause-changes
returns-in_default-clause-changes g c = λ pool same stores.
    let none = lost-nobody pool (content_of c.self.inside) (same-stores c.self.view_is stores) c.args.name.now (sym c.remove.ensures.place ∙ c.in_default.is) (ap pending_of c.self.view_is ∙ same) in
    let fits = c.count-counted.type_inv in
    omega (arith, none, fits, c.count-counted.ensures)

pub returns-clause-changes : goal.returns-clause-changes
returns-clause-changes g c = λ pool same stores.
    subst (λ (n : ℕ). c.remove-2.new.meter ≡ raised c.args.changes.now n)
    (lost-kept pool (content_of c.self.inside) (same-stores c.self.view_is stores) c.args.name.now c.in-Some.place (sym c.remove.ensures.place ∙ c.in-Some.is)
    c.remove-2.new.self c.remove-2.ensures.nodes c.remove-2.ensures.edges c.remove-2.ensures.matched (ap pending_of c.self.view_is ∙ same))
    c.remove-2.ensures.counted
