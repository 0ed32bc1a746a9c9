use Rattle.std.proofs.Common.{◌≡◌, ℕ, ◌+◌, ◌<◌, ◌∷◌, true, false, not, Bool, List, length, drop, get_or, refl, sym, ap, ◌∙◌}
use Rattle.std.specs.Prelude.{Some}
use Rattle.std.specs.List.{find}
use Rattle.std.specs.Option.{option_map}
use Rattle.std.proofs.lemmas.List.{at_drop_more}
use mathlib.Core.Bool.{cond}
use Rattle.cq_atom.specs.Atom.{AtomRecord}
use Rattle.cq_rel.specs.Tables.{TablesRecord}
use Rattle.cq_near.specs.Unfit.{is_found, lack, first_unfit}
use Rattle.cq_near.proofs.unfit.first_unfit.Goals as goal

-- an atom that some row fits is passed over, and any other is the first
met_at : (tables : TablesRecord) (body : List AtomRecord) (i : ℕ) (atom : AtomRecord) (found : Bool) → i < length body → atom ≡ get_or body i atom → is_found tables atom ≡ found
    → first_unfit tables (drop i body) ≡ cond found (first_unfit tables (drop (i + 1) body)) (Some (lack tables atom))
met_at tables body i atom found low is how =
    at_drop_more (first_unfit tables) body i atom low ∙ ap (λ (a : AtomRecord). first_unfit tables (a ∷ drop (i + 1) body)) (sym is)
    ∙ ap (λ (b : Bool). option_map (lack tables) (cond (not b) (Some atom) (find (λ a. not (is_found tables a)) (drop (i + 1) body)))) how ∙ either found
  where
    either : (b : Bool) → option_map (lack tables) (cond (not b) (Some atom) (find (λ a. not (is_found tables a)) (drop (i + 1) body))) ≡ cond b (first_unfit tables (drop (i + 1) body)) (Some (lack tables atom))
    either true = refl
    either false = refl

pub loop-atom-preserved : goal.loop-atom-preserved
loop-atom-preserved g c =
    let there : is_found c.args.tables.now c.atom-item.result ≡ true = sym c.is_found.ensures ∙ c.if-not-is_found.false in
    sym (met_at c.args.tables.now c.args.body.now c.loop-atom.atom-index c.atom-item.result true c.loop-atom-test.true c.atom-item.is there) ∙ c.loop-atom.invariant

pub returns-then-not-is_found : goal.returns-then-not-is_found
returns-then-not-is_found g c =
    let none : is_found c.args.tables.now c.atom-item.result ≡ false = sym c.is_found.ensures ∙ c.if-not-is_found.true in
    ap Some c.in_ok-lack.ensures ∙ sym (met_at c.args.tables.now c.args.body.now c.loop-atom.atom-index c.atom-item.result false c.loop-atom-test.true c.atom-item.is none) ∙ c.loop-atom.invariant
