use Rattle.std.proofs.Common.{◌≡◌, ℕ, nat_eq, List, [], ◌∷◌, ◌++◌, append_assoc, refl, sym, ap, subst, ◌∙◌}
use Rattle.std.specs.List.{IsDistinct}
use Rattle.std.specs.Map.{keys_of}
use Rattle.std.specs.Map.Iter.{deref_pair}
use Rattle.std.proofs.lemmas.Map.Iter.{rest_more}
use Rattle.std.proofs.lemmas.Result.{IfOk-from_err}
use Rattle.cq_atom.specs.Atom.{AtomRecord}
use Rattle.cq_index.proofs.Copied.{copied_absent, copied_all, copied_more}
use Rattle.cq_index.proofs.index.AtomIndex.copy.Goals as goal

pub loop-place-init : goal.loop-place-init
loop-place-init g c = record { done = []; split = refl; made = c.begin-copy.ensures }

pub add-requires : goal.add-requires
add-requires g c =
    let whole = c.into_iter-place-iterator.result in
    let gives = c.into_iter-place-iterator.ensures.into_iter_gives in
    let distinct : IsDistinct nat_eq (keys_of whole) = subst (λ (l : List (ℕ × AtomRecord)). IsDistinct nat_eq (keys_of l)) (sym gives.0) gives.4 in
    let now = c.loop-place.invariant in
    let more = rest_more deref_pair c.loop-place.place-iterator c.next.new.self c.next.result (c.in-Some.place, c.in-Some.atom) c.in-Some.is c.next.ensures.steps in
    copied_absent c.loop-place.copy now.done (c.in-Some.place.now, c.in-Some.atom.now) c.next.new.self whole now.made (now.split ∙ ap (λ l. now.done ++ l) more) distinct

pub loop-place-preserved : goal.loop-place-preserved
loop-place-preserved g c =
    let whole = c.into_iter-place-iterator.result in
    let gives = c.into_iter-place-iterator.ensures.into_iter_gives in
    let distinct : IsDistinct nat_eq (keys_of whole) = subst (λ (l : List (ℕ × AtomRecord)). IsDistinct nat_eq (keys_of l)) (sym gives.0) gives.4 in
    let now = c.loop-place.invariant in
    let item : ℕ × AtomRecord = (c.in-Some.place.now, c.in-Some.atom.now) in
    let more = rest_more deref_pair c.loop-place.place-iterator c.next.new.self c.next.result (c.in-Some.place, c.in-Some.atom) c.in-Some.is c.next.ensures.steps in
    let split : whole ≡ now.done ++ item ∷ c.next.new.self = now.split ∙ ap (λ l. now.done ++ l) more in
    record {
      done = now.done ++ item ∷ [];
      split = split ∙ sym (append_assoc now.done (item ∷ []) c.next.new.self);
      made = copied_more c.loop-place.copy c.add.new.self now.done item c.next.new.self whole now.made split distinct c.in_ok-add.ensures.ok;
    }

pub returns-in_err-add : goal.returns-in_err-add
returns-in_err-add g c = IfOk-from_err c.from_residual.result _ c.from_residual.ensures.0

pub returns : goal.returns
returns g c =
    let now = c.loop-place.invariant in
    copied_all c.loop-place.copy c.args.self.now now.done c.loop-place.place-iterator c.into_iter-place-iterator.result c.self.inside.kept.entries
    now.made now.split c.in-None.ensures.steps.0 c.into_iter-place-iterator.ensures.into_iter_gives.0 c.self.view_is
