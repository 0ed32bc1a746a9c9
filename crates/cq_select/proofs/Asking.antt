-- What stays true as the next need is looked for.
use Rattle.std.proofs.Common.{◌≡◌, ℕ, zero, suc, ◌+◌, ◌≤◌, ⊎_elim, Option, List, length, get_or, take, sym, ap, ◌∙◌, subst, arith}
use Rattle.std.specs.List.{All, Contains}
use Rattle.std.proofs.lemmas.Bool.{cases_lt}
use Rattle.std.proofs.lemmas.List.Elements.{All-nil, Contains-get_or}
use Rattle.cq_select.specs.declared.supply.Supply.{Supply}
use Rattle.cq_select.specs.declared.trail.Choice.{Choice}
use Rattle.cq_select.specs.declared.trail.Trail.{Trail}
use Rattle.cq_select.specs.Selection.{IsSupplied}
use Rattle.cq_select.specs.Steps.Facts.{asker, asked_by, asked, IsFirstUnmet, IsAsked, IsMet, IsOpen, chosen_of, IsScanning, IsChoosing}
use Rattle.cq_select.proofs.Trailing.{none-within}

module _ {A : Type 0} (supply : Supply A) (wanted : List ℕ) where
  asked-for : (below : List ℕ) (list atom : ℕ) → list ≤ length below → Contains (asked supply wanted below list) atom → IsAsked supply wanted below (asker below list) atom
  asked-for below zero atom low i = i
  asked-for below (suc k) atom low i = (Contains-get_or below k 0 (omega arith), i)

  -- all before the place is supplied
  pub front-met : (trail : Trail A) (cause : Option ℕ) (atoms : List ℕ) → IsScanning supply wanted trail → cause ≡ asker (chosen_of trail.frames.items) trail.choice.list → atoms ≡ asked_by supply wanted cause
      → All (IsSupplied supply (chosen_of trail.frames.items)) (take trail.choice.place atoms)
  front-met trail cause atoms s by is =
      let same : atoms ≡ asked supply wanted (chosen_of trail.frames.items) trail.choice.list = is ∙ ap (asked_by supply wanted) by in
      subst (λ (l : List ℕ). All (IsSupplied supply (chosen_of trail.frames.items)) (take trail.choice.place l)) (sym same) s.met.front

  pub need-found : (trail : Trail A) (choice : Choice A) (place : ℕ) (cause : Option ℕ) (atoms : List ℕ) → IsScanning supply wanted trail → trail.choice.list ≤ length (chosen_of trail.frames.items)
      → cause ≡ asker (chosen_of trail.frames.items) trail.choice.list → atoms ≡ asked_by supply wanted cause → IsFirstUnmet supply (chosen_of trail.frames.items) atoms place
      → choice ≡ record trail.choice { place = place; atom = get_or atoms place 0; cause = cause } → IsChoosing supply wanted (record trail { choice = choice })
  need-found trail choice place cause atoms s low by is f next =
      let below = chosen_of trail.frames.items in
      let before = trail.choice in
      let atom = get_or atoms place 0 in
      let same : atoms ≡ asked supply wanted below before.list = is ∙ ap (asked_by supply wanted) by in
      let among : Contains (asked supply wanted below before.list) atom = subst (λ (l : List ℕ). Contains l atom) same (Contains-get_or atoms place 0 f.low) in
      let met : IsMet supply wanted below before.list place = record {
        lists = s.met.lists;
        front = subst (λ (l : List ℕ). All (IsSupplied supply below) (take place l)) same f.before;
      } in
      let there : IsOpen supply wanted below (record before { place = place; atom = atom; cause = cause }) before.tried = record {
        met = met;
        low = low;
        needed = subst (λ (m : Option ℕ). IsAsked supply wanted below m atom) (sym by) (asked-for below before.list atom low among);
        unmet = f.unmet;
        caused = λ q i. none-within below q (subst (λ (l : List ℕ). Contains l q) s.clear i);
        refuted = λ k h. absurd (let none : before.tried ≡ 0 = s.fresh in omega arith);
      } in
      record {
        trail_is = record { frames = s.trail_is.frames; seats = s.trail_is.seats; dead = s.trail_is.dead; lost = s.trail_is.lost };
        choice = subst (λ (c : Choice A). IsOpen supply wanted below c c.tried) (sym next) there;
      }

  pub list-met : (trail : Trail A) (choice : Choice A) (cause : Option ℕ) (atoms : List ℕ) → IsScanning supply wanted trail → trail.choice.list ≤ length (chosen_of trail.frames.items)
      → cause ≡ asker (chosen_of trail.frames.items) trail.choice.list → atoms ≡ asked_by supply wanted cause → All (IsSupplied supply (chosen_of trail.frames.items)) atoms
      → choice ≡ record trail.choice { list = trail.choice.list + 1; place = 0 } → IsScanning supply wanted (record trail { choice = choice })
  list-met trail choice cause atoms s low by is all next =
      let below = chosen_of trail.frames.items in
      let list = trail.choice.list in
      let same : atoms ≡ asked supply wanted below list = is ∙ ap (asked_by supply wanted) by in
      let met : IsMet supply wanted below (list + 1) 0 = record {
        lists = λ k h.
            ⊎_elim (λ before. s.met.lists k before)
            (λ past. let here : list ≡ k = omega arith in subst (λ j. All (IsSupplied supply below) (asked supply wanted below j)) here (subst (All (IsSupplied supply below)) same all))
            (cases_lt k list);
        front = All-nil (IsSupplied supply below);
      } in
      let now : choice.list ≡ list + 1 = ap (λ (c : Choice A). c.list) next in
      let start : choice.place ≡ 0 = ap (λ (c : Choice A). c.place) next in
      record {
        trail_is = record { frames = s.trail_is.frames; seats = s.trail_is.seats; dead = s.trail_is.dead; lost = s.trail_is.lost };
        low = omega (arith, low, now);
        met = rw (now, start) met;
        fresh = ap (λ (c : Choice A). c.tried) next ∙ s.fresh;
        clear = ap (λ (c : Choice A). c.reason.items) next ∙ s.clear;
      }
