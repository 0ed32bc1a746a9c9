-- The choices made, the seats, and what is met, as choices are made and taken back.
use Rattle.std.proofs.Common.{◌≡◌, ℕ, zero, suc, ◌<◌, ◌≤◌, ⊎_elim, false, cond, Option, Some, None, List, [], ◌∷◌, ◌++◌, length, get_or, map, take, eqb, nat_eq, eq-eqb, refl, sym, ap, ◌∙◌, subst, arith}
use Rattle.std.specs.List.{All, Contains, IsDistinct}
use Rattle.std.proofs.lemmas.Bool.{eqb-true, eqb-false, ne_eqb}
use Rattle.std.proofs.lemmas.Cmp.{nat_eq_equiv}
use Rattle.std.proofs.lemmas.List.{append-nil, append_assoc, get_or_append_left, get_or_default, map_push}
use Rattle.std.proofs.lemmas.List.Elements.{All-pop, All-push, All-map, All-weaker, Contains-append_left, Contains-get_or, Contains-push, Contains-push_cases}
use Rattle.std.proofs.lemmas.List.Folds.{list_any_none}
use Rattle.std.proofs.lemmas.Map.Keys.{IsDistinct-push, IsDistinct-from_apart}
use Rattle.std.proofs.lemmas.Option.{none-some, same_Some}
use Rattle.cq_select.specs.declared.supply.Supply.{Supply}
use Rattle.cq_select.specs.declared.trail.Frame.{Frame}
use Rattle.cq_select.specs.Selection.{member_count, owner_of, needs_of, IsSupplied, IsSelection}
use Rattle.cq_select.specs.Steps.Facts.{IsWithin, asked, IsMet, IsFrame, AreFrames, chosen_of, AreSeats}
use Rattle.cq_select.proofs.Refuting.{by_bool, supplied-wider}

pub chosen-push : {A : Type 0} (frames : List (Frame A)) (frame : Frame A) → chosen_of (frames ++ frame ∷ []) ≡ chosen_of frames ++ frame.member ∷ []
chosen-push frames frame = map_push (λ f. f.member) frames frame

pub none-within : (xs : List ℕ) → IsWithin [] xs
none-within xs q (k, low, at) = absurd (let none : k < 0 = low in omega arith)

pub push-within : (xs : List ℕ) (m : ℕ) → IsWithin xs (xs ++ m ∷ [])
push-within xs m q i = Contains-append_left xs (m ∷ []) q i

module _ {A : Type 0} (supply : Supply A) (wanted : List ℕ) where
  -- ---- the choices

  pub frames-push : (below : List ℕ) (frames : List (Frame A)) (frame : Frame A) → AreFrames supply wanted below frames → IsFrame supply wanted (below ++ chosen_of frames) frame → AreFrames supply wanted below (frames ++ frame ∷ [])
  frames-push below [] frame all here = (subst (λ (l : List ℕ). IsFrame supply wanted l frame) (append-nil below) here, tt)
  frames-push below (first ∷ frames) frame all here = (
    all.0,
    frames-push (below ++ first.member ∷ []) frames frame all.1
        (subst (λ (l : List ℕ). IsFrame supply wanted l frame) (sym (append_assoc below (first.member ∷ []) (chosen_of frames))) here),
  )

  pub frames-split : (below : List ℕ) (frames : List (Frame A)) (frame : Frame A) → AreFrames supply wanted below (frames ++ frame ∷ []) → AreFrames supply wanted below frames × IsFrame supply wanted (below ++ chosen_of frames) frame
  frames-split below [] frame all = (tt, subst (λ (l : List ℕ). IsFrame supply wanted l frame) (sym (append-nil below)) all.0)
  frames-split below (first ∷ frames) frame all =
      let rest = frames-split (below ++ first.member ∷ []) frames frame all.1 in
      ((all.0, rest.0), subst (λ (l : List ℕ). IsFrame supply wanted l frame) (append_assoc below (first.member ∷ []) (chosen_of frames)) rest.1)

  apart-more : (below : List ℕ) (frames : List (Frame A)) → AreFrames supply wanted below frames → IsDistinct nat_eq (map (owner_of supply) below) → IsDistinct nat_eq (map (owner_of supply) (below ++ chosen_of frames))
  apart-more below [] all d = rw append-nil d
  apart-more below (first ∷ frames) all d =
      let owner = owner_of supply in
      let m = first.member in
      let free = list_any_none (nat_eq (owner m)) (map owner below)
      (All-map (λ q. nat_eq (owner m) q ≡ false) owner below (λ k e low. ne_eqb (owner m) (owner (get_or below k e)) (λ same. all.0.alone (get_or below k e) (Contains-get_or below k e low) (sym same)))) in
      let more : IsDistinct nat_eq (map owner (below ++ m ∷ [])) = rw (map_push owner below m) (IsDistinct-push nat_eq_equiv (map owner below) (owner m) d free) in
      subst (λ (l : List ℕ). IsDistinct nat_eq (map owner l)) (append_assoc below (m ∷ []) (chosen_of frames)) (apart-more (below ++ m ∷ []) frames all.1 more)

  -- ---- what is met

  pub asked-kept : (below : List ℕ) (m list : ℕ) → list ≤ length below → asked supply wanted (below ++ m ∷ []) list ≡ asked supply wanted below list
  asked-kept below m zero low = refl
  asked-kept below m (suc k) low = ap (needs_of supply) (get_or_append_left below (m ∷ []) 0 k (omega arith))

  pub met-push : (below : List ℕ) (m list place : ℕ) → list ≤ length below → IsMet supply wanted below list place → IsMet supply wanted (below ++ m ∷ []) list place
  met-push below m list place low met =
      let wider = λ (atom : ℕ) (h : IsSupplied supply below atom). supplied-wider supply below (below ++ m ∷ []) atom (push-within below m) h in
      record {
        lists = λ k h. rw (asked-kept below m k (omega arith)) (All-weaker (IsSupplied supply below) (IsSupplied supply (below ++ m ∷ [])) wider (asked supply wanted below k) (met.lists k h));
        front = rw (asked-kept below m list low) (All-weaker (IsSupplied supply below) (IsSupplied supply (below ++ m ∷ [])) wider (take place (asked supply wanted below list)) met.front);
      }

  -- where all lists are met, those chosen are a selection
  pub complete : (frames : List (Frame A)) (seats : ℕ → Option ℕ) (list place : ℕ) → AreFrames supply wanted [] frames → AreSeats supply (chosen_of frames) seats
      → IsMet supply wanted (chosen_of frames) list place → length (chosen_of frames) < list → IsSelection supply wanted (chosen_of frames)
  complete frames seats list place all sit met past =
      let chosen = chosen_of frames in
      record {
        known = sit.known;
        apart = apart-more [] frames all (IsDistinct-from_apart nat_eq [] (λ i j d before low. absurd (let none : j < 0 = low in omega arith)));
        needs = λ k d low. subst (λ m. All (IsSupplied supply chosen) (needs_of supply m)) (get_or_default chosen k 0 d low) (met.lists (suc k) (omega arith));
        wants = met.lists 0 (omega arith);
      }

module _ {A : Type 0} (supply : Supply A) where
  -- ---- the seats

  pub seats-push : (below : List ℕ) (seats after : ℕ → Option ℕ) (owner m : ℕ) → AreSeats supply below seats → m < member_count supply → owner ≡ owner_of supply m → seats owner ≡ None
      → ((q : ℕ) → after q ≡ cond (eqb owner q) (Some m) (seats q)) → AreSeats supply (below ++ m ∷ []) after
  seats-push below seats after owner m sit known is free more = record {
    known = All-push (λ q. q < member_count supply) below m sit.known known;
    each = λ q i.
        ⊎_elim
        (λ old. by_bool (eqb owner (owner_of supply q)) (after (owner_of supply q) ≡ Some q)
        (λ t. absurd (none-some q (sym free ∙ ap seats (eqb-true owner (owner_of supply q) t) ∙ sit.each q old)))
        (λ f. more (owner_of supply q) ∙ ap (λ b. cond b (Some m) (seats (owner_of supply q))) f ∙ sit.each q old))
        (λ same. more (owner_of supply q) ∙ ap (λ b. cond b (Some m) (seats (owner_of supply q))) (eq-eqb owner (owner_of supply q) (is ∙ ap (owner_of supply) same)) ∙ ap Some same)
        (Contains-push_cases below m q i);
    only = λ o q e.
        by_bool (eqb owner o) (Contains (below ++ m ∷ []) q × (owner_of supply q ≡ o))
        (λ t.
        let same : m ≡ q = same_Some m q (sym (more o ∙ ap (λ b. cond b (Some m) (seats o)) t) ∙ e) in
        (subst (Contains (below ++ m ∷ [])) same (Contains-push below m), ap (owner_of supply) (sym same) ∙ sym is ∙ eqb-true owner o t))
        (λ f.
        let old = sit.only o q (sym (more o ∙ ap (λ b. cond b (Some m) (seats o)) f) ∙ e) in
        (push-within below m q old.0, old.1));
  }

  pub seats-pop : (below : List ℕ) (seats after : ℕ → Option ℕ) (m : ℕ) → AreSeats supply (below ++ m ∷ []) seats → ((q : ℕ) → Contains below q → owner_of supply q ≡ owner_of supply m → ⊥)
      → ((q : ℕ) → after q ≡ cond (eqb (owner_of supply m) q) None (seats q)) → AreSeats supply below after
  seats-pop below seats after m sit alone less =
      let owner = owner_of supply m in
      record {
        known = (All-pop (λ q. q < member_count supply) (below ++ m ∷ []) below (Some m) refl sit.known).0;
        each = λ q i.
            less (owner_of supply q) ∙ ap (λ b. cond b None (seats (owner_of supply q))) (ne_eqb owner (owner_of supply q) (λ e. alone q i (sym e))) ∙ sit.each q (push-within below m q i);
        only = λ o q e.
            by_bool (eqb owner o) (Contains below q × (owner_of supply q ≡ o))
            (λ t. absurd (none-some q (sym (less o ∙ ap (λ b. cond b None (seats o)) t) ∙ e)))
            (λ f.
            let old = sit.only o q (sym (less o ∙ ap (λ b. cond b None (seats o)) f) ∙ e) in
            (⊎_elim (λ i. i) (λ same. absurd (eqb-false owner o f (ap (owner_of supply) same ∙ old.1))) (Contains-push_cases below m q old.0), old.1));
      }

  -- whose owner's seat is free has an owner of its own
  pub alone : (below : List ℕ) (seats : ℕ → Option ℕ) (owner m : ℕ) → AreSeats supply below seats → owner ≡ owner_of supply m → seats owner ≡ None → (q : ℕ) → Contains below q → owner_of supply q ≡ owner_of supply m → ⊥
  alone below seats owner m sit is free q i e = none-some q (sym free ∙ ap seats (is ∙ sym e) ∙ sit.each q i)
