-- What stays true when a member is looked at, chosen, passed over, or taken back.
use Rattle.std.proofs.Common.{◌≡◌, ◌↔◌, ℕ, Bool, suc, ◌+◌, ◌<◌, ◌≤◌, ◌⊎◌, ⊎_elim, inl, inr, true, false, cond, Option, Some, None, List, [], ◌∷◌, ◌++◌, length, get_or, eqb, nat_eq, sym, ap, ◌∙◌, subst, arith}
use Rattle.std.specs.HashMap.{get}
use Rattle.std.specs.List.{Contains}
use Rattle.std.specs.declared.vec.Vec.{Vec}
use Rattle.std.proofs.lemmas.Bool.{cases_eq, cases_lt}
use Rattle.std.proofs.lemmas.List.{get_or_default, length_push}
use Rattle.std.proofs.lemmas.List.Elements.{Contains-append_left, Contains-get_or, Contains-push, Contains-push_cases}
use Rattle.cq_select.specs.declared.supply.Supply.{Supply}
use Rattle.cq_select.specs.declared.trail.Choice.{Choice}
use Rattle.cq_select.specs.declared.trail.Frame.{Frame}
use Rattle.cq_select.specs.declared.trail.Trail.{Trail}
use Rattle.cq_select.specs.Selection.{member_count, owner_of, suppliers_of}
use Rattle.cq_select.specs.Steps.Facts.{IsWithin, Nogood, Refuted, IsAsked, IsOpen, IsTrying, IsFrame, AreFrames, chosen_of, AreSeats, IsTrail, IsScanning, IsChoosing, IsLooking, IsExhausted, IsBlocked}
use Rattle.cq_select.proofs.Refuting.{supplied-by, refuted-more, refuted-always, refuted-taken, nogood-wanted, nogood-needed, refuted-rest}
use Rattle.cq_select.proofs.Trailing.{chosen-push, frames-push, frames-split, met-push, seats-push, seats-pop, alone}

module _ {A : Type 0} (supply : Supply A) (wanted : List ℕ) where
  -- a longer reason serves as well
  pub widened : (below : List ℕ) (choice : Choice A) (count : ℕ) (reason : Vec ℕ A) → IsOpen supply wanted below choice count → IsWithin choice.reason.items reason.items → IsWithin reason.items below
      → IsOpen supply wanted below (record choice { reason = reason }) count
  widened below choice count reason o more inside = record {
    met = o.met;
    low = o.low;
    needed = o.needed;
    unmet = o.unmet;
    caused = inside;
    refuted = λ k low. refuted-more supply wanted choice.reason.items reason.items (get_or (suppliers_of supply choice.atom) k 0) more (o.refuted k low);
  }

  -- the next supplier is refuted too
  pub one-more : (below : List ℕ) (choice : Choice A) (m count : ℕ) → IsOpen supply wanted below choice count → m ≡ get_or (suppliers_of supply choice.atom) count 0 → Refuted supply wanted choice.reason.items m
      → IsOpen supply wanted below choice (suc count)
  one-more below choice m count o served r = record {
    met = o.met;
    low = o.low;
    needed = o.needed;
    unmet = o.unmet;
    caused = o.caused;
    refuted = λ k low.
        ⊎_elim (λ before. o.refuted k before)
        (λ here. let same : count ≡ k = omega arith in subst (λ q. Refuted supply wanted choice.reason.items (get_or (suppliers_of supply choice.atom) q 0)) same (subst (Refuted supply wanted choice.reason.items) served r))
        (cases_lt k count);
  }

  -- ---- a candidate

  pub looking : (trail : Trail A) (choice : Choice A) (m : ℕ) → IsChoosing supply wanted trail → trail.choice.tried < length (suppliers_of supply trail.choice.atom) → m ≡ get_or (suppliers_of supply trail.choice.atom) trail.choice.tried 0
      → choice ≡ record trail.choice { tried = trail.choice.tried + 1 } → IsLooking supply wanted (record trail { choice = choice }) m
  looking trail choice m s low served next =
      let before = trail.choice in
      let below = chosen_of trail.frames.items in
      let open' : IsOpen supply wanted below (record before { tried = before.tried + 1 }) before.tried = record {
        met = s.choice.met;
        low = s.choice.low;
        needed = s.choice.needed;
        unmet = s.choice.unmet;
        caused = s.choice.caused;
        refuted = s.choice.refuted;
      } in
      let trying : IsTrying supply wanted below (record before { tried = before.tried + 1 }) m = record {
        count = before.tried;
        state = open';
        counted = let e : before.tried + 1 ≡ suc before.tried = omega arith in e;
        low = low;
        served = served;
      } in
      record {
        trail_is = record { frames = s.trail_is.frames; seats = s.trail_is.seats; dead = s.trail_is.dead; lost = s.trail_is.lost };
        trying = subst (λ (c : Choice A). IsTrying supply wanted below c m) (sym next) trying;
      }

  -- it is chosen
  pub closed : (trail after : Trail A) (owner m : ℕ) → IsLooking supply wanted trail m → m < member_count supply → owner ≡ owner_of supply m → get nat_eq trail.seats owner ≡ None
      → after.frames.items ≡ trail.frames.items ++ record { choice = trail.choice; member = m } ∷ [] → after.choice.list ≡ trail.choice.list → after.choice.place ≡ trail.choice.place
      → after.choice.tried ≡ 0 → after.choice.reason.items ≡ []
      → ((q : ℕ) → get nat_eq after.seats q ≡ cond (eqb owner q) (Some m) (get nat_eq trail.seats q)) → after.dead ≡ trail.dead → after.lost ≡ trail.lost → IsScanning supply wanted after
  closed trail after owner m s known is free frames list place fresh clear seats dead lost =
      let below = chosen_of trail.frames.items in
      let frame : Frame A = record { choice = trail.choice; member = m } in
      let o = s.trying.state in
      let all : chosen_of after.frames.items ≡ below ++ m ∷ [] = ap chosen_of frames ∙ chosen-push trail.frames.items frame in
      let made : IsFrame supply wanted below frame = record { trying = s.trying; known = known; alone = alone supply below (get nat_eq trail.seats) owner m s.trail_is.seats is free } in
      let len : length (below ++ m ∷ []) ≡ length below + 1 = length_push below m in
      let low : trail.choice.list ≤ length below = o.low in
      record {
        trail_is = record {
          frames = rw frames (frames-push supply wanted [] trail.frames.items frame s.trail_is.frames made);
          seats = subst (λ (l : List ℕ). AreSeats supply l (get nat_eq after.seats)) (sym all) (seats-push supply below (get nat_eq trail.seats) (get nat_eq after.seats) owner m s.trail_is.seats known is free seats);
          dead = rw dead s.trail_is.dead;
          lost = rw lost s.trail_is.lost;
        };
        low = rw (all, list) (omega (arith, len, low));
        met = rw (all, list, place) (met-push supply wanted below m trail.choice.list trail.choice.place o.low o.met);
        fresh = fresh;
        clear = clear;
      }

  -- no selection has it
  pub passed : (trail : Trail A) (m : ℕ) → IsLooking supply wanted trail m → Refuted supply wanted [] m → IsChoosing supply wanted trail
  passed trail m s r = record {
    trail_is = s.trail_is;
    choice = subst (IsOpen supply wanted (chosen_of trail.frames.items) trail.choice) (sym s.trying.counted)
        (one-more (chosen_of trail.frames.items) trail.choice m s.trying.count s.trying.state s.trying.served (refuted-always supply wanted trail.choice.reason.items m r));
  }

  -- another member of its owner is chosen
  pub noted : (trail : Trail A) (m other : ℕ) (reason : Vec ℕ A) → IsLooking supply wanted trail m → get nat_eq trail.seats (owner_of supply m) ≡ Some other → reason.items ≡ trail.choice.reason.items ++ other ∷ []
      → IsChoosing supply wanted (record trail { choice = record trail.choice { reason = reason } })
  noted trail m other reason s seat more =
      let below = chosen_of trail.frames.items in
      let t = s.trying in
      let sits = s.trail_is.seats.only (owner_of supply m) other seat in
      let has : Contains (suppliers_of supply trail.choice.atom) m = subst (Contains (suppliers_of supply trail.choice.atom)) (sym t.served) (Contains-get_or (suppliers_of supply trail.choice.atom) t.count 0 t.low) in
      let differs : other ≡ m → ⊥ = λ same. t.state.unmet (supplied-by supply below m trail.choice.atom (subst (Contains below) same sits.0) has) in
      let kept : IsWithin trail.choice.reason.items reason.items = λ q i. subst (λ (l : List ℕ). Contains l q) (sym more) (Contains-append_left trail.choice.reason.items (other ∷ []) q i) in
      let inside : IsWithin reason.items below = λ q i.
      ⊎_elim (λ old. t.state.caused q old) (λ same. subst (Contains below) same sits.0) (Contains-push_cases trail.choice.reason.items other q (subst (λ (l : List ℕ). Contains l q) more i)) in
      let there : Contains reason.items other = subst (λ (l : List ℕ). Contains l other) (sym more) (Contains-push trail.choice.reason.items other) in
      let wide = widened below trail.choice t.count reason t.state kept inside in
      record {
        trail_is = record { frames = s.trail_is.frames; seats = s.trail_is.seats; dead = s.trail_is.dead; lost = s.trail_is.lost };
        choice = subst (IsOpen supply wanted below (record trail.choice { reason = reason })) (sym t.counted)
            (one-more below (record trail.choice { reason = reason }) m t.count wide t.served (refuted-taken supply wanted reason.items m other there sits.1 differs));
      }

  -- ---- going back

  all-tried : (below : List ℕ) (choice : Choice A) → IsOpen supply wanted below choice choice.tried → length (suppliers_of supply choice.atom) ≤ choice.tried
      → (k : ℕ) → k < length (suppliers_of supply choice.atom) → Refuted supply wanted choice.reason.items (get_or (suppliers_of supply choice.atom) k 0)
  all-tried below choice o all k low = o.refuted k (omega arith)

  -- the suppliers of the atom are in no selection, where the reason is empty
  pub marked-lost : (trail : Trail A) (lost : Vec Bool A) → IsExhausted supply wanted trail
      → ((m : ℕ) → get_or lost.items m false ≡ true → (get_or trail.lost.items m false ≡ true) ⊎ ((m ≡ trail.choice.atom) × (trail.choice.reason.items ≡ [])))
      → IsExhausted supply wanted (record trail { lost = lost })
  marked-lost trail lost e marks =
      let o = e.choosing.choice in
      let t = e.choosing.trail_is in
      let atom = trail.choice.atom in
      let each = all-tried (chosen_of trail.frames.items) trail.choice o e.all in
      let now : (m : ℕ) → trail.choice.reason.items ≡ [] → Contains (suppliers_of supply atom) m → Refuted supply wanted [] m = λ m none at.
      subst (Refuted supply wanted []) (get_or_default (suppliers_of supply atom) at.0 0 m at.1 ∙ at.2) (subst (λ (reason : List ℕ). Refuted supply wanted reason (get_or (suppliers_of supply atom) at.0 0)) none (each at.0 at.1)) in
      record {
        choosing = record {
          trail_is = record {
            frames = t.frames;
            seats = t.seats;
            dead = t.dead;
            lost = record {
              never = λ a m mark at.
                  ⊎_elim (λ old. t.lost.never a m old at)
                  (λ h. now m h.1 (subst (λ (n : ℕ). Contains (suppliers_of supply n) m) h.0 at)) (marks a mark);
            };
          };
          choice = o;
        };
        all = e.all;
      }

  -- an atom that is marked has its suppliers passed over
  pub passed-over : (trail : Trail A) (count : ℕ) → IsChoosing supply wanted trail → get_or trail.lost.items trail.choice.atom false ≡ true → count ≡ length (suppliers_of supply trail.choice.atom)
      → IsChoosing supply wanted (record trail { choice = record trail.choice { tried = count } })
  passed-over trail count s mark is =
      let o = s.choice in
      let t = s.trail_is in
      record {
        trail_is = record { frames = t.frames; seats = t.seats; dead = t.dead; lost = t.lost };
        choice = record {
          met = o.met;
          low = o.low;
          needed = o.needed;
          unmet = o.unmet;
          caused = o.caused;
          refuted = λ k low.
              let within : k < length (suppliers_of supply trail.choice.atom) = subst (λ (n : ℕ). k < n) is low in
              refuted-always supply wanted trail.choice.reason.items (get_or (suppliers_of supply trail.choice.atom) k 0)
              (t.lost.never trail.choice.atom (get_or (suppliers_of supply trail.choice.atom) k 0) mark (Contains-get_or (suppliers_of supply trail.choice.atom) k 0 within));
        };
      }

  pub blocked-wanted : (trail : Trail A) → IsExhausted supply wanted trail → trail.choice.cause ≡ None → IsBlocked supply wanted trail
  blocked-wanted trail e is =
      let o = e.choosing.choice in
      let below = chosen_of trail.frames.items in
      let asked : IsAsked supply wanted below None trail.choice.atom = subst (λ (c : Option ℕ). IsAsked supply wanted below c trail.choice.atom) is o.needed in
      record {
        trail_is = e.choosing.trail_is;
        conflict = nogood-wanted supply wanted trail.choice.reason.items trail.choice.atom asked (all-tried below trail.choice o e.all);
        caused = o.caused;
      }

  pub blocked-needed : (trail : Trail A) (cause : ℕ) (reason : Vec ℕ A) → IsExhausted supply wanted trail → trail.choice.cause ≡ Some cause → reason.items ≡ trail.choice.reason.items ++ cause ∷ []
      → IsBlocked supply wanted (record trail { choice = record trail.choice { reason = reason } })
  blocked-needed trail cause reason e is more =
      let o = e.choosing.choice in
      let t = e.choosing.trail_is in
      let below = chosen_of trail.frames.items in
      let asked : IsAsked supply wanted below (Some cause) trail.choice.atom = subst (λ (c : Option ℕ). IsAsked supply wanted below c trail.choice.atom) is o.needed in
      record {
        trail_is = record { frames = t.frames; seats = t.seats; dead = t.dead; lost = t.lost };
        conflict = subst (Nogood supply wanted) (sym more) (nogood-needed supply wanted trail.choice.reason.items cause trail.choice.atom asked.1 (all-tried below trail.choice o e.all));
        caused = λ q i. ⊎_elim (λ old. o.caused q old) (λ same. subst (Contains below) same asked.0) (Contains-push_cases trail.choice.reason.items cause q (subst (λ (l : List ℕ). Contains l q) more i));
      }

  pub taken-back : (trail after : Trail A) (frame : Frame A) → IsTrail supply wanted trail → trail.frames.items ≡ after.frames.items ++ frame ∷ [] → after.dead ≡ trail.dead → after.lost ≡ trail.lost
      → (frame.member < member_count supply → (q : ℕ) → get nat_eq after.seats q ≡ cond (eqb (owner_of supply frame.member) q) None (get nat_eq trail.seats q))
      → IsTrail supply wanted after × IsFrame supply wanted (chosen_of after.frames.items) frame
  taken-back trail after frame t is dead lost less =
      let rest = after.frames.items in
      let parts = frames-split supply wanted [] rest frame (subst (AreFrames supply wanted []) is t.frames) in
      let sit : AreSeats supply (chosen_of rest ++ frame.member ∷ []) (get nat_eq trail.seats) = subst (λ (l : List ℕ). AreSeats supply l (get nat_eq trail.seats)) (ap chosen_of is ∙ chosen-push rest frame) t.seats in (
        record {
          frames = parts.0;
          seats = seats-pop supply (chosen_of rest) (get nat_eq trail.seats) (get nat_eq after.seats) frame.member sit parts.1.alone (less parts.1.known);
          dead = rw dead t.dead;
          lost = rw lost t.lost;
        },
        parts.1,
      )

  pub conflict-back : (trail after : Trail A) (frame : Frame A) → IsBlocked supply wanted trail → after.choice ≡ trail.choice → trail.frames.items ≡ after.frames.items ++ frame ∷ []
      → Nogood supply wanted after.choice.reason.items × IsWithin after.choice.reason.items (chosen_of after.frames.items ++ frame.member ∷ [])
  conflict-back trail after frame b same is =
      let reason : after.choice.reason.items ≡ trail.choice.reason.items = ap (λ (c : Choice A). c.reason.items) same in
      let chosen : chosen_of trail.frames.items ≡ chosen_of after.frames.items ++ frame.member ∷ [] = ap chosen_of is ∙ chosen-push after.frames.items frame in
      (subst (Nogood supply wanted) (sym reason) b.conflict, λ q i. subst (λ (l : List ℕ). Contains l q) chosen (b.caused q (subst (λ (l : List ℕ). Contains l q) reason i)))

  -- the member that is taken back has no part in it
  pub still-blocked : (trail after : Trail A) (frame : Frame A) → IsBlocked supply wanted trail → after.choice ≡ trail.choice → trail.frames.items ≡ after.frames.items ++ frame ∷ []
      → IsTrail supply wanted after → (Contains after.choice.reason.items frame.member → ⊥) → IsBlocked supply wanted after
  still-blocked trail after frame b same is t out =
      let back = conflict-back trail after frame b same is in
      record {
        trail_is = t;
        conflict = back.0;
        caused = λ q i.
            ⊎_elim (λ old. old) (λ here. absurd (out (subst (Contains after.choice.reason.items) (sym here) i)))
            (Contains-push_cases (chosen_of after.frames.items) frame.member q (back.1 q i));
      }

  -- the choice is opened again whose member the conflict has
  pub reopened : (trail after : Trail A) (frame : Frame A) → IsTrail supply wanted trail → IsFrame supply wanted (chosen_of trail.frames.items) frame
      → Nogood supply wanted trail.choice.reason.items → IsWithin trail.choice.reason.items (chosen_of trail.frames.items ++ frame.member ∷ [])
      → after.frames ≡ trail.frames → after.seats ≡ trail.seats → after.lost ≡ trail.lost → after.choice ≡ record frame.choice { reason = after.choice.reason }
      → ((m : ℕ) → Contains after.choice.reason.items m ↔ (Contains frame.choice.reason.items m ⊎ (Contains trail.choice.reason.items m × (m ≡ frame.member → ⊥))))
      → length after.dead.items ≡ length trail.dead.items
      → ((m : ℕ) → get_or after.dead.items m false ≡ true → (get_or trail.dead.items m false ≡ true) ⊎ ((m ≡ frame.member) × ((other : ℕ) → Contains trail.choice.reason.items other → (other ≡ frame.member → ⊥) → ⊥)))
      → IsChoosing supply wanted after
  reopened trail after frame t made nogood inside frames seats lost choice reason len dead =
      let below = chosen_of trail.frames.items in
      let conflict = trail.choice.reason.items in
      let more = after.choice.reason in
      let m = frame.member in
      let y = made.trying in
      let refuted : Refuted supply wanted more.items m = refuted-rest supply wanted conflict more.items m nogood
      (λ q i. ⊎_elim (λ same. inl same) (λ ne. inr ((reason q).1 (inr (i, ne)))) (cases_eq q m)) in
      let kept : IsWithin frame.choice.reason.items more.items = λ q i. (reason q).1 (inl i) in
      let within : IsWithin more.items below = λ q i.
      ⊎_elim (λ old. y.state.caused q old)
      (λ h. ⊎_elim (λ old. old) (λ same. absurd (h.1 (sym same))) (Contains-push_cases below m q (inside q h.0))) ((reason q).0 i) in
      let wide = widened below frame.choice y.count more y.state kept within in
      let next : IsOpen supply wanted below (record frame.choice { reason = more }) frame.choice.tried =
      subst (IsOpen supply wanted below (record frame.choice { reason = more })) (sym y.counted) (one-more below (record frame.choice { reason = more }) m y.count wide y.served refuted) in
      let there : IsOpen supply wanted below after.choice after.choice.tried = subst (λ (c : Choice A). IsOpen supply wanted below c c.tried) (sym choice) next in
      record {
        trail_is = record {
          frames = rw frames t.frames;
          seats = rw (frames, seats) t.seats;
          lost = rw lost t.lost;
          dead = record {
            len = len ∙ t.dead.len;
            never = λ q mark.
                ⊎_elim (λ old. t.dead.never q old)
                (λ h. subst (Refuted supply wanted []) (sym h.0) (refuted-rest supply wanted conflict [] m nogood
                (λ other i. ⊎_elim (λ same. inl same) (λ ne. absurd (h.1 other i ne)) (cases_eq other m))))
                (dead q mark);
          };
        };
        choice = rw frames there;
      }
