-- It counts the bytes, asks the inner allocator, and counts them less where that refuses. Assumes `Logic`.
use Rattle.cq_budget.proofs.Steps.{◌≡◌, Bool, true, false, [], ◌∷◌, Ok, Err, refl, w64, proved, after, front, arm_body, Al, token, seen, Answer, answer_val, Answer-typed, Answer-Ok, Answer-err, Allocates, at_allocates, Answered, Allocates-goes, Allocates-gives, answers, block_if_ok, Fn, Val, vunit, vbool, inst_fn, id⊢, ftrue, flft, size, align, capped, ◌⊑◌, ⊑_trans, fact, tables, ‵, raw, ◌⊛◌, some, later, given, prop, at_ret, any_q, After, Sq, ◌$◌, ◌∵◌, !, qed, move, keep, use0, use1, use2, split, join, pick, learn, fsplit, fjoin, suffices, await, done, agg, whole, vrt, in_variant, enter, lit, of_opd, addr, stop, fld, no_more, and_then, first, branches, skips, switches_on, exec, returns, returns_within, alloc_all, pass_all, free_all, look_at, get, get_in, get_tag, through, sets, sets_last, lands_as, env, Env, Wp, after_seq, at_return, Body, usize, yes, unhide, shr_dup, hidden_shr, uint_vals, uint_Tells, owns, block_ptr, shr_vals, plain, types_at, heard, nothing, calls_at, Ended, framed, Stays, walk_of, stay_dropped, Goes-dropped, ends_at}
use Rattle.cq_budget.proofs.Calls.{Counted, Attempted, Typed, args, self, inner_at, count_at, at_bytes, Takes, Takes-goes, Takes-gives, Frees, Frees-goes, Frees-gives, at_attempt, Asks, Asks-goes, Asks-gives, Ends, Ends-goes, Ends-gives}
use Rattle.cq_budget.proofs.count.Count.TheLaws.{the_row_laws as count_laws}
use Rattle.cq_budget.proofs.count.Count.take.Met.{met as takes_met}
use Rattle.cq_budget.proofs.count.Attempt.is_refused.Met.{met as asks_met}
use Rattle.cq_budget.proofs.count.Attempt.end.Met.{met as ends_met}
use Rattle.cq_budget.proofs.count.Count.give.Met.{met as gives_met}
use Rattle.cq_budget.specs.contracts.BudgetAllocator.allocate as f
use Rattle.cq_budget.proofs.BudgetAllocator.allocate.Statement.{statement}
use Rattle.cq_budget.proofs.BudgetAllocator.allocate.Code as code

module _ (Z : Al) where
  abbrev ended : Ended
  ended = f.ended Z.row Z.g Z.d Z.drops

  abbrev stayed : Stays ended.signature.params ended.kept
  stayed = (stay_dropped (self Z) yes, (stay_dropped (plain (λ _. usize)) yes, (stay_dropped (plain (λ _. usize)) yes, tt)))

pub allocate_spec : {M : Type 1} → statement M
allocate_spec 𝓤 𝓛 𝓜 𝓡 wired B L B_ghosts B_dict B_drops met _ =
    let Z : Al = record { row = B; laws = L; g = B_ghosts; d = B_dict; drops = B_drops } in
    let here : Fn = inst_fn (args Z) code.function in
    let c = f.clauses B B_ghosts B_dict B_drops 𝓛 𝓜.mem 𝓡.returns in let W = walk_of 𝓛 (ended Z) (stayed Z) c in
    let 𝓣 = tables 𝓤 𝓛.H 𝓜 𝓡 𝓡.env in
    let goes = Goes-dropped 𝓛 2 (plain (λ _. usize)) yes (λ κs x w. refl) in
    proved 𝓛 (ended Z) (stayed Z) c 𝓜 𝓡 (Goes-dropped 𝓛 2 (self Z) yes (λ κs x w. refl), (goes, (goes, tt)))
    (f.Key.name (args Z)) here (code.unfolded 𝓤 𝓛.H 𝓜 𝓡 wired (B, tt) B_dict B_drops)
    (λ κs. (shr_vals, (uint_vals w64, (uint_vals w64, tt)))) (λ κs. ((λ r vs s. s.0), (uint_Tells w64, (uint_Tells w64, tt)))) (λ κs qs bounds a τ are.
    let κ₁ = κs.0 in let κ₂ = κs.1.0 in let q₁ = qs.0 in let q₂ = qs.1.0 in
    let r = a.0 in let n = a.1.0 in let al = a.1.1.0 in
    let y : W.Ghost = ((κs, qs, bounds, a, (shr_vals r, (uint_vals w64 n, (uint_vals w64 al, tt)))), τ) in
    let Said : Type 0 = (capped (size τ) ≡ n) × (capped (align τ) ≡ al) in
    let out : (v : Val) (x : Answer.Denot) → Sq 𝓛 (‵ (Answer.own_val x (v ∷ [])) ∷ ‵ (block_if_ok (token Z r.now.inner) τ x) ∷ ‵ (flft κ₁ q₁) ∷ (‵ (flft κ₂ q₂) ⊛ ‵ ftrue) ∷ []) (prop (W.post y v)) = λ v x.
    suffices ! _ (ends_at 𝓛 (ended Z) (stayed Z) c y v x (tt, (tt, (tt, tt))) (tt, (tt, (tt, tt)))) $
    nothing ! $ nothing ! $ fjoin ! $ nothing ! $ fjoin ! $ nothing ! $ fjoin ! $ join ! $ move ! (2 ∷ 3 ∷ []) $ join ! $ join ! $ done ! in
    qed 𝓛 (((‵ (flft κ₁ q₁) ⊛ ‵ (flft κ₂ q₂) ⊛ ‵ ftrue) ⊛ ‵ (owns (types_at (ended Z).signature.params κs) a y.0.4)) ∷ (raw (fact 𝓤 (κ₂ ⊑ B.lives)) ⊛ raw (fact 𝓤 Said)) ∷ []) ∵
    move ! (1 ∷ []) $ split ! $ heard ! (κ₂ ⊑ B.lives) (λ le. heard ! Said (λ said.
    split ! $ split ! $ move ! (2 ∷ []) $ fsplit ! $ fsplit ! $ move ! (1 ∷ []) $ unhide ! $ fsplit ! $ fsplit ! $
    use1 𝓛 (‵ (seen Z κ₁ (inner_at Z r) r.now.inner)) (id⊢ 𝓤 _) $ move ! (1 ∷ []) $ fsplit ! $ keep ! (0 ∷ 6 ∷ 2 ∷ 7 ∷ []) $
    let m = 𝓜.mem in let run = 𝓡.returns in let fm = framed 𝓤 𝓛.H 𝓜 𝓣 in
    let held = r.now.count in let at = count_at Z r in let bytes = at_bytes 𝓛 m run κ₁ q₁ held at n in
    use1 𝓛 (‵ (hidden_shr Counted κ₁ held at.0 at.1)) (id⊢ 𝓤 _) $ shr_dup ! Counted count_laws.shr_laws held at.0 at.1 κ₁ $ move ! (0 ∷ 2 ∷ []) $
    -- [the count; the token of κ₁; the count again; the inner allocator; the token of κ₂]
    enter ! _ _ _ _ _ $
    alloc_all ! (λ l. pass_all ! refl ((tt, tt), ((tt, record { fits = are.1.0.1 }), ((tt, record { fits = are.1.1.0.1 }), tt))) $
    let En : Env 𝓤 𝓛.H = env here.locals l in
    let Then : After 𝓤 𝓛.H = any_q (after_seq 𝓤 𝓛.H (Wp 𝓤 𝓛.H 𝓣.C 𝓣.Λ En (after 7 here.body) (at_return 𝓤 𝓛.H En (W.post y))) (at_return 𝓤 𝓛.H En (W.post y))) in
    let arms : Body = front (after 6 here.body) in
    sets ! (addr ! (through ! refl (fld ! refl (stop !)))) refl (tt, tt) $
    use2 𝓛 (raw ((Takes 𝓛 m run).pre bytes)) (Takes-goes 𝓛 m run κ₁ q₁ held at n are.1.0.1) $
    calls_at ! fm (Takes 𝓛 m run) (takes_met 𝓤 𝓛 𝓜 𝓡 (code.calls-cq_budget::count::Count::take 𝓡.env wired)) bytes (and_then ! (get ! refl) (and_then ! (get ! refl) (no_more !))) (λ t.
    use1 𝓛 (later (some (λ (x : Attempted.Denot). given (Typed t) (‵ (Attempted.own_val x (t ∷ [])) ⊛ ‵ (flft κ₁ q₁))))) (Takes-gives 𝓛 m run κ₁ q₁ held at n t) $
    await ! tt $ pick ! (λ x. learn ! (λ fits. split ! $ lands_as ! refl refl fits $
    use1 𝓛 (raw ((Asks 𝓛 m run).pre (at_attempt 𝓛 m run x t))) (Asks-goes 𝓛 m run x t) $
    calls_at ! fm (Asks 𝓛 m run) (asks_met 𝓤 𝓛 𝓜 𝓡 (code.calls-cq_budget::count::Attempt::is_refused 𝓡.env wired)) (at_attempt 𝓛 m run x t) (and_then ! (get ! refl) (no_more !)) (λ u.
    use1 𝓛 (later (some (λ (refused : Bool). raw (fact 𝓤 (u ≡ vbool refused))))) (Asks-gives 𝓛 m run x t u) $
    await ! tt $ pick ! (λ refused. heard ! (u ≡ vbool refused) (λ told. lands_as ! told refl (tt, tt) $
    -- [the token of κ₁; the count; the inner allocator; the token of κ₂]
    first ! $ branches ! (get ! refl)
    (λ full. sets ! (agg ! (no_more !)) refl (tt, tt) $
    sets ! (agg ! (and_then ! (lit ! tt) (and_then ! (get ! refl) (no_more !)))) refl (Answer-typed false 0 0) $
    returns_within ! (W.post y) refl (look_at ! 0 refl) $ free_all ! refl $ keep ! (0 ∷ 3 ∷ []) $ nothing ! $
    use0 𝓛 (‵ (Answer.own_val (Err (record {})) (answer_val false 0 0 ∷ []))) (Answer-err 𝓛) $ out (answer_val false 0 0) (Err (record {})))
    (λ room. skips ! $ exec ! 𝓣.C 𝓣.Λ En (after 4 here.body) (at_ret En (W.post y)) $
    sets ! (addr ! (through ! refl (fld ! refl (stop !)))) refl (tt, tt) $
    let p = inner_at Z r in let h = r.now.inner in
    let z : (Allocates Z 𝓛 m run).Ghost = at_allocates Z 𝓛 m run κ₁ q₁ p h n al τ in
    move ! (2 ∷ 0 ∷ []) $
    use2 𝓛 (raw ((Allocates Z 𝓛 m run).pre z)) (Allocates-goes Z 𝓛 m run κ₁ q₁ p h (⊑_trans κ₁ κ₂ B.lives bounds.0 le) n al τ said.0 said.1 are.1.0.1 are.1.1.0.1) $
    calls_at ! fm (Allocates Z 𝓛 m run) (met.allocate B_drops) z (and_then ! (get ! refl) (and_then ! (get ! refl) (and_then ! (get ! refl) (no_more !)))) (λ v.
    use1 𝓛 (later (raw (Answered Z 𝓛 m run h τ v) ⊛ ‵ (flft κ₁ q₁))) (Allocates-gives Z 𝓛 m run κ₁ q₁ p h n al τ v) $ await ! tt $ split ! $
    answers Z ! m run h τ v
    -- [the room; the right to free it; the token of κ₁; the count; the token of κ₂]
    (λ b o e. fjoin ! $ lands_as ! e refl (Answer-typed true b o) $
    first ! $ switches_on ! (get_tag ! (vrt ! refl (fld ! refl (stop !))) (whole !)) $ exec ! 𝓣.C 𝓣.Λ En (arm_body 0 arms) Then $
    sets ! (of_opd ! (get_in ! (vrt ! refl (fld ! refl (stop !))) (in_variant ! 0 0 refl refl (whole !)))) refl (tt, tt) $
    sets_last ! (agg ! (and_then ! (lit ! tt) (and_then ! (get ! refl) (no_more !)))) refl (Answer-typed true b o) $
    exec ! 𝓣.C 𝓣.Λ En (after 7 here.body) (at_ret En (W.post y)) $ sets ! (of_opd ! (get ! refl)) refl (Answer-typed true b o) $
    returns ! (look_at ! 0 refl) $ free_all ! refl $ keep ! (0 ∷ 1 ∷ 3 ∷ []) $
    use0 𝓛 (‵ (Answer.own_val (Ok (block_ptr b o)) (answer_val true b o ∷ []))) (Answer-Ok 𝓛 b o) $ out (answer_val true b o) (Ok (block_ptr b o)))
    -- [the token of κ₁; the count; the token of κ₂]
    (λ e. lands_as ! e refl (Answer-typed false 0 0) $
    first ! $ switches_on ! (get_tag ! (vrt ! refl (fld ! refl (stop !))) (whole !)) $ exec ! 𝓣.C 𝓣.Λ En (arm_body 1 arms) Then $
    sets ! (of_opd ! (get_in ! (vrt ! refl (fld ! refl (stop !))) (in_variant ! 1 0 refl refl (whole !)))) refl (tt, tt) $
    sets ! (addr ! (through ! refl (fld ! refl (stop !)))) refl (tt, tt) $ move ! (1 ∷ 0 ∷ []) $
    use2 𝓛 (raw ((Frees 𝓛 m run).pre bytes)) (Frees-goes 𝓛 m run κ₁ q₁ held at n are.1.0.1) $
    calls_at ! fm (Frees 𝓛 m run) (gives_met 𝓤 𝓛 𝓜 𝓡 (code.calls-cq_budget::count::Count::give 𝓡.env wired)) bytes (and_then ! (get ! refl) (and_then ! (get ! refl) (no_more !))) (λ s.
    use1 𝓛 (later (some (λ (x' : Attempted.Denot). given (Typed s) (‵ (Attempted.own_val x' (s ∷ [])) ⊛ ‵ (flft κ₁ q₁))))) (Frees-gives 𝓛 m run κ₁ q₁ held at n s) $
    await ! tt $ pick ! (λ x'. learn ! (λ fits'. split ! $ lands_as ! refl refl fits' $
    use1 𝓛 (raw ((Ends 𝓛 m run).pre (at_attempt 𝓛 m run x' s))) (Ends-goes 𝓛 m run x' s) $
    calls_at ! fm (Ends 𝓛 m run) (ends_met 𝓤 𝓛 𝓜 𝓡 (code.calls-cq_budget::count::Attempt::end 𝓡.env wired)) (at_attempt 𝓛 m run x' s) (and_then ! (get ! refl) (no_more !)) (λ w.
    use1 𝓛 (later (raw (fact 𝓤 (w ≡ vunit)))) (Ends-gives 𝓛 m run x' s w) $ await ! tt $ heard ! (w ≡ vunit) (λ is_unit. lands_as ! is_unit refl (tt, tt) $
    sets_last ! (agg ! (and_then ! (lit ! tt) (and_then ! (get ! refl) (no_more !)))) refl (Answer-typed false 0 0) $
    exec ! 𝓣.C 𝓣.Λ En (after 7 here.body) (at_ret En (W.post y)) $ sets ! (of_opd ! (get ! refl)) refl (Answer-typed false 0 0) $
    returns ! (look_at ! 0 refl) $ free_all ! refl $ nothing ! $
    use0 𝓛 (‵ (Answer.own_val (Err (record {})) (answer_val false 0 0 ∷ []))) (Answer-err 𝓛) $ out (answer_val false 0 0) (Err (record {}))))))))))))))))))))
