-- It counts the bytes that the block gains, lets the inner allocator make it larger, and counts them less where that refuses. Assumes `Logic`.
use Rattle.cq_budget.proofs.Steps.{◌≡◌, ℕ, ◌*◌, ◌<◌, ◌^◌, Bool, true, false, [], ◌∷◌, ◌++◌, refl, sym, subst, w64, proved, after, front, arm_body, Al, token, seen, Answer, answer_val, Answer-typed, Grows, Grows-Sized, Sized, wider, times_capped, Resizes, at_resizes, left_by, Flagged, Resizes-goes, Resizes-gives, flagged, result_of, result_own, asked, heard_all, block_with_items, Fn, vint, vbool, vunit, inst_fn, ex, never, never_e, id⊢, Fml, ftrue, flft, size, capped, capped_fits, ◌⊑◌, ⊑_trans, fact, tables, ‵, raw, ◌⊛◌, some, later, given, prop, at_ret, any_q, After, Sq, ◌$◌, ◌∵◌, !, qed, by, move, keep, use0, use1, use2, split, split3, join, pick, learn, fsplit, fjoin, regoal, suffices, group, await, done, agg, whole, vrt, in_variant, enter, lit, of_opd, size_word, addr, stop, fld, no_more, and_then, first, branches, skips, switches_on, exec, returns, returns_within, alloc_all, pass_all, free_all, look_at, get, get_in, get_tag, through, sets, sets_last, lands_as, env, Env, Wp, WpFn, after_seq, at_return, Body, RawPtr, usize, yes, unhide, shr_dup, hidden_shr, layout, param, uint_vals, uint_Tells, owns, Ptr, block_ptr, null_ptr, in_a_block, rawptr_vals, rawptr_Tells, shr_vals, plain, types_at, RattleType, heard, nothing, calls_at, Ended, framed, Stays, walk_of, stay_dropped, Goes-dropped, ends_at}
use Rattle.cq_budget.proofs.Calls.{Counted, Attempted, Typed, args_with, self_of_three, inner_at, count_at, at_bytes, Takes, Takes-goes, Takes-gives, Frees, Frees-goes, Frees-gives, at_attempt, Asks, Asks-goes, Asks-gives, Ends, Ends-goes, Ends-gives, at_sizes, Betweens, Betweens-goes, Betweens-gives}
use Rattle.cq_budget.proofs.count.Count.TheLaws.{the_row_laws as count_laws}
use Rattle.cq_budget.proofs.count.Count.give.Met.{met as gives_met}
use Rattle.cq_budget.proofs.count.Attempt.end.Met.{met as ends_met}
use Rattle.cq_budget.proofs.bytes_between.Met.{met as between_met}
use Rattle.cq_budget.proofs.count.Count.take.Met.{met as takes_met}
use Rattle.cq_budget.proofs.count.Attempt.is_refused.Met.{met as asks_met}
use Rattle.cq_budget.specs.contracts.BudgetAllocator.grow as f
use Rattle.cq_budget.proofs.BudgetAllocator.grow.Statement.{statement}
use Rattle.cq_budget.proofs.BudgetAllocator.grow.Code as code

module _ (Z : Al) (X : RattleType) where
  abbrev ended : Ended
  ended = f.ended Z.row X Z.g Z.d Z.drops

  abbrev stayed : Stays ended.signature.params ended.kept
  stayed = (stay_dropped (self_of_three Z) yes, (stay_dropped (plain (λ _. RawPtr)) yes, (stay_dropped (plain (λ _. usize)) yes, (stay_dropped (plain (λ _. usize)) yes, (stay_dropped (plain (λ _. usize)) yes, tt)))))

pub grow_spec : {M : Type 1} → statement M
grow_spec 𝓤 𝓛 𝓜 𝓡 wired B X L LX B_ghosts B_dict B_drops met _ =
    let Z : Al = record { row = B; laws = L; g = B_ghosts; d = B_dict; drops = B_drops } in
    let here : Fn = inst_fn (args_with Z X) code.function in
    let c = f.clauses B X B_ghosts B_dict B_drops 𝓛 𝓜.mem 𝓡.returns in let W = walk_of 𝓛 (ended Z X) (stayed Z X) c in
    let 𝓣 = tables 𝓤 𝓛.H 𝓜 𝓡 𝓡.env in
    let goes = Goes-dropped 𝓛 3 (plain (λ _. usize)) yes (λ κs x w. refl) in
    proved 𝓛 (ended Z X) (stayed Z X) c 𝓜 𝓡 (Goes-dropped 𝓛 3 (self_of_three Z) yes (λ κs x w. refl), (Goes-dropped 𝓛 3 (plain (λ _. RawPtr)) yes (λ κs x w. refl), (goes, (goes, (goes, tt)))))
    (f.Key.name (args_with Z X)) here (code.unfolded 𝓤 𝓛.H 𝓜 𝓡 wired (B, (X, tt)) B_dict B_drops)
    (λ κs. (shr_vals, (rawptr_vals, (uint_vals w64, (uint_vals w64, (uint_vals w64, tt)))))) (λ κs. ((λ r vs s. s.0), (rawptr_Tells, (uint_Tells w64, (uint_Tells w64, (uint_Tells w64, tt)))))) (λ κs qs bounds a xs are.
    let κ = κs.0 in let ρ = κs.1.0 in let κT = κs.1.1.0 in let q = qs.0 in let s = qs.1.0 in let qT = qs.1.1.0 in
    let r = a.0 in let len = a.1.1.0 in let old = a.1.1.1.0 in let new = a.1.1.1.1.0 in
    let fl : len < 2 ^ 64 = are.1.1.0.1 in let fo : old < 2 ^ 64 = are.1.1.1.0.1 in let fn : new < 2 ^ 64 = are.1.1.1.1.0.1 in
    let m = 𝓜.mem in let run = 𝓡.returns in let fm = framed 𝓤 𝓛.H 𝓜 𝓣 in
    let held = r.now.count in let at = count_at Z r in let p = inner_at Z r in let h = r.now.inner in
    let y : Ptr → W.Ghost = λ x. ((κs, qs, bounds, (r, (x, (len, (old, (new, tt))))), (shr_vals r, (rawptr_vals x, (uint_vals w64 len, (uint_vals w64 old, (uint_vals w64 new, tt)))))), xs) in
    let block : Ptr → Fml = λ x. block_with_items (token Z h) (param 1 X) x len old xs in
    qed 𝓛 (((‵ (flft κ q) ⊛ ‵ (flft ρ s) ⊛ ‵ (flft κT qT) ⊛ ‵ ftrue) ⊛ ‵ (owns (types_at (ended Z X).signature.params κs) a (y a.1.0).0.4)) ∷ raw (asked 𝓛 (ρ ⊑ B.lives) (κT ⊑ X.lives) (Grows X len old new) (block a.1.0)) ∷ []) ∵
    move ! (1 ∷ []) $ heard_all ! (ρ ⊑ B.lives) (κT ⊑ X.lives) (Grows X len old new) (block a.1.0) (λ le leT said.
    in_a_block ! a.1.0 block (qed 𝓛 (‵ (block null_ptr) ∷ []) ∵ fsplit ! $ keep ! (0 ∷ []) $ by ! (never_e 𝓤 (never 𝓤))) (λ b o e.
    regoal ! (λ x. prop (WpFn 𝓤 𝓛.H 𝓣.C 𝓣.Λ here (shr_vals r ++ (rawptr_vals x ++ (uint_vals w64 len ++ (uint_vals w64 old ++ (uint_vals w64 new ++ []))))) (W.post (y x)))) e refl $
    let Post = W.post (y (block_ptr b o)) in
    let left : Answer.Denot → Fml = left_by Z X (Grows X) 𝓛 m run κ κT q qT p h b o len old new xs in
    let out : (ok : Bool) (b' o' : ℕ) → Sq 𝓛 (‵ (left (result_of ok b' o')) ∷ ‵ (flft κ q) ∷ ‵ (flft ρ s) ∷ ‵ (flft κT qT) ∷ []) (prop (Post (answer_val ok b' o'))) = λ ok b' o'.
    suffices ! _ (ends_at 𝓛 (ended Z X) (stayed Z X) c (y (block_ptr b o)) (answer_val ok b' o') (result_of ok b' o') (tt, (tt, (tt, (tt, (tt, tt))))) (tt, (tt, (tt, (tt, (tt, tt)))))) $
    use0 𝓛 (‵ (Answer.own_val (result_of ok b' o') (answer_val ok b' o' ∷ []))) (result_own 𝓛 ok b' o') $
    nothing ! $ nothing ! $ fjoin ! $ nothing ! $ fjoin ! $ nothing ! $ fjoin ! $ nothing ! $ fjoin ! $ nothing ! $ fjoin ! $ join ! $
    nothing ! $ move ! (5 ∷ 0 ∷ []) $ join ! $ move ! (4 ∷ 0 ∷ []) $ join ! $ move ! (3 ∷ 0 ∷ []) $ join ! $ join ! $ done ! in
    let z : Sized X len old new = Grows-Sized X len old new said in let each : ℕ = capped (size (layout X)) in
    let called : (Resizes Z X (Grows X) 𝓛 m run).Ghost = at_resizes Z X (Grows X) 𝓛 m run κ κT q qT p h b o len old new xs in
    move ! (1 ∷ []) $ split ! $ split3 ! $ move ! (2 ∷ []) $ split ! $ move ! (4 ∷ []) $ fsplit ! $ fsplit ! $ move ! (1 ∷ []) $ unhide ! $ fsplit ! $ fsplit ! $
    use1 𝓛 (‵ (seen Z κ p h)) (id⊢ 𝓤 _) $ move ! (1 ∷ []) $ fsplit ! $
    use1 𝓛 (‵ (hidden_shr Counted κ held at.0 at.1)) (id⊢ 𝓤 _) $ shr_dup ! Counted count_laws.shr_laws held at.0 at.1 κ $ keep ! (0 ∷ 9 ∷ 1 ∷ 3 ∷ 11 ∷ 7 ∷ 10 ∷ []) $
    -- [the count; the token of κ; the count again; the inner allocator; the block; the tokens of κT and ρ]
    enter ! _ _ _ _ _ $
    alloc_all ! (λ l. pass_all ! refl ((tt, tt), ((tt, tt), ((tt, record { fits = fl }), ((tt, record { fits = fo }), ((tt, record { fits = fn }), tt))))) $
    let En : Env 𝓤 𝓛.H = env here.locals l in
    let Then : After 𝓤 𝓛.H = any_q (after_seq 𝓤 𝓛.H (Wp 𝓤 𝓛.H 𝓣.C 𝓣.Λ En (after 8 here.body) (at_return 𝓤 𝓛.H En Post)) (at_return 𝓤 𝓛.H En Post)) in
    let arms : Body = front (after 7 here.body) in
    let fits : new * each < 2 ^ 64 = subst (λ (n : ℕ). n < 2 ^ 64) (sym (times_capped new (size (layout X)) z.3)) (wider (new * size (layout X)) z.3) in
    let sizes = at_sizes 𝓛 m run each old new in
    use0 𝓛 (raw ((Betweens 𝓛 m run).pre sizes)) (Betweens-goes 𝓛 m run each old new (capped_fits (size (layout X))) fo fn (said.1, fits)) $
    calls_at ! fm (Betweens 𝓛 m run) (between_met 𝓤 𝓛 𝓜 𝓡 (code.calls-cq_budget::bytes_between 𝓡.env wired)) sizes (and_then ! (size_word !) (and_then ! (get ! refl) (and_then ! (get ! refl) (no_more !)))) (λ d.
    use1 𝓛 (later (some (λ (n : ℕ). raw (fact 𝓤 ((d ≡ vint w64 n) × (n < 2 ^ 64)))))) (Betweens-gives 𝓛 m run each old new d) $
    await ! tt $ pick ! (λ n. heard ! ((d ≡ vint w64 n) × (n < 2 ^ 64)) (λ is. lands_as ! is.0 refl (tt, record { fits = is.1 }) $
    let bytes = at_bytes 𝓛 m run κ q held at n in
    sets ! (addr ! (through ! refl (fld ! refl (stop !)))) refl (tt, tt) $
    use2 𝓛 (raw ((Takes 𝓛 m run).pre bytes)) (Takes-goes 𝓛 m run κ q held at n is.1) $
    calls_at ! fm (Takes 𝓛 m run) (takes_met 𝓤 𝓛 𝓜 𝓡 (code.calls-cq_budget::count::Count::take 𝓡.env wired)) bytes (and_then ! (get ! refl) (and_then ! (get ! refl) (no_more !))) (λ t.
    use1 𝓛 (later (some (λ (x : Attempted.Denot). given (Typed t) (‵ (Attempted.own_val x (t ∷ [])) ⊛ ‵ (flft κ q))))) (Takes-gives 𝓛 m run κ q held at n t) $
    await ! tt $ pick ! (λ x. learn ! (λ typed. split ! $ lands_as ! refl refl typed $
    use1 𝓛 (raw ((Asks 𝓛 m run).pre (at_attempt 𝓛 m run x t))) (Asks-goes 𝓛 m run x t) $
    calls_at ! fm (Asks 𝓛 m run) (asks_met 𝓤 𝓛 𝓜 𝓡 (code.calls-cq_budget::count::Attempt::is_refused 𝓡.env wired)) (at_attempt 𝓛 m run x t) (and_then ! (get ! refl) (no_more !)) (λ u.
    use1 𝓛 (later (some (λ (refused : Bool). raw (fact 𝓤 (u ≡ vbool refused))))) (Asks-gives 𝓛 m run x t u) $
    await ! tt $ pick ! (λ refused. heard ! (u ≡ vbool refused) (λ told. lands_as ! told refl (tt, tt) $
    -- [the token of κ; the count; the inner allocator; the block; the tokens of κT and ρ]
    first ! $ branches ! (get ! refl)
    (λ full. sets ! (agg ! (no_more !)) refl (tt, tt) $
    sets ! (agg ! (and_then ! (lit ! tt) (and_then ! (get ! refl) (no_more !)))) refl (Answer-typed false 0 0) $
    returns_within ! Post refl (look_at ! 0 refl) $ free_all ! refl $ keep ! (3 ∷ 0 ∷ 5 ∷ 4 ∷ []) $ out false 0 0)
    (λ room. skips ! $ exec ! 𝓣.C 𝓣.Λ En (after 5 here.body) (at_ret En Post) $
    sets ! (addr ! (through ! refl (fld ! refl (stop !)))) refl (tt, tt) $
    move ! (3 ∷ 2 ∷ 0 ∷ 4 ∷ []) $ group ! 4 $
    use1 𝓛 (raw ((Resizes Z X (Grows X) 𝓛 m run).pre called)) (Resizes-goes Z X (Grows X) 𝓛 m run κ κT q qT p h b o len old new xs (⊑_trans κ ρ B.lives bounds.0 le) leT said fl fo fn) $
    calls_at ! fm (Resizes Z X (Grows X) 𝓛 m run) (met.grow B_drops X LX) called (and_then ! (get ! refl) (and_then ! (get ! refl) (and_then ! (get ! refl) (and_then ! (get ! refl) (and_then ! (get ! refl) (no_more !)))))) (λ v.
    use1 𝓛 (later (raw (ex 𝓤 (Flagged 𝓛 left v)) ⊛ ‵ (flft κ q) ⊛ ‵ (flft κT qT))) (Resizes-gives Z X (Grows X) 𝓛 m run κ κT q qT p h b o len old new xs v) $ await ! tt $ split3 ! $
    -- [the answer's block; the tokens of κ and κT; the count; the token of ρ]
    flagged ! v left
    (λ b' o' e'. lands_as ! e' refl (Answer-typed true b' o') $
    first ! $ switches_on ! (get_tag ! (vrt ! refl (fld ! refl (stop !))) (whole !)) $ exec ! 𝓣.C 𝓣.Λ En (arm_body 0 arms) Then $
    sets ! (of_opd ! (get_in ! (vrt ! refl (fld ! refl (stop !))) (in_variant ! 0 0 refl refl (whole !)))) refl (tt, tt) $
    sets_last ! (agg ! (and_then ! (lit ! tt) (and_then ! (get ! refl) (no_more !)))) refl (Answer-typed true b' o') $
    exec ! 𝓣.C 𝓣.Λ En (after 8 here.body) (at_ret En Post) $ sets ! (of_opd ! (get ! refl)) refl (Answer-typed true b' o') $
    returns ! (look_at ! 0 refl) $ free_all ! refl $ keep ! (0 ∷ 1 ∷ 4 ∷ 2 ∷ []) $ out true b' o')
    (λ e'. lands_as ! e' refl (Answer-typed false 0 0) $
    first ! $ switches_on ! (get_tag ! (vrt ! refl (fld ! refl (stop !))) (whole !)) $ exec ! 𝓣.C 𝓣.Λ En (arm_body 1 arms) Then $
    sets ! (of_opd ! (get_in ! (vrt ! refl (fld ! refl (stop !))) (in_variant ! 1 0 refl refl (whole !)))) refl (tt, tt) $
    sets ! (addr ! (through ! refl (fld ! refl (stop !)))) refl (tt, tt) $ move ! (3 ∷ 1 ∷ []) $
    use2 𝓛 (raw ((Frees 𝓛 m run).pre bytes)) (Frees-goes 𝓛 m run κ q held at n is.1) $
    calls_at ! fm (Frees 𝓛 m run) (gives_met 𝓤 𝓛 𝓜 𝓡 (code.calls-cq_budget::count::Count::give 𝓡.env wired)) bytes (and_then ! (get ! refl) (and_then ! (get ! refl) (no_more !))) (λ g.
    use1 𝓛 (later (some (λ (x' : Attempted.Denot). given (Typed g) (‵ (Attempted.own_val x' (g ∷ [])) ⊛ ‵ (flft κ q))))) (Frees-gives 𝓛 m run κ q held at n g) $
    await ! tt $ pick ! (λ x'. learn ! (λ typed'. split ! $ lands_as ! refl refl typed' $
    use1 𝓛 (raw ((Ends 𝓛 m run).pre (at_attempt 𝓛 m run x' g))) (Ends-goes 𝓛 m run x' g) $
    calls_at ! fm (Ends 𝓛 m run) (ends_met 𝓤 𝓛 𝓜 𝓡 (code.calls-cq_budget::count::Attempt::end 𝓡.env wired)) (at_attempt 𝓛 m run x' g) (and_then ! (get ! refl) (no_more !)) (λ w.
    use1 𝓛 (later (raw (fact 𝓤 (w ≡ vunit)))) (Ends-gives 𝓛 m run x' g w) $ await ! tt $ heard ! (w ≡ vunit) (λ is_unit. lands_as ! is_unit refl (tt, tt) $
    sets_last ! (agg ! (and_then ! (lit ! tt) (and_then ! (get ! refl) (no_more !)))) refl (Answer-typed false 0 0) $
    exec ! 𝓣.C 𝓣.Λ En (after 8 here.body) (at_ret En Post) $ sets ! (of_opd ! (get ! refl)) refl (Answer-typed false 0 0) $
    returns ! (look_at ! 0 refl) $ free_all ! refl $ keep ! (1 ∷ 0 ∷ 3 ∷ 2 ∷ []) $ out false 0 0)))))))))))))))))))))
