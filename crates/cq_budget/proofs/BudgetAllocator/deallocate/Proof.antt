-- It gives the block back to the inner allocator, and counts its bytes less. Assumes `Logic`.
use Rattle.cq_budget.proofs.Steps.{◌≡◌, List, [], ◌∷◌, ◌++◌, refl, w64, proved, Al, token, seen, Gives, at_gives, Gives-goes, Gives-Gives, Fn, Val, vunit, inst_fn, never, id⊢, fst∗, Fml, ftrue, fsep, flft, size, align, capped, ◌⊑◌, ⊑_trans, sem, fact, tables, ‵, raw, ◌⊛◌, later, some, given, prop, pick, ◌$◌, ◌∵◌, !, qed, move, keep, use1, use2, split, split3, join, learn, fsplit, fjoin, feq_i, regoal, suffices, group, await, done, enter, of_opd, unit_lit, addr, stop, fld, no_more, and_then, returns, alloc_all, pass_all, free_all, look_at, get, through, sets, lands_as, RawPtr, usize, yes, unhide, uint_vals, uint_Tells, owns, Ptr, block_ptr, null_ptr, in_a_block, room_for, rawptr_vals, rawptr_Tells, shr_vals, plain, types_at, heard, nothing, calls_at, Ended, framed, Stays, walk_of, stay_dropped, Goes-dropped, ends_at, WpFn}
use Rattle.cq_budget.proofs.Calls.{Attempted, Typed, args, self, inner_at, count_at, at_bytes, Frees, Frees-goes, Frees-gives, at_attempt, Ends, Ends-goes, Ends-gives}
use Rattle.cq_budget.proofs.count.Attempt.end.Met.{met as ends_met}
use Rattle.cq_budget.proofs.count.Count.give.Met.{met as gives_met}
use Rattle.cq_budget.specs.contracts.BudgetAllocator.deallocate as f
use Rattle.cq_budget.proofs.BudgetAllocator.deallocate.Statement.{statement}
use Rattle.cq_budget.proofs.BudgetAllocator.deallocate.Code as code

module _ (Z : Al) where
  abbrev ended : Ended
  ended = f.ended Z.row Z.g Z.d Z.drops

  abbrev stayed : Stays ended.signature.params ended.kept
  stayed = (stay_dropped (self Z) yes, (stay_dropped (plain (λ _. RawPtr)) yes, (stay_dropped (plain (λ _. usize)) yes, (stay_dropped (plain (λ _. usize)) yes, tt))))

pub deallocate_spec : {M : Type 1} → statement M
deallocate_spec 𝓤 𝓛 𝓜 𝓡 wired B L B_ghosts B_dict B_drops met _ =
    let Z : Al = record { row = B; laws = L; g = B_ghosts; d = B_dict; drops = B_drops } in
    let here : Fn = inst_fn (args Z) code.function in
    let c = f.clauses B B_ghosts B_dict B_drops 𝓛 𝓜.mem 𝓡.returns in let W = walk_of 𝓛 (ended Z) (stayed Z) c in
    let 𝓣 = tables 𝓤 𝓛.H 𝓜 𝓡 𝓡.env in
    let goes = Goes-dropped 𝓛 2 (plain (λ _. usize)) yes (λ κs x w. refl) in
    proved 𝓛 (ended Z) (stayed Z) c 𝓜 𝓡 (Goes-dropped 𝓛 2 (self Z) yes (λ κs x w. refl), (Goes-dropped 𝓛 2 (plain (λ _. RawPtr)) yes (λ κs x w. refl), (goes, (goes, tt))))
    (f.Key.name (args Z)) here (code.unfolded 𝓤 𝓛.H 𝓜 𝓡 wired (B, tt) B_dict B_drops)
    (λ κs. (shr_vals, (rawptr_vals, (uint_vals w64, (uint_vals w64, tt))))) (λ κs. ((λ r vs s. s.0), (rawptr_Tells, (uint_Tells w64, (uint_Tells w64, tt))))) (λ κs qs bounds a τ are.
    let κ₁ = κs.0 in let κ₂ = κs.1.0 in let q₁ = qs.0 in let q₂ = qs.1.0 in
    let r = a.0 in let n = a.1.1.0 in let al = a.1.1.1.0 in let h = r.now.inner in let p = inner_at Z r in
    let y : Ptr → W.Ghost = λ x. ((κs, qs, bounds, (r, (x, (n, (al, tt)))), (shr_vals r, (rawptr_vals x, (uint_vals w64 n, (uint_vals w64 al, tt))))), τ) in
    let Said : Type 0 = (capped (size τ) ≡ n) × (capped (align τ) ≡ al) in
    let Block : Ptr → Fml = λ x. fsep (room_for τ x) (token Z h τ x) in
    qed 𝓛 (((‵ (flft κ₁ q₁) ⊛ ‵ (flft κ₂ q₂) ⊛ ‵ ftrue) ⊛ ‵ (owns (types_at (ended Z).signature.params κs) a (y a.1.0).0.4))
    ∷ (raw (fact 𝓤 (κ₂ ⊑ B.lives)) ⊛ raw (fact 𝓤 Said) ⊛ ‵ (Block a.1.0)) ∷ []) ∵
    move ! (1 ∷ []) $ split3 ! $ heard ! (κ₂ ⊑ B.lives) (λ le. heard ! Said (λ said.
    in_a_block ! a.1.0 Block (fst∗ 𝓤 (never 𝓤) (sem 𝓛 (token Z h τ null_ptr))) (λ b o e.
    regoal ! (λ x. prop (WpFn 𝓤 𝓛.H 𝓣.C 𝓣.Λ here (shr_vals r ++ (rawptr_vals x ++ (uint_vals w64 n ++ (uint_vals w64 al ++ [])))) (W.post (y x)))) e refl $
    -- [the room and the right to free; the tokens and the parameters]
    move ! (1 ∷ []) $ split ! $ split ! $ move ! (2 ∷ []) $ fsplit ! $ fsplit ! $ move ! (1 ∷ []) $ unhide ! $ fsplit ! $ fsplit ! $
    use1 𝓛 (‵ (seen Z κ₁ p h)) (id⊢ 𝓤 _) $ move ! (1 ∷ []) $ fsplit ! $ keep ! (8 ∷ 2 ∷ 6 ∷ 0 ∷ 7 ∷ []) $ fsplit ! $
    -- [the room; the right to free it; the inner allocator; the token of κ₁; the count; the token of κ₂]
    enter ! _ _ _ _ _ $
    alloc_all ! (λ l. pass_all ! refl ((tt, tt), ((tt, tt), ((tt, record { fits = are.1.1.0.1 }), ((tt, record { fits = are.1.1.1.0.1 }), tt)))) $
    sets ! (addr ! (through ! refl (fld ! refl (stop !)))) refl (tt, tt) $
    let m = 𝓜.mem in let run = 𝓡.returns in let fm = framed 𝓤 𝓛.H 𝓜 𝓣 in
    let z : (Gives Z 𝓛 m run).Ghost = at_gives Z 𝓛 m run κ₁ q₁ p h b o n al τ in
    group ! 4 $
    use1 𝓛 (raw ((Gives Z 𝓛 m run).pre z)) (Gives-goes Z 𝓛 m run κ₁ q₁ p h (⊑_trans κ₁ κ₂ B.lives bounds.0 le) b o n al τ said.0 said.1 are.1.1.0.1 are.1.1.1.0.1) $
    calls_at ! fm (Gives Z 𝓛 m run) (met.deallocate B_drops) z (and_then ! (get ! refl) (and_then ! (get ! refl) (and_then ! (get ! refl) (and_then ! (get ! refl) (no_more !))))) (λ v.
    use1 𝓛 (later (given (v ≡ vunit) (‵ (flft κ₁ q₁)))) (Gives-Gives Z 𝓛 m run κ₁ q₁ p h b o n al τ v) $ await ! tt $ learn ! (λ is_unit.
    lands_as ! is_unit refl (tt, tt) $ sets ! (addr ! (through ! refl (fld ! refl (stop !)))) refl (tt, tt) $
    let held = r.now.count in let at = count_at Z r in let bytes = at_bytes 𝓛 m run κ₁ q₁ held at n in move ! (1 ∷ 0 ∷ []) $
    use2 𝓛 (raw ((Frees 𝓛 m run).pre bytes)) (Frees-goes 𝓛 m run κ₁ q₁ held at n are.1.1.0.1) $
    calls_at ! fm (Frees 𝓛 m run) (gives_met 𝓤 𝓛 𝓜 𝓡 (code.calls-cq_budget::count::Count::give 𝓡.env wired)) bytes (and_then ! (get ! refl) (and_then ! (get ! refl) (no_more !))) (λ s.
    use1 𝓛 (later (some (λ (x : Attempted.Denot). given (Typed s) (‵ (Attempted.own_val x (s ∷ [])) ⊛ ‵ (flft κ₁ q₁))))) (Frees-gives 𝓛 m run κ₁ q₁ held at n s) $
    await ! tt $ pick ! (λ x. learn ! (λ fits. split ! $ lands_as ! refl refl fits $
    use1 𝓛 (raw ((Ends 𝓛 m run).pre (at_attempt 𝓛 m run x s))) (Ends-goes 𝓛 m run x s) $
    calls_at ! fm (Ends 𝓛 m run) (ends_met 𝓤 𝓛 𝓜 𝓡 (code.calls-cq_budget::count::Attempt::end 𝓡.env wired)) (at_attempt 𝓛 m run x s) (and_then ! (get ! refl) (no_more !)) (λ w.
    use1 𝓛 (later (raw (fact 𝓤 (w ≡ vunit)))) (Ends-gives 𝓛 m run x s w) $ await ! tt $ heard ! (w ≡ vunit) (λ is_unit'.
    lands_as ! is_unit' refl (tt, tt) $ sets ! (of_opd ! (unit_lit !)) refl (tt, tt) $ returns ! (look_at ! 0 refl) $ free_all ! refl $
    -- [the token of κ₁; the token of κ₂]
    suffices ! _ (ends_at 𝓛 (ended Z) (stayed Z) c (y (block_ptr b o)) vunit tt (tt, (tt, (tt, (tt, tt)))) (tt, (tt, (tt, (tt, tt))))) $
    nothing ! $ feq_i ! (List Val) (vunit ∷ []) _ refl $
    nothing ! $ nothing ! $ fjoin ! $ nothing ! $ fjoin ! $ nothing ! $ fjoin ! $ nothing ! $ fjoin ! $ join ! $
    move ! (2 ∷ 3 ∷ []) $ join ! $ join ! $ done !))))))))))))
